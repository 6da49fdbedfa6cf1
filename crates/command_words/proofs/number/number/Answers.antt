use Rattle.std.proofs.Common.{◌≡◌, ◌<◌, ◌^◌, ◌∙◌, ℕ, sym, ap, Result, Ok, Err, decimal, arith}
use Rattle.std.proofs.lemmas.Fmt.{parse-decimal}
use Rattle.command_words.proofs.number.number.Goals.{else-least-n-via-then-least-n+then-n-most+else-is_written, else-least-n-via-then-least-n+else-n-most, else-least-n-via-else-least-n}
use Rattle.command_words.proofs.number.number.Goals as goal

ok_value : {E : Type 0} (m n : ℕ) (r : Result ℕ E) → r ≡ Ok m → r ≡ Ok n → m ≡ n
ok_value {E} m n r a b = ap value (sym a ∙ b)
  where
    value : Result ℕ E → ℕ
    value (Ok x) = x
    value (Err e) = 0

pub returns-in_default-clause-none : goal.returns-in_default-clause-none
returns-in_default-clause-none c = λ none n is.
    let small : n < 2 ^ 32 = omega (arith, is.high, c.ranges.most) in
    c.in_default.not-Ok n (parse-decimal 32 n c.args.text.now c.parse.result small (omega (arith, small)) is.digits c.parse.ensures.value.0)

pub returns-else-least-n-clause-none : goal.returns-else-least-n-clause-none
returns-else-least-n-clause-none c = λ none n is.
    let small : n < 2 ^ 32 = omega (arith, is.high, c.ranges.most) in
    let read : c.in-Ok.n ≡ n = ok_value c.in-Ok.n n c.parse.result c.in-Ok.is
    (parse-decimal 32 n c.args.text.now c.parse.result small (omega (arith, small)) is.digits c.parse.ensures.value.0) in
    elim c.else-least-n.branch [
      | else-least-n-via-then-least-n+then-n-most+else-is_written w ↦
          let written = w.is_written.ensures.1 (is.digits ∙ ap decimal (sym read)) in
          grind (arith, written, w.if-is_written.false)
      | else-least-n-via-then-least-n+else-n-most w ↦ omega (arith, w.if-n-most.false, is.high, read)
      | else-least-n-via-else-least-n w ↦ omega (arith, w.if-least-n.false, is.low, read)
    ]
