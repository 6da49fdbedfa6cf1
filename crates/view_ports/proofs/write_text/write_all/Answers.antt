use Rattle.std.proofs.Common.{◌≡◌, ◌+◌, ◌-◌, ◌++◌, List, ℕ, length, take, drop, Result, Ok, Err, OnErr, sym, ap, ◌∙◌, subst, take-append-drop, length-take, length-drop, arith}
use Rattle.std.proofs.Math.Seq.{take-add}
use Rattle.std.proofs.lemmas.List.{take_rest}
use Rattle.std.proofs.KnownBytes.{Appends-trans, Appends-kept}
use Rattle.std.specs.Io.KnownBytes.{Appends}
use Rattle.view_ports.specs.Exchanges.{IsPrefixOf}
use Rattle.view_ports.proofs.write_text.write_all.Goals as goal

OnErr-always : {T E : Type 0} (result : Result T E) (P : Type 0) → P → OnErr result P
OnErr-always (Ok value) P holds = tt
OnErr-always (Err fault) P holds = holds

-- the front that is written is one write longer
one_longer : (text : List ℕ) (done count : ℕ) → take done text ++ take count (take (length text - done) (drop done text)) ≡ take (done + count) text
one_longer text done count = ap (λ rest. take done text ++ take count rest) (take_rest text done) ∙ sym (take-add done count text)

-- what was written before the write that failed
pub returns-in_err-done-clause-err : goal.returns-in_err-done-clause-err
returns-in_err-done-clause-err g c =
    let text = c.args.text.now in
    let done = c.loop-done.done in
    let held = g.K.Sink.held in
    let front : (part : List ℕ) × IsPrefixOf part text × Appends (held c.args.sink.now) (held c.write.new.self) part = (
      take done text,
      (drop done text, sym (take-append-drop done text)),
      Appends-kept _ _ _ _ c.loop-done.invariant.written c.in_err-done.ensures.bytes,
    ) in
    OnErr-always _ _ front

pub loop-done-preserved : goal.loop-done-preserved
loop-done-preserved g c =
    let text = c.args.text.now in
    let done = c.loop-done.done in
    let count = c.in_ok-done.field-0 in
    let held = g.K.Sink.held in
    let within = c.loop-done.invariant.within in
    let bound = simp (length-take, length-drop) at c.in_ok-done.ensures.bound in
    record {
      within = omega (arith, within, bound);
      written = subst (Appends (held c.args.sink.now) (held c.write.new.self)) (one_longer text done count) (Appends-trans _ _ _ _ _ c.loop-done.invariant.written c.in_ok-done.ensures.bytes);
      later = omega (arith, c.loop-done.invariant.later, c.in_ok-done.ensures.cause.later);
    }
