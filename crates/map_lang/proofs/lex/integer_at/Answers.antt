use Rattle.std.proofs.Common.{◌≡◌, ◌<◌, ◌-◌, ◌^◌, List, ℕ, ℤ, pos, negsuc, FitsSigned, Ok, to_z, of_z, take, sym, ap, ◌∙◌, arith, rules}
use Rattle.std.specs.Int.{w64}
use Rattle.std.specs.Fmt.{signed_decimal}
use lib.Signed.{mag}
use Rattle.std.proofs.lemmas.Bool.{false≢true}
use Rattle.std.proofs.lemmas.Int.{ints, to_z-of_z}
use Rattle.std.proofs.lemmas.Fmt.{parse-signed_decimal}
use Rattle.std.proofs.lemmas.Slice.Eq.{bytes_eq-Decides}
use Rattle.map_lang.proofs.Lexed.{number_run}
use Rattle.map_lang.proofs.Cut.{number_boundary, number_found}
use Rattle.map_lang.proofs.lex.integer_at.Goals as goal

pub range-text-requires-clause-end_boundary : goal.range-text-requires-clause-end_boundary
range-text-requires-clause-end_boundary c =
    let within = rw c.as_bytes.ensures.value at c.integer_len-len.ensures.within in
    let signed = rw c.as_bytes.ensures.value at c.integer_len-len.ensures.signed in
    let plain = rw c.as_bytes.ensures.value at c.integer_len-len.ensures.digits in
    number_boundary c.args.source.now c.integer_len-len.result c.utf8.source within signed plain

-- what is cut is what the number prints as
text_is : (source : List ℕ) (n : ℕ) (text : List ℕ) → text ≡ take (n - 0) source → text ≡ take n source
text_is source n text e = let same : n - 0 ≡ n = omega arith in e ∙ ap (λ k. take k source) same

small : (z : ℤ) → FitsSigned w64 z → mag z < 2 ^ 63
small (pos n) h = omega (arith, ints)
small (negsuc n) h = omega (arith, ints)

pub returns-in_default-clause-refused : goal.returns-in_default-clause-refused
returns-in_default-clause-refused c =
    let signed = rw c.as_bytes.ensures.value at c.integer_len-len.ensures.signed in
    let plain = rw c.as_bytes.ensures.value at c.integer_len-len.ensures.digits in
    λ _ z rest e whole.
    let printed = number_run c.args.source.now c.integer_len-len.result z rest e whole.0 whole.1 signed plain in
    let text = text_is c.args.source.now c.integer_len-len.result c.range-text.result.now c.range-text.ensures.value in
    c.in_default.not-Ok z (parse-signed_decimal w64 z c.range-text.result.now c.parse.result whole.0 (small z whole.0) (text ∙ printed) c.parse.ensures.value.0)

pub returns-then-eq-clause-found : goal.returns-then-eq-clause-found
returns-then-eq-clause-found c =
    let within = rw c.as_bytes.ensures.value at c.integer_len-len.ensures.within in
    let signed = rw c.as_bytes.ensures.value at c.integer_len-len.ensures.signed in
    let plain = rw c.as_bytes.ensures.value at c.integer_len-len.ensures.digits in
    let text = text_is c.args.source.now c.integer_len-len.result c.range-text.result.now c.range-text.ensures.value in
    let same = (bytes_eq-Decides c.format.result.now c.range-text.result.now).0 (sym c.if-eq.ensures) in
    number_found c.args.source.now c.integer_len-len.result _ c.utf8.source within signed plain (sym text ∙ sym same ∙ c.format.ensures.text) (search rules)

pub returns-else-eq-clause-refused : goal.returns-else-eq-clause-refused
returns-else-eq-clause-refused c =
    let signed = rw c.as_bytes.ensures.value at c.integer_len-len.ensures.signed in
    let plain = rw c.as_bytes.ensures.value at c.integer_len-len.ensures.digits in
    λ _ z rest e whole.
    let printed = number_run c.args.source.now c.integer_len-len.result z rest e whole.0 whole.1 signed plain in
    let text = text_is c.args.source.now c.integer_len-len.result c.range-text.result.now c.range-text.ensures.value in
    let read : c.parse.result ≡ Ok z = parse-signed_decimal w64 z c.range-text.result.now c.parse.result whole.0 (small z whole.0) (text ∙ printed) c.parse.ensures.value.0 in
    let number : c.in-Ok.number ≡ z = cc in
    let back : to_z w64 (of_z w64 c.in-Ok.number) ≡ z = ap (λ y. to_z w64 (of_z w64 y)) number ∙ to_z-of_z w64 z whole.0 in
    let same : c.format.result.now ≡ c.range-text.result.now = c.format.ensures.text ∙ ap signed_decimal back ∙ sym printed ∙ sym text in
    false≢true (c.if-eq.ensures ∙ (bytes_eq-Decides c.format.result.now c.range-text.result.now).1 same)
