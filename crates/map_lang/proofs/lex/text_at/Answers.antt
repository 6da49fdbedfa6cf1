-- Between the quotes stands what holds no quote.
use Rattle.std.proofs.Common.{◌≡◌, ◌+◌, ◌-◌, ◌<◌, ◌≤◌, List, ℕ, take, drop, length, suc, ap, ◌∙◌, arith, length-drop}
use Rattle.std.proofs.lemmas.List.{take_all}
use Rattle.map_lang.proofs.Cut.{text_found, text_bounds}
use Rattle.map_lang.proofs.lex.text_at.Goals as goal

rest_whole : (bs : List ℕ) → take (length bs - 1) (drop 1 bs) ≡ drop 1 bs
rest_whole bs = take_all (length bs - 1) (drop 1 bs) (omega (arith, length-drop 1 bs))

behind_quote : (bytes source : List ℕ) → bytes ≡ source → take (length bytes - 1) (drop 1 bytes) ≡ drop 1 source
behind_quote bytes source e = rest_whole bytes ∙ ap (drop 1) e

shorter : (bytes source : List ℕ) (n : ℕ) → bytes ≡ source → 0 < length source → n ≤ length (take (length bytes - 1) (drop 1 bytes)) → (n + 1 ≡ length bytes → ⊥) → suc n < length source
shorter bytes source n e some within other =
    let same = ap length e in
    let tail = ap length (behind_quote bytes source e) in
    omega (arith, length-drop 1 source)

pub range-requires-clause-start_boundary : goal.range-requires-clause-start_boundary
range-requires-clause-start_boundary c =
    let n = c.run_of-len.result in
    let source = c.args.source.now in
    let tail = behind_quote c.as_bytes-bytes.result.now source c.as_bytes-bytes.ensures.value in
    let ends = rw tail at c.run_of-len.ensures.ends in
    let low = shorter c.as_bytes-bytes.result.now source n c.as_bytes-bytes.ensures.value c.requires.some c.run_of-len.ensures.within c.if-len-bytes.false in
    λ _. (text_bounds source n c.utf8.source c.requires.quoted (omega (arith, low)) ends).0

pub range-requires-clause-end_boundary : goal.range-requires-clause-end_boundary
range-requires-clause-end_boundary c =
    let n = c.run_of-len.result in
    let source = c.args.source.now in
    let tail = behind_quote c.as_bytes-bytes.result.now source c.as_bytes-bytes.ensures.value in
    let ends = rw tail at c.run_of-len.ensures.ends in
    let low = shorter c.as_bytes-bytes.result.now source n c.as_bytes-bytes.ensures.value c.requires.some c.run_of-len.ensures.within c.if-len-bytes.false in
    (text_bounds source n c.utf8.source c.requires.quoted (omega (arith, low)) ends).1

pub returns-clause-found : goal.returns-clause-found
returns-clause-found c =
    let n = c.run_of-len.result in
    let source = c.args.source.now in
    let tail = behind_quote c.as_bytes-bytes.result.now source c.as_bytes-bytes.ensures.value in
    let ends = rw tail at c.run_of-len.ensures.ends in
    let all = rw tail at c.run_of-len.ensures.passing in
    let low = shorter c.as_bytes-bytes.result.now source n c.as_bytes-bytes.ensures.value c.requires.some c.run_of-len.ensures.within c.if-len-bytes.false in
    let same : n + 1 - 1 ≡ n = omega arith in
    let text : c.in_ok-text.text ≡ take n (drop 1 source) = c.in_ok-text.ensures ∙ c.range.ensures.value ∙ ap (λ k. take k (drop 1 source)) same in
    rw text (text_found source n c.utf8.source c.requires.quoted low all ends)
