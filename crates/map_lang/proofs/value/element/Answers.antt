-- A place of 0 or more is the number of elements before it.
use Rattle.std.proofs.Common.{◌≡◌, ℤ, pos, negsuc, false, FitsSigned, to_z, of_z, refl, sym, ◌∙◌}
use Rattle.std.specs.Int.{w64}
use lib.IntN.{nat_abs}
use lib.Signed.{lt_z}
use Rattle.std.proofs.lemmas.Int.{to_z-of_z}
use Rattle.map_lang.proofs.Walking.{element_found, element_past}
use Rattle.map_lang.proofs.value.element.Goals as goal

not_negative : (z : ℤ) → lt_z z (pos 0) ≡ false → z ≡ pos (nat_abs z)
not_negative (pos n) h = refl
not_negative (negsuc n) h = cc

as_place : (z : ℤ) → FitsSigned w64 z → lt_z (to_z w64 (of_z w64 z)) (pos 0) ≡ false → z ≡ pos (nat_abs (to_z w64 (of_z w64 z)))
as_place z fits h = sym (to_z-of_z w64 z fits) ∙ not_negative (to_z w64 (of_z w64 z)) h

pub returns : goal.returns
returns c = rw c.in-Array.is (element_found c.args.place c.in-Array.terms c.as_slice-items.result.now (nat_abs (to_z w64 (of_z w64 c.args.place))) c.index-items-index.result (as_place c.args.place c.ranges.place c.if-place-lt0.false) c.as_slice-items.ensures c.if-index-items.false c.index-items-index.is)

pub returns-then-index-items : goal.returns-then-index-items
returns-then-index-items c = rw c.in-Array.is (element_past c.args.place c.in-Array.terms c.as_slice-items.result.now (nat_abs (to_z w64 (of_z w64 c.args.place))) (as_place c.args.place c.ranges.place c.if-place-lt0.false) c.as_slice-items.ensures c.if-index-items.true)
