-- The value of a row that a tree keeps is one that the reduce gives, within bounds, and so is the value of no rows.
use Rattle.std.proofs.Common.{◌≡◌, ◌≢◌, ℕ, suc, ◌+◌, ◌*◌, ◌^◌, ◌≤◌, ℤ, pos, ◌+ℤ◌, nat_lt, List, [], ◌∷◌, length, true, false, Option, Some, None, FitsSigned, w64, refl, sym, subst, arith, ltb-true}
use Rattle.std.specs.Int.{w128}
use Rattle.std.specs.List.{AllByRecursion, sum_by}
use Rattle.std.proofs.lemmas.Int.{ints}
use Rattle.serde_json.specs.Written.{items_text}
use Rattle.json_terms.specs.Json.{Json, number, is_false, is_null, is_true, object, array, string, Items, no_items, item, list_of_items}
use Rattle.json_terms.specs.Text.{text_of, items_serde_of}
use Rattle.view_ports.specs.Functions.{IsWithinBounds}
use Rattle.design_docs.specs.declared.design.Builtin.{Builtin}
use Rattle.design_docs.specs.declared.design.Builtin.TheVariants.{Sum, Count, Stats}
use Rattle.builtin_reduces.specs.declared.sum.BuiltinSum.{BuiltinSum}
use Rattle.builtin_reduces.specs.declared.sum.BuiltinSum.TheVariants as value
use Rattle.builtin_reduces.specs.Added.{add_two}
use Rattle.builtin_reduces.specs.SumBytes.{AreNumbers, AreStats, place_limit}
use Rattle.builtin_reduces.specs.SumFits.{FitsUnder}
use Rattle.builtin_reduces.specs.SumSpelled.{fits_more}
use Rattle.builtin_reduces.specs.Sizes.{length-quoted, length-items_text}
use Rattle.builtin_reduces.specs.SpellingSizes.{length-number}
use Rattle.builtin_reduces.specs.Values.{added, each, cons_where, number_in, square, stats_of, total, sum_or, value_of}
use Rattle.builtin_reduces.proofs.Bounds.{AreSmall}
use Rattle.builtin_reduces.proofs.Told.{told}
use Rattle.builtin_reduces.proofs.Appended.{Numbers, numbers_of_terms, items_are_terms}
use Rattle.builtin_reduces.proofs.AddedFits.{sum_isnt_count, stats_isnt_count, under_told, told_fits, one_number, fits_added}

-- ---- how many elements an array has

text_some : (t : Json) → 1 ≤ length (text_of t)
text_some (number n) = length-number n
text_some is_false = omega arith
text_some is_null = omega arith
text_some is_true = omega arith
text_some (object ms) = omega arith
text_some (array ts) = omega arith
text_some (string s) = let text = length-quoted s in omega arith

-- each takes a comma and a byte at least
later_items_le : (ts : Items) → 2 * length (list_of_items ts) + 1 ≤ length (items_text true (items_serde_of ts))
later_items_le no_items = omega arith
later_items_le (item t ts) =
    let one = text_some t in
    let others = later_items_le ts in
    let text = length-items_text true t ts in
    omega arith

places_le : (ts : Items) → 2 * length (list_of_items ts) + 1 ≤ length (text_of (array ts))
places_le no_items = omega arith
places_le (item t ts) =
    let one = text_some t in
    let others = later_items_le ts in
    let text = length-items_text false t ts in
    omega arith

places_few : (ts : Items) → IsWithinBounds (array ts) → length (list_of_items ts) ≤ place_limit
places_few ts within = let size = within.size in let places = places_le ts in omega arith

-- ---- `_sum`

from_zero : (z : ℤ) → FitsSigned w64 z → FitsSigned w128 (pos 0 +ℤ z)
from_zero z fits = let e : z ≡ pos 0 +ℤ z = omega (arith, ints) in subst (FitsSigned w128) e (fits_more z fits)

small_fit : (ns : List ℤ) → AreSmall ns → AllByRecursion (FitsSigned w128) ns
small_fit [] s = tt
small_fit (n ∷ ns) s = (fits_more n s.0, small_fit ns s.1)

from_zero_fit : (ns : List ℤ) → AreSmall ns → length ns ≤ place_limit → AreNumbers (added (pos 0 ∷ []) ns)
from_zero_fit [] s few = one_number (pos 0) (record { sfits = omega arith })
from_zero_fit (n ∷ ns) s few = record { each = (from_zero n s.0, small_fit ns s.1); some = omega arith; few = few }

refused_fits : (kind : Builtin) → kind ≢ Count → FitsUnder kind value.Refused
refused_fits kind other = record { under = other; bounds = tt }

places_fit : (n : ℕ) (ns : Option (List ℤ)) → Numbers n ns → n ≤ place_limit → FitsUnder Sum (sum_or None (cons_where ns (Some [])))
places_fit n None s few = refused_fits Sum (sum_isnt_count Sum refl)
places_fit n (Some ns) s few = record { under = refl; bounds = let e = s.1 in from_zero_fit ns s.0 (omega arith) }

sum_fits : (v : Json) → IsWithinBounds v → FitsUnder Sum (value_of Sum (v ∷ []))
sum_fits (number z) within = record { under = refl; bounds = from_zero z within.valid }
sum_fits (array ts) within =
    let vs = list_of_items ts in
    places_fit (length vs) (each number_in vs) (numbers_of_terms vs (items_are_terms ts within.valid)) (places_few ts within)
sum_fits is_false within = refused_fits Sum (sum_isnt_count Sum refl)
sum_fits is_null within = refused_fits Sum (sum_isnt_count Sum refl)
sum_fits is_true within = refused_fits Sum (sum_isnt_count Sum refl)
sum_fits (object ms) within = refused_fits Sum (sum_isnt_count Sum refl)
sum_fits (string s) within = refused_fits Sum (sum_isnt_count Sum refl)

-- ---- `_stats`

alone_told : (z : ℤ) → FitsSigned w64 z → nat_lt (suc (sum_by square (z ∷ []))) (2 ^ 128) ≡ true → AreStats (told (z ∷ []))
alone_told z fits small =
    let few = ltb-true (suc (sum_by square (z ∷ []))) (2 ^ 128) small in
    record { sum = from_zero z fits; count = omega arith; least = fits; greatest = fits; squares = omega arith }

none_told : AreStats (told [])
none_told = record { sum = record { sfits = omega arith }; count = omega arith; least = record { sfits = omega arith }; greatest = record { sfits = omega arith }; squares = omega arith }

stats_fit : (ns : List ℤ) → (nat_lt (suc (sum_by square ns)) (2 ^ 128) ≡ true → AreStats (told ns)) → FitsUnder Stats (stats_of ns)
stats_fit ns fit =
    let small = nat_lt (suc (sum_by square ns)) (2 ^ 128) in
    record { under = under_told Stats small (told ns) refl; bounds = told_fits small (told ns) fit }

stats_of_one_fit : (v : Json) → IsWithinBounds v → FitsUnder Stats (value_of Stats (v ∷ []))
stats_of_one_fit (number z) within = stats_fit (z ∷ []) (alone_told z within.valid)
stats_of_one_fit is_false within = refused_fits Stats (stats_isnt_count Stats refl)
stats_of_one_fit is_null within = refused_fits Stats (stats_isnt_count Stats refl)
stats_of_one_fit is_true within = refused_fits Stats (stats_isnt_count Stats refl)
stats_of_one_fit (object ms) within = refused_fits Stats (stats_isnt_count Stats refl)
stats_of_one_fit (array ts) within = refused_fits Stats (stats_isnt_count Stats refl)
stats_of_one_fit (string s) within = refused_fits Stats (stats_isnt_count Stats refl)

-- ---- each

one_fits : (kind : Builtin) (v : Json) → IsWithinBounds v → FitsUnder kind (value_of kind (v ∷ []))
one_fits Count v within = record { under = refl; bounds = omega arith }
one_fits Sum v within = sum_fits v within
one_fits Stats v within = stats_of_one_fit v within

pub none_fits : (kind : Builtin) → FitsUnder kind (value_of kind [])
none_fits Count = record { under = refl; bounds = omega arith }
none_fits Sum = record { under = refl; bounds = record { sfits = omega arith } }
none_fits Stats = stats_fit [] (λ small. none_told)

-- a step of the loop over rows
pub fits_with_row : (kind : Builtin) (v : Json) (total part sum : BuiltinSum) → IsWithinBounds v → part ≡ value_of kind (v ∷ []) → sum ≡ add_two total part → FitsUnder kind total
    → FitsUnder kind sum
fits_with_row kind v total part sum within of_row added before =
    let of_part : FitsUnder kind part = subst (FitsUnder kind) (sym of_row) (one_fits kind v within) in
    subst (FitsUnder kind) (sym added) (fits_added kind total part before of_part)
