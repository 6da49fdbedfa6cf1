-- The reduces of the language `pick`: their results are within the bounds, and rows may be reduced in parts.
use Rattle.std.specs.Prelude.{◌≡◌, ◌≢◌, ◌-◌, ◌^◌, ◌<◌, ℕ, List, [], ◌∷◌, ◌++◌, map, length, Bool, true, false, cond, Option, Some, None, refl, pos, min, fold, sum_by}
use Rattle.std.specs.List.{AllByRecursion}
use Rattle.std.specs.Ordering.{is_gt}
use Rattle.std.proofs.Common.{arith, sym, ap, ◌∙◌}
use Rattle.std.proofs.lemmas.Int.{ints}
use Rattle.std.proofs.lemmas.Fmt.{length-decimal-le}
use Rattle.std.proofs.lemmas.List.{map-append}
use Rattle.json_terms.specs.Json as json
use Rattle.json_terms.specs.Json.{Json, is_null, depth}
use Rattle.raw_collation.specs.Collation.{json_cmp}
use Rattle.map_lang.specs.declared.reduce.PickReduce.{PickReduce}
use Rattle.map_lang.specs.declared.reduce.PickReduce.TheVariants.{Rows, Min, Max, First, Last}
use Rattle.map_lang.specs.Reduce as reduce
use Rattle.map_lang.specs.Laws as laws
use Rattle.map_lang.proofs.Parts.{reduces_in_parts}
use Rattle.view_ports.specs.ReduceRow.{ReduceRow}
use Rattle.view_ports.specs.Functions.{IsWithinBounds, IsReduceRowWithinBounds, IsSomeList, joined}
use Rattle.view_ports.specs.FieldBounds.{null_is_bounded}
use Rattle.map_server.specs.PickFunctions.{value_of_row, reduced, rereduced, pick_reduce, pick_rereduce}

-- ---- results are within the bounds

small_number : (n : ℕ) → n < 2 ^ 63 → IsWithinBounds (json.number (pos n))
small_number n h = record {
  valid = omega (arith, ints);
  size = let e = length-decimal-le 20 n (omega arith) (omega arith) (omega arith) in omega (arith, e);
  nested = omega arith;
}

-- what holds of each value, and of `null` and each count, holds of a result
module _ (Holds : Json → Type 0) (null : Holds is_null) (number : (n : ℕ) → n < 2 ^ 63 → Holds (json.number (pos n))) where
  count_holds : (n : ℕ) → Holds (reduce.count n)
  count_holds n = number (min n (2 ^ 63 - 1)) (omega arith)

  fold_keeps : (f : Json → Json → Json) → ((a b : Json) → Holds a → Holds b → Holds (f a b)) → (v : Json) (vs : List Json) → Holds v → AllByRecursion Holds vs → Holds (fold f v vs)
  fold_keeps f keeps v [] h all = h
  fold_keeps f keeps v (w ∷ vs) h all = fold_keeps f keeps (f v w) vs (keeps v w h all.0) all.1

  one_of : (b : Bool) (v w : Json) → Holds v → Holds w → Holds (cond b v w)
  one_of true v w h k = h
  one_of false v w h k = k

  least_holds : (vs : List Json) → AllByRecursion Holds vs → Holds (reduce.least vs)
  least_holds [] all = null
  least_holds (v ∷ vs) all = fold_keeps reduce.lesser (λ a b h k. one_of (is_gt (json_cmp a b)) b a k h) v vs all.0 all.1

  greatest_holds : (vs : List Json) → AllByRecursion Holds vs → Holds (reduce.greatest vs)
  greatest_holds [] all = null
  greatest_holds (v ∷ vs) all = fold_keeps reduce.greater (λ a b h k. one_of (is_gt (json_cmp b a)) b a k h) v vs all.0 all.1

  first_holds : (vs : List Json) → AllByRecursion Holds vs → Holds (reduce.first vs)
  first_holds [] all = null
  first_holds (v ∷ vs) all = all.0

  last_holds : (vs : List Json) → AllByRecursion Holds vs → Holds (reduce.last vs)
  last_holds [] all = null
  last_holds (v ∷ []) all = all.0
  last_holds (v ∷ w ∷ vs) all = last_holds (w ∷ vs) all.1

  pub reduce_holds : (how : PickReduce) (vs : List Json) → AllByRecursion Holds vs → Holds (reduce.reduce_of how vs)
  reduce_holds Rows vs all = count_holds (length vs)
  reduce_holds Min vs all = least_holds vs all
  reduce_holds Max vs all = greatest_holds vs all
  reduce_holds First vs all = first_holds vs all
  reduce_holds Last vs all = last_holds vs all

  pub rereduce_holds : (how : PickReduce) (vs : List Json) → AllByRecursion Holds vs → Holds (reduce.rereduce_of how vs)
  rereduce_holds Rows vs all = count_holds (sum_by reduce.counted vs)
  rereduce_holds Min vs all = least_holds vs all
  rereduce_holds Max vs all = greatest_holds vs all
  rereduce_holds First vs all = first_holds vs all
  rereduce_holds Last vs all = last_holds vs all

values_are_bounded : (rows : List ReduceRow) → AllByRecursion IsReduceRowWithinBounds rows → AllByRecursion IsWithinBounds (map value_of_row rows)
values_are_bounded [] all = tt
values_are_bounded (((key, id), value) ∷ rows) all = (all.0.1, values_are_bounded rows all.1)

reduced_is_bounded : (how : Option PickReduce) (vs : List Json) → AllByRecursion IsWithinBounds vs → IsWithinBounds (reduced how vs)
reduced_is_bounded None vs all = null_is_bounded
reduced_is_bounded (Some how) vs all = reduce_holds IsWithinBounds null_is_bounded small_number how vs all

rereduced_is_bounded : (how : Option PickReduce) (vs : List Json) → AllByRecursion IsWithinBounds vs → IsWithinBounds (rereduced how vs)
rereduced_is_bounded None vs all = null_is_bounded
rereduced_is_bounded (Some how) vs all = rereduce_holds IsWithinBounds null_is_bounded small_number how vs all

pub pick_reduces_are_proper : (source : List ℕ) (rows : List ReduceRow) → IsSomeList rows → AllByRecursion IsReduceRowWithinBounds rows → IsWithinBounds (pick_reduce source rows)
pick_reduces_are_proper source rows some all = reduced_is_bounded (reduce.reduce_named source) (map value_of_row rows) (values_are_bounded rows all)

pub pick_rereduces_are_proper : (source : List ℕ) (values : List Json) → IsSomeList values → AllByRecursion IsWithinBounds values → IsWithinBounds (pick_rereduce source values)
pick_rereduces_are_proper source values some all = rereduced_is_bounded (reduce.reduce_named source) values all

-- ---- rows in parts

some_is_not_empty : {A : Type 0} (xs : List A) → IsSomeList xs → xs ≡ [] → ⊥
some_is_not_empty [] some e = some
some_is_not_empty (x ∷ xs) some e = cc

abbrev values_of_part : List ReduceRow → List Json
values_of_part part = map value_of_row part

parts_not_empty : (parts : List (List ReduceRow)) → IsSomeList parts → map values_of_part parts ≡ [] → ⊥
parts_not_empty [] some e = some
parts_not_empty (part ∷ parts) some e = cc

part_not_empty : (part : List ReduceRow) → IsSomeList part → values_of_part part ≡ [] → ⊥
part_not_empty [] some e = some
part_not_empty (row ∷ rows) some e = cc

each_not_empty : (parts : List (List ReduceRow)) → AllByRecursion IsSomeList parts → AllByRecursion (λ part. part ≢ []) (map values_of_part parts)
each_not_empty [] all = tt
each_not_empty (part ∷ parts) all = (part_not_empty part all.0, each_not_empty parts all.1)

results_of_parts : (how : PickReduce) (parts : List (List ReduceRow)) → map (λ part. reduce.reduce_of how (values_of_part part)) parts ≡ map (reduce.reduce_of how) (map values_of_part parts)
results_of_parts how [] = refl
results_of_parts how (part ∷ parts) = ap (λ vs. reduce.reduce_of how (values_of_part part) ∷ vs) (results_of_parts how parts)

values_of_joined : (parts : List (List ReduceRow)) → laws.joined (map values_of_part parts) ≡ values_of_part (joined parts)
values_of_joined [] = refl
values_of_joined (part ∷ parts) = ap (λ vs. values_of_part part ++ vs) (values_of_joined parts) ∙ sym (map-append value_of_row part (joined parts))

rejoined : (how : Option PickReduce) (parts : List (List ReduceRow)) → IsSomeList parts → AllByRecursion IsSomeList parts → rereduced how (map (λ part. reduced how (values_of_part part)) parts) ≡ reduced how (values_of_part (joined parts))
rejoined None parts some all = refl
rejoined (Some how) parts some all =
    ap (reduce.rereduce_of how) (results_of_parts how parts) ∙ reduces_in_parts how (map values_of_part parts) (parts_not_empty parts some) (each_not_empty parts all) ∙ ap (reduce.reduce_of how) (values_of_joined parts)

pub pick_rejoins : (source : List ℕ) (parts : List (List ReduceRow)) → IsSomeList parts → AllByRecursion IsSomeList parts → pick_rereduce source (map (pick_reduce source) parts) ≡ pick_reduce source (joined parts)
pick_rejoins source parts some all = rejoined (reduce.reduce_named source) parts some all
