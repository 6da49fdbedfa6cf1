-- The order of the rows in a tree, and lists in order that rise strictly.
use Rattle.std.specs.Prelude.{◌≡◌, ◌+◌, List, [], ◌∷◌, true, false, if◌then◌else◌, IsSorted, refl}
use Rattle.std.specs.Cmp.{IsTotalOrder}
use Rattle.std.specs.Cmp.Lexicographic.{slice_cmp}
use Rattle.std.specs.List.{AllByRecursion, IsDistinct}
use Rattle.std.specs.List.Sorted.{IsStrictlySortedBy}
use Rattle.std.specs.Ordering.{eq_by_cmp, is_eq, is_lt, nat_cmp, ordering_reverse, ordering_then}
use Rattle.std.specs.declared.cmp.Ordering.{Ordering}
use Rattle.std.specs.declared.cmp.Ordering.TheVariants.{Less, Equal, Greater}
use Rattle.std.proofs.Common.{ap, sym, ◌∙◌, arith, get_or}
use Rattle.std.proofs.lemmas.Bool.{false≢true, false_from_ne_true}
use Rattle.std.proofs.lemmas.Cmp.{nat_cmp_total, nat_list_cmp_total, tied_itself}
use Rattle.std.proofs.lemmas.Map.Keys.{apart_from_distinct, sorted_from_all_adjacent}
use Rattle.json_terms.specs.Seen.{json}
use Rattle.json_terms.specs.declared.term.Row.{Row}
use Rattle.raw_collation.specs.Collation.{json_cmp, rows_cmp}
use Rattle.raw_collation.specs.Sorting.{insert_row, sorted_rows}
use Rattle.raw_collation.proofs.Equals.{both_equal, bytes_cmp-equal, nat_cmp-equal}
use Rattle.builtin_reduces.specs.Kept.{item_cmp}

-- ---- lists in order whose elements differ

module _ {X : Type 0} {R : X → X → Ordering} (total : IsTotalOrder R) where
  less_by : (x y : X) (o : Ordering) → R x y ≡ o → is_lt (R y x) ≡ false → is_eq o ≡ false → o ≡ Less
  less_by x y Less is low apart = refl
  less_by x y Equal is low apart = absurd (false≢true (sym apart))
  less_by x y Greater is low apart = absurd (false≢true (sym low ∙ ap is_lt (total.antisymm y x ∙ ap ordering_reverse is)))

  pub rises_strictly : (xs : List X) → IsSorted R xs → IsDistinct (eq_by_cmp R) xs → IsStrictlySortedBy R xs
  unfolding IsStrictlySortedBy
  rises_strictly [] sorted apart = tt
  rises_strictly (x ∷ xs) sorted apart = sorted_from_all_adjacent total (x ∷ xs) x (λ k within.
      less_by (get_or (x ∷ xs) k x) (get_or (x ∷ xs) (k + 1) x) (R (get_or (x ∷ xs) k x) (get_or (x ∷ xs) (k + 1) x)) refl (sorted k x (omega arith) within)
      (apart_from_distinct (eq_by_cmp R) (x ∷ xs) k (k + 1) x apart (omega arith) within))

-- ---- rows that compare equal

pub equal_from_test : (o : Ordering) → is_eq o ≡ true → o ≡ Equal
equal_from_test Less is = absurd (false≢true is)
equal_from_test Equal is = refl
equal_from_test Greater is = absurd (false≢true is)

-- those of one key, one id and one place
pub record AreTied (a b : Row) : Type 0 where
  pub keys : json_cmp (json a.key) (json b.key) ≡ Equal
  pub ids : a.id ≡ b.id
  pub places : a.place ≡ b.place

pub tied_from_equal : (a b : Row) → item_cmp a b ≡ Equal → AreTied a b
tied_from_equal a b is =
    let keys = both_equal (json_cmp (json a.key) (json b.key)) (ordering_then (slice_cmp nat_cmp a.id b.id) (nat_cmp a.place b.place)) is in
    let rest = both_equal (slice_cmp nat_cmp a.id b.id) (nat_cmp a.place b.place) keys.1 in
    record { keys = keys.0; ids = bytes_cmp-equal a.id b.id rest.0; places = nat_cmp-equal a.place b.place rest.1 }

pub equal_from_tied : (a b : Row) → AreTied a b → item_cmp a b ≡ Equal
equal_from_tied a b tied =
    let ids : slice_cmp nat_cmp a.id b.id ≡ Equal = ap (slice_cmp nat_cmp a.id) (sym tied.ids) ∙ tied_itself nat_list_cmp_total a.id in
    let places : nat_cmp a.place b.place ≡ Equal = ap (nat_cmp a.place) (sym tied.places) ∙ tied_itself nat_cmp_total a.place in
    λ i. ordering_then (tied.keys i) (ordering_then (ids i) (places i))

pub differ_unless : (a b : Row) → (AreTied a b → ⊥) → eq_by_cmp item_cmp a b ≡ false
differ_unless a b untied = false_from_ne_true (eq_by_cmp item_cmp a b) (λ is. untied (tied_from_equal a b (equal_from_test (item_cmp a b) is)))

-- ---- sorted rows are in this order

less_first : (k i p v : Ordering) → is_lt (ordering_then k (ordering_then i (ordering_then p v))) ≡ false → is_lt (ordering_then k (ordering_then i p)) ≡ false
less_first Less i p v low = low
less_first Greater i p v low = refl
less_first Equal Less p v low = low
less_first Equal Greater p v low = refl
less_first Equal Equal Less v low = low
less_first Equal Equal Equal v low = refl
less_first Equal Equal Greater v low = refl

not_before : (a b : Row) → is_lt (rows_cmp a b) ≡ false → is_lt (item_cmp a b) ≡ false
not_before a b = less_first (json_cmp (json a.key) (json b.key)) (slice_cmp nat_cmp a.id b.id) (nat_cmp a.place b.place) (json_cmp (json a.value) (json b.value))

pub sorted_items : (rows : List Row) → IsSorted rows_cmp rows → IsSorted item_cmp rows
sorted_items rows sorted = λ k d low within. not_before (get_or rows (k + 1) d) (get_or rows k d) (sorted k d low within)

-- ---- rows that rise are in order

then_parts : (k i p v : Ordering) → ordering_then k (ordering_then i (ordering_then p v)) ≡ ordering_then (ordering_then k (ordering_then i p)) v
then_parts Less i p v = refl
then_parts Greater i p v = refl
then_parts Equal Less p v = refl
then_parts Equal Greater p v = refl
then_parts Equal Equal p v = refl

row_less : (x y : Row) → item_cmp x y ≡ Less → rows_cmp x y ≡ Less
row_less x y less =
    then_parts (json_cmp (json x.key) (json y.key)) (slice_cmp nat_cmp x.id y.id) (nat_cmp x.place y.place) (json_cmp (json x.value) (json y.value))
    ∙ ap (λ o. ordering_then o (json_cmp (json x.value) (json y.value))) less

goes_first : (x : Row) (rows : List Row) → AllByRecursion (λ y. item_cmp x y ≡ Less) rows → insert_row x rows ≡ x ∷ rows
goes_first x [] first = refl
goes_first x (y ∷ rows) first = ap (λ b. if b then x ∷ y ∷ rows else y ∷ insert_row x rows) (ap is_lt (row_less x y first.0))

pub rising_stay : (rows : List Row) → IsStrictlySortedBy item_cmp rows → sorted_rows rows ≡ rows
unfolding IsStrictlySortedBy
rising_stay [] rise = refl
rising_stay (x ∷ rows) rise = ap (insert_row x) (rising_stay rows rise.1) ∙ goes_first x rows rise.0
