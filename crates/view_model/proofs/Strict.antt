-- Rows are told apart by id and place, so rows in order rise strictly.
use Rattle.std.specs.Prelude.{◌≡◌, ◌≤◌, ◌+◌, ℕ, suc, List, [], ◌∷◌, ◌++◌, map, filter, refl, Bool, true, false, not, ◌&&◌, bytes_eq, nat_eq, IsSorted, if◌then◌else◌}
use Rattle.std.specs.List.{All, AllByRecursion, IsDistinct}
use Rattle.std.specs.List.Sorted.{IsStrictlySortedBy}
use Rattle.std.proofs.Common.{ap, sym, ◌∙◌, subst, arith, get_or, inl, inr}
use Rattle.std.specs.declared.cmp.Ordering.{Ordering}
use Rattle.std.specs.declared.cmp.Ordering.TheVariants.{Less, Equal, Greater}
use Rattle.std.specs.Ordering.{is_lt, ordering_reverse}
use Rattle.std.proofs.lemmas.Bool.{cases_Bool, and_left}
use Rattle.std.proofs.lemmas.Bool.Decides.{nat_tests}
use Rattle.std.proofs.lemmas.List.Elements.{recursion_from_All}
use Rattle.std.proofs.lemmas.List.Sorted.{ranks_by, sorted_far}
use Rattle.std.proofs.lemmas.Map.Keys.{IsDistinct-IsPermutation}
use Rattle.std.proofs.lemmas.Slice.Eq.{bytes_eq-Decides}
use Rattle.json_terms.specs.Json.{Json}
use Rattle.json_terms.specs.declared.term.Row.{Row}
use Rattle.raw_collation.specs.Collation.{rows_cmp}
use Rattle.raw_collation.specs.Sorting.{sorted_rows}
use Rattle.raw_collation.proofs.Totals.{rows_cmp_total}
use Rattle.raw_collation.proofs.Equals.{rows_cmp-equal}
use Rattle.raw_collation.proofs.SortedRows.{sorted_rows_is_sorted, sorted_rows_permutes}
use Rattle.design_docs.specs.History.{Write, changes_after, mapped_after}
use Rattle.view_model.specs.Since.{is_among}
use Rattle.view_model.specs.Rows.{emitted_by, emitted_rows, rows_from, same_place, RiseStrictly}
use Rattle.view_model.specs.Update.{ids_of, unchanged_rows}
use Rattle.view_model.specs.Laws.{RowsRise, UpdatesRise}
use Rattle.view_model.proofs.Histories.{bytes_eq-sym}
use Rattle.view_model.proofs.Distinct.{all_filter, mapped_among, mapped_distinct}
use Rattle.view_model.proofs.Updates.{rows_are_by_sequence}

-- ---- lists whose elements are told apart

pub all_each : {X : Type 0} (P Q : X → Type 0) → ((x : X) → P x → Q x) → (xs : List X) → AllByRecursion P xs → AllByRecursion Q xs
all_each P Q f [] all = tt
all_each P Q f (x ∷ xs) all = (f x all.0, all_each P Q f xs all.1)

pub all_append : {X : Type 0} (P : X → Type 0) (xs ys : List X) → AllByRecursion P xs → AllByRecursion P ys → AllByRecursion P (xs ++ ys)
all_append P [] ys a b = b
all_append P (x ∷ xs) ys a b = (a.0, all_append P xs ys a.1 b)

pub distinct_append : {X : Type 0} (e : X → X → Bool) (xs ys : List X) → IsDistinct e xs → IsDistinct e ys → AllByRecursion (λ x. AllByRecursion (λ y. e x y ≡ false) ys) xs → IsDistinct e (xs ++ ys)
unfolding IsDistinct
distinct_append e [] ys a b apart = b
distinct_append e (x ∷ xs) ys a b apart = (all_append (λ y. e x y ≡ false) xs ys a.0 apart.0, distinct_append e xs ys a.1 b apart.1)

pub distinct_part : {X : Type 0} (e : X → X → Bool) (p : X → Bool) (xs : List X) → IsDistinct e xs → IsDistinct e (filter p xs)
unfolding IsDistinct
distinct_part e p [] apart = tt
distinct_part e p (x ∷ xs) apart =
    let rest = distinct_part e p xs apart.1 in
    let head = all_filter (λ y. e x y ≡ false) p xs apart.0 in
    elim (p x) as (λ b. IsDistinct e (if b then x ∷ filter p xs else filter p xs)) [
      | true ↦ (head, rest)
      | false ↦ rest
    ]

pub all_passed : {X : Type 0} (p : X → Bool) (xs : List X) → AllByRecursion (λ x. p x ≡ true) (filter p xs)
all_passed p [] = tt
all_passed p (x ∷ xs) =
    let rest = all_passed p xs in
    elim (p x) as (λ b. p x ≡ b → AllByRecursion (λ y. p y ≡ true) (if b then x ∷ filter p xs else filter p xs)) [
      | true ↦ λ is. (is, rest)
      | false ↦ λ is. rest
    ] refl

-- ---- emitted rows

nat_eq-sym : (m n : ℕ) → nat_eq m n ≡ nat_eq n m
nat_eq-sym m n = grind (arith, nat_tests)

nat_eq-less : (m n : ℕ) → suc m ≤ n → nat_eq m n ≡ false
nat_eq-less m n less = grind (arith, nat_tests)

nat_eq-same : (n : ℕ) → nat_eq n n ≡ true
nat_eq-same n = grind (arith, nat_tests)

pub same_place-sym : (one other : Row) → same_place one other ≡ same_place other one
same_place-sym one other = λ i. bytes_eq-sym one.id other.id i && nat_eq-sym one.place other.place i

and_false : (b : Bool) → (b && false) ≡ false
and_false true = refl
and_false false = refl

places_from : (place low : ℕ) (id : List ℕ) (emissions : List (Json × Json)) → low ≤ place → AllByRecursion (λ (row : Row). low ≤ row.place) (rows_from place id emissions)
places_from place low id [] h = tt
places_from place low id (e ∷ emissions) h = (h, places_from (suc place) low id emissions (omega (arith, h)))

of_id : (place : ℕ) (id : List ℕ) (emissions : List (Json × Json)) → AllByRecursion (λ (row : Row). row.id ≡ id) (rows_from place id emissions)
of_id place id [] = tt
of_id place id (e ∷ emissions) = (refl, of_id (suc place) id emissions)

document_apart : (place : ℕ) (id : List ℕ) (emissions : List (Json × Json)) → IsDistinct same_place (rows_from place id emissions)
unfolding IsDistinct
document_apart place id [] = tt
document_apart place id (e ∷ emissions) = (
  all_each (λ (row : Row). suc place ≤ row.place) (λ (row : Row). (bytes_eq id row.id && nat_eq place row.place) ≡ false)
      (λ row less. ap (λ b. bytes_eq id row.id && b) (nat_eq-less place row.place less) ∙ and_false (bytes_eq id row.id)) (rows_from (suc place) id emissions)
      (places_from (suc place) (suc place) id emissions (omega arith)),
  document_apart (suc place) id emissions,
)

pub emitted_ids : (P : List ℕ → Type 0) (ids : List (List ℕ)) (emitted : List (List (Json × Json))) → AllByRecursion P ids → AllByRecursion (λ (row : Row). P row.id) (emitted_rows ids emitted)
emitted_ids P [] emitted all = tt
emitted_ids P (id ∷ ids) [] all = tt
emitted_ids P (id ∷ ids) (emissions ∷ emitted) all =
    all_append (λ (row : Row). P row.id) (rows_from 0 id emissions) (emitted_rows ids emitted)
    (all_each (λ (row : Row). row.id ≡ id) (λ (row : Row). P row.id) (λ row is. subst P (sym is) all.0) (rows_from 0 id emissions) (of_id 0 id emissions))
    (emitted_ids P ids emitted all.1)

pub emitted_apart : (ids : List (List ℕ)) (emitted : List (List (Json × Json))) → IsDistinct bytes_eq ids → IsDistinct same_place (emitted_rows ids emitted)
unfolding IsDistinct
emitted_apart [] emitted apart = tt
emitted_apart (id ∷ ids) [] apart = tt
emitted_apart (id ∷ ids) (emissions ∷ emitted) apart =
    let rest : List Row = emitted_rows ids emitted in
    let others : AllByRecursion (λ (row : Row). bytes_eq id row.id ≡ false) rest = emitted_ids (λ other. bytes_eq id other ≡ false) ids emitted apart.0 in
    distinct_append same_place (rows_from 0 id emissions) rest (document_apart 0 id emissions) (emitted_apart ids emitted apart.1)
    (all_each (λ (row : Row). row.id ≡ id) (λ (row : Row). AllByRecursion (λ other. same_place row other ≡ false) rest)
    (λ row is. all_each (λ (other : Row). bytes_eq id other.id ≡ false) (λ (other : Row). same_place row other ≡ false)
    (λ other differ. and_left (bytes_eq row.id other.id) (nat_eq row.place other.place) (ap (λ (i : List ℕ). bytes_eq i other.id) is ∙ differ)) rest others)
    (rows_from 0 id emissions) (of_id 0 id emissions))

-- ---- rows in order that are told apart

strict_by : (x y : Row) (o : Ordering) → rows_cmp x y ≡ o → is_lt (rows_cmp y x) ≡ false → same_place x y ≡ false → o ≡ Less
strict_by x y Less is not_less apart = refl
strict_by x y Equal is not_less apart =
    let one : x ≡ y = rows_cmp-equal x y is in
    let same : same_place x x ≡ false = subst (λ (r : Row). same_place x r ≡ false) (sym one) apart in
    let itself : same_place x x ≡ true = (λ i. (bytes_eq-Decides x.id x.id).1 refl i && nat_eq-same x.place i) in
    absurd (let clash : true ≡ false = sym itself ∙ same in cc)
strict_by x y Greater is not_less apart =
    let less : is_lt (rows_cmp y x) ≡ true = ap is_lt (rows_cmp_total.antisymm y x ∙ ap ordering_reverse is) in
    absurd (let clash : true ≡ false = sym less ∙ not_less in cc)

both_each : {X : Type 0} (P Q R : X → Type 0) → ((x : X) → P x → Q x → R x) → (xs : List X) → AllByRecursion P xs → AllByRecursion Q xs → AllByRecursion R xs
both_each P Q R f [] p q = tt
both_each P Q R f (x ∷ xs) p q = (f x p.0 q.0, both_each P Q R f xs p.1 q.1)

rises : (rows : List Row) → IsSorted rows_cmp rows → IsDistinct same_place rows → IsStrictlySortedBy rows_cmp rows
unfolding IsDistinct IsStrictlySortedBy
rises [] sorted apart = tt
rises (x ∷ rows) sorted apart =
    let lt : Row → Row → Bool = λ a b. is_lt (rows_cmp a b) in
    let behind : All (λ y. lt y x ≡ false) rows = λ k d within. sorted_far lt (ranks_by rows_cmp_total (λ r. r)) (x ∷ rows) sorted 0 (suc k) d (omega arith) (omega arith) in (
      both_each (λ y. lt y x ≡ false) (λ y. same_place x y ≡ false) (λ y. rows_cmp x y ≡ Less) (λ y low differ. strict_by x y (rows_cmp x y) refl low differ) rows (recursion_from_All (λ y. lt y x ≡ false) rows behind) apart.0,
      rises rows (λ k d low high.
          let next : suc k + 1 ≡ suc (k + 1) = omega arith in
          subst (λ n. lt (get_or (x ∷ rows) n d) (get_or rows k d) ≡ false) next (sorted (suc k) d (omega arith) (omega arith))) apart.1,
    )

pub in_order : (rows : List Row) → IsDistinct same_place rows → RiseStrictly (sorted_rows rows)
in_order rows apart =
    let still : IsDistinct same_place (sorted_rows rows) = IsDistinct-IsPermutation same_place same_place-sym rows (sorted_rows rows) (sorted_rows_permutes rows) apart in
    record { apart = still; rises = rises (sorted_rows rows) (sorted_rows_is_sorted rows) still }

-- ---- the laws

differ_by : (changes : List (ℕ × Write)) (row other : Row) → not (is_among changes row.id) ≡ true → is_among changes other.id ≡ true → bytes_eq row.id other.id ≡ false
differ_by changes row other out within =
    elim (cases_Bool (bytes_eq row.id other.id)) [
      | inl same ↦
          (let here : is_among changes row.id ≡ true = ap (is_among changes) ((bytes_eq-Decides row.id other.id).0 same) ∙ within in
          let clash : false ≡ true = sym (ap not here) ∙ out in
          absurd cc)
      | inr differ ↦ differ
    ]

pub updates_rise : UpdatesRise
updates_rise history seq old emitted apart =
    let changes : List (ℕ × Write) = changes_after seq history in
    let ids : List (List ℕ) = ids_of (mapped_after seq history) in
    let stay : List Row = unchanged_rows changes old in
    let new : List Row = emitted_rows ids emitted in
    let within : AllByRecursion (λ (row : Row). is_among changes row.id ≡ true) new = emitted_ids (λ id. is_among changes id ≡ true) ids emitted (mapped_among seq history) in
    let across : AllByRecursion (λ (row : Row). AllByRecursion (λ other. same_place row other ≡ false) new) stay =
    all_each (λ (row : Row). not (is_among changes row.id) ≡ true) (λ (row : Row). AllByRecursion (λ other. same_place row other ≡ false) new)
    (λ row out. all_each (λ (other : Row). is_among changes other.id ≡ true) (λ (other : Row). same_place row other ≡ false)
    (λ other is. and_left (bytes_eq row.id other.id) (nat_eq row.place other.place) (differ_by changes row other out is)) new within)
    stay (all_passed (λ (row : Row). not (is_among changes row.id)) old) in
    in_order (stay ++ new) (distinct_append same_place stay new (distinct_part same_place (λ (row : Row). not (is_among changes row.id)) old apart) (emitted_apart ids emitted (mapped_distinct seq history)) across)

pub rows_rise : RowsRise
rows_rise functions source history =
    let documents : List (List ℕ × Json) = mapped_after 0 history in
    subst RiseStrictly (rows_are_by_sequence functions source history)
    (in_order (emitted_rows (ids_of documents) (map (emitted_by functions source) documents)) (emitted_apart (ids_of documents) (map (emitted_by functions source) documents) (mapped_distinct 0 history)))
