-- Where the rows of a document stand in the views.
use Rattle.std.proofs.Common.{◌≡◌, ◌⊎◌, inl, inr, ◌+◌, ◌<◌, ℕ, zero, suc, List, [], ◌∷◌, ◌++◌, map, length, get_or, Bool, true, false, cond, refl, sym, ap, ◌∙◌, subst, arith}
use Rattle.std.specs.Prelude.{Contains, filter}
use Rattle.std.proofs.lemmas.List.Elements.{Contains-append_cases, Contains-append_left, Contains-append_right}
use Rattle.std.proofs.lemmas.Slice.Eq.{bytes_eq-Decides}
use Rattle.json_terms.specs.declared.term.Row.{Row}
use Rattle.index_items.specs.declared.back_row.BackRow.{BackRow}
use Rattle.index_items.specs.BackIndex.{back_row, is_of, places_from, places_in}
use Rattle.index_items.specs.BackIndexLaws.{HasRow, IsRowAt}
use Rattle.index_items.proofs.Rising.{contains-cases, contains-here, contains-later, contains-none}

bool_cases : (b : Bool) → (b ≡ true) ⊎ (b ≡ false)
bool_cases true = inl refl
bool_cases false = inr refl

module _ {X Y : Type 0} (p : X → Bool) (f : X → Y) where
  picked : List X → List Y
  picked xs = map f (filter p xs)

  picked_by : (x : X) (xs : List X) (b : Bool) → p x ≡ b → picked (x ∷ xs) ≡ map f (cond b (x ∷ filter p xs) (filter p xs))
  unfolding picked
  picked_by x xs b is = ap (λ c. map f (cond c (x ∷ filter p xs) (filter p xs))) is

  -- what passes is picked
  pub in_picked : (xs : List X) (x : X) → Contains xs x → p x ≡ true → Contains (map f (filter p xs)) (f x)
  unfolding picked
  in_picked [] x there passes = absurd (contains-none x there)
  in_picked (y ∷ xs) x there passes = elim (contains-cases x y xs there) [
    | inl is ↦ (
        let first : picked (y ∷ xs) ≡ f y ∷ picked xs = picked_by y xs true (ap p is ∙ passes) in
        subst (λ zs. Contains zs (f x)) (sym first) (subst (λ z. Contains (f y ∷ picked xs) (f z)) is (contains-here (f y) (picked xs)))
        )
    | inr later ↦ elim (bool_cases (p y)) [
      | inl passed ↦ (
          let first : picked (y ∷ xs) ≡ f y ∷ picked xs = picked_by y xs true passed in
          subst (λ zs. Contains zs (f x)) (sym first) (contains-later (f x) (f y) (picked xs) (in_picked xs x later passes))
          )
      | inr failed ↦ (
          let same : picked (y ∷ xs) ≡ picked xs = picked_by y xs false failed in
          subst (λ zs. Contains zs (f x)) (sym same) (in_picked xs x later passes)
          )
    ]
  ]

  -- and what is picked comes from what passes
  pub from_picked : (xs : List X) (y : Y) → Contains (map f (filter p xs)) y → (x : X) × Contains xs x × (p x ≡ true) × (f x ≡ y)
  unfolding picked
  from_picked [] y there = absurd (contains-none y there)
  from_picked (x ∷ xs) y there = elim (bool_cases (p x)) [
    | inl passed ↦ elim (contains-cases y (f x) (picked xs) (subst (λ zs. Contains zs y) (picked_by x xs true passed) there)) [
      | inl is ↦ (x, contains-here x xs, passed, is)
      | inr later ↦ let found = from_picked xs y later in (found.0, contains-later found.0 x xs found.1, found.2, found.3)
    ]
    | inr failed ↦ let found = from_picked xs y (subst (λ zs. Contains zs y) (picked_by x xs false failed) there) in (found.0, contains-later found.0 x xs found.1, found.2, found.3)
  ]

-- a row of the view k of these, of which the first has the number n
in_places : (n k : ℕ) (views : List (List Row)) (row : Row) → k < length views → Contains (get_or views k []) row → Contains (places_from n views row.id) (back_row (n + k) row)
in_places n k [] row within there = absurd (omega arith)
in_places n zero (rows ∷ views) row within there =
    let number : n + 0 ≡ n = omega arith in
    let passes : is_of row.id row ≡ true = (bytes_eq-Decides row.id row.id).1 refl in
    let here : List BackRow = map (back_row n) (filter (is_of row.id) rows) in
    subst (λ v. Contains (here ++ places_from (suc n) views row.id) (back_row v row)) (sym number)
    (Contains-append_left here (places_from (suc n) views row.id) (back_row n row) (in_picked (is_of row.id) (back_row n) rows row there passes))
in_places n (suc k) (rows ∷ views) row within there =
    let next : suc n + k ≡ n + suc k = omega arith in
    let here : List BackRow = map (back_row n) (filter (is_of row.id) rows) in
    Contains-append_right here (places_from (suc n) views row.id) (back_row (n + suc k) row)
    (subst (λ v. Contains (places_from (suc n) views row.id) (back_row v row)) next (in_places (suc n) k views row (omega (arith, within)) there))

pub row_in_places : (views : List (List Row)) (view : ℕ) (row : Row) → HasRow views view row → Contains (places_in views row.id) (back_row view row)
row_in_places views view row has =
    let number : 0 + view ≡ view = omega arith in
    subst (λ v. Contains (places_in views row.id) (back_row v row)) number (in_places 0 view views row has.within has.there)

-- where something that is listed comes from
record IsFrom (n : ℕ) (views : List (List Row)) (id : List ℕ) (place : BackRow) : Type 0 where
  view : ℕ
  row : Row
  within : view < length views
  there : Contains (get_or views view []) row
  of : row.id ≡ id
  is : place ≡ back_row (n + view) row

from_places : (n : ℕ) (views : List (List Row)) (id : List ℕ) (place : BackRow) → Contains (places_from n views id) place → IsFrom n views id place
from_places n [] id place there = absurd (contains-none place there)
from_places n (rows ∷ views) id place there = elim (Contains-append_cases (map (back_row n) (filter (is_of id) rows)) (places_from (suc n) views id) place there) [
  | inl first ↦ (
      let found = from_picked (is_of id) (back_row n) rows place first in
      let number : n ≡ n + 0 = omega arith in
      record { view = 0; row = found.0; within = omega arith; there = found.1; of = (bytes_eq-Decides found.0.id id).0 found.2; is = sym found.3 ∙ ap (λ v. back_row v found.0) number }
      )
  | inr later ↦ (
      let found = from_places (suc n) views id place later in
      let next : suc n + found.view ≡ n + suc found.view = omega arith in
      record { view = suc found.view; row = found.row; within = omega (arith, found.within); there = found.there; of = found.of; is = found.is ∙ ap (λ v. back_row v found.row) next }
      )
]

pub place_has_row : (views : List (List Row)) (id : List ℕ) (place : BackRow) → Contains (places_in views id) place → (row : Row) × IsRowAt views id place row
place_has_row views id place there =
    let from = from_places 0 views id place there in
    let none : 0 + from.view ≡ from.view = omega arith in
    let number : place.view ≡ from.view = ap (λ (r : BackRow). r.view) from.is ∙ none in (
      from.row,
      record {
        there = record { within = omega (arith, from.within, number); there = subst (λ v. Contains (get_or views v []) from.row) (sym number) from.there };
        of = from.of;
        is = from.is ∙ ap (λ v. back_row v from.row) (none ∙ sym number);
      },
    )
