-- Lists that rise and have the same elements are the same.
use Rattle.std.proofs.Common.{◌≡◌, ◌↔◌, ◌⊎◌, inl, inr, zero, suc, List, [], ◌∷◌, refl, sym, ap, ◌∙◌, subst, arith}
use Rattle.std.specs.Prelude.{Contains}
use Rattle.std.specs.Cmp.{IsTotalOrder}
use Rattle.std.specs.List.Sorted.{IsStrictlySortedBy}
use Rattle.std.specs.Ordering.{ordering_reverse}
use Rattle.std.specs.declared.cmp.Ordering.{Ordering}
use Rattle.std.specs.declared.cmp.Ordering.TheVariants.{Less, Equal, Greater}
use Rattle.std.proofs.lemmas.List.Elements.{All-contains}
use Rattle.std.proofs.lemmas.Map.Views.{All-after_first}
use Rattle.std.proofs.lemmas.Cmp.{tied_itself}

pub contains-here : {X : Type 0} (x : X) (xs : List X) → Contains (x ∷ xs) x
contains-here x xs = (0, omega arith, refl)

pub contains-later : {X : Type 0} (x y : X) (xs : List X) → Contains xs x → Contains (y ∷ xs) x
contains-later x y xs h = (suc h.0, omega (arith, h.1), h.2)

-- an element stands first or later
pub contains-cases : {X : Type 0} (x y : X) (xs : List X) → Contains (y ∷ xs) x → (y ≡ x) ⊎ Contains xs x
contains-cases x y xs (zero, within, is) = inl is
contains-cases x y xs (suc k, within, is) = inr (k, omega (arith, within), is)

pub contains-none : {X : Type 0} (x : X) → Contains [] x → ⊥
contains-none x h = omega (arith, h.1)

module _ {X : Type 0} (order : X → X → Ordering) (total : IsTotalOrder order) where
  after_first : (x y : X) (xs : List X) → IsStrictlySortedBy order (x ∷ xs) → Contains xs y → order x y ≡ Less
  after_first x y xs rise there = All-contains (λ q. order x q ≡ Less) xs y (All-after_first order x xs rise) there

  -- nothing stands behind itself
  not_again : (x : X) (xs : List X) → IsStrictlySortedBy order (x ∷ xs) → Contains xs x → ⊥
  not_again x xs rise there = let both : Equal ≡ Less = sym (tied_itself total x) ∙ after_first x x xs rise there in absurd cc

  tail_rises : (x : X) (xs : List X) → IsStrictlySortedBy order (x ∷ xs) → IsStrictlySortedBy order xs
  unfolding IsStrictlySortedBy
  tail_rises x xs rise = rise.1

  same_first : (x y : X) (xs ys : List X) → IsStrictlySortedBy order (x ∷ xs) → IsStrictlySortedBy order (y ∷ ys) → Contains (y ∷ ys) x → Contains (x ∷ xs) y → x ≡ y
  same_first x y xs ys rise_x rise_y x_there y_there = elim (contains-cases x y ys x_there) [
    | inl is ↦ sym is
    | inr later ↦ elim (contains-cases y x xs y_there) [
      | inl is ↦ is
      | inr after ↦ (
          let up : order x y ≡ Less = after_first x y xs rise_x after in
          let down : order y x ≡ Less = after_first y x ys rise_y later in
          let both : Less ≡ Greater = sym up ∙ total.antisymm x y ∙ ap ordering_reverse down in
          absurd cc
          )
    ]
  ]

  -- an element behind the first of one list stands behind that of the other
  in_tail : (x y z : X) (xs ys : List X) → IsStrictlySortedBy order (x ∷ xs) → x ≡ y → (Contains (x ∷ xs) z → Contains (y ∷ ys) z) → Contains xs z → Contains ys z
  in_tail x y z xs ys rise same also there = elim (contains-cases z y ys (also (contains-later z x xs there))) [
    | inl is ↦ absurd (not_again x xs rise (subst (Contains xs) (sym (same ∙ is)) there))
    | inr later ↦ later
  ]

  pub rising_same : (xs ys : List X) → IsStrictlySortedBy order xs → IsStrictlySortedBy order ys → ((x : X) → Contains xs x ↔ Contains ys x) → xs ≡ ys
  rising_same [] [] rise_x rise_y both = refl
  rising_same [] (y ∷ ys) rise_x rise_y both = absurd (contains-none y ((both y).1 (contains-here y ys)))
  rising_same (x ∷ xs) [] rise_x rise_y both = absurd (contains-none x ((both x).0 (contains-here x xs)))
  rising_same (x ∷ xs) (y ∷ ys) rise_x rise_y both =
      let first : x ≡ y = same_first x y xs ys rise_x rise_y ((both x).0 (contains-here x xs)) ((both y).1 (contains-here y ys)) in
      let rest : xs ≡ ys = rising_same xs ys (tail_rises x xs rise_x) (tail_rises y ys rise_y) (λ z. (in_tail x y z xs ys rise_x first (both z).0, in_tail y x z ys xs rise_y (sym first) (both z).1)) in
      λ i. first i ∷ rest i
