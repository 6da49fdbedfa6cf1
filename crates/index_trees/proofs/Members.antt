-- Members of lists, and lists whose elements differ.
use Rattle.std.specs.Prelude.{◌≡◌, ◌⊎◌, List, [], ◌∷◌, All, map, filter, Bool, true, false, Contains, refl, if◌then◌else◌}
use Rattle.std.specs.List.{list_any, AllByRecursion, IsDistinct}
use Rattle.std.proofs.Common.{inl, inr, ap, sym, ◌∙◌, subst}
use Rattle.std.proofs.lemmas.Bool.{false≢true, or_parts}
use Rattle.std.proofs.lemmas.List.Elements.{All-contains, All-contains_itself, All-filter, All-from_recursion, All-weaker, filter_passes, recursion_from_All}
use Rattle.std.proofs.lemmas.List.Folds.{Any-from_list_any, list_any_at}
use Rattle.index_items.proofs.Rising.{contains-cases, contains-here, contains-later, contains-none}

module _ {X : Type 0} where
  -- what holds of each member
  pub all_of : (P : X → Type 0) (xs : List X) → ((x : X) → Contains xs x → P x) → All P xs
  all_of P xs f = All-weaker (Contains xs) P f xs (All-contains_itself xs)

  pub each_member : (P : X → Type 0) (xs : List X) → ((x : X) → Contains xs x → P x) → AllByRecursion P xs
  each_member P xs f = recursion_from_All P xs (all_of P xs f)

  pub of_member : (P : X → Type 0) (xs : List X) (x : X) → AllByRecursion P xs → Contains xs x → P x
  of_member P xs x all there = All-contains P xs x (All-from_recursion P xs all) there

  -- ---- what a filter keeps

  kept_step : (p : X → Bool) (y x : X) (xs : List X) (b : Bool) → p y ≡ b → (y ≡ x) ⊎ Contains (filter p xs) x → p x ≡ true → Contains (if b then y ∷ filter p xs else filter p xs) x
  kept_step p y x xs true is (inl same) passes = subst (λ z. Contains (z ∷ filter p xs) x) (sym same) (contains-here x (filter p xs))
  kept_step p y x xs true is (inr later) passes = contains-later x y (filter p xs) later
  kept_step p y x xs false is (inl same) passes = absurd (false≢true (sym is ∙ ap p same ∙ passes))
  kept_step p y x xs false is (inr later) passes = later

  pub contains-filter : (p : X → Bool) (xs : List X) (x : X) → Contains xs x → p x ≡ true → Contains (filter p xs) x
  contains-filter p [] x there passes = absurd (contains-none x there)
  contains-filter p (y ∷ xs) x there passes = kept_step p y x xs (p y) refl (elim (contains-cases x y xs there) [
    | inl same ↦ inl same
    | inr later ↦ inr (contains-filter p xs x later passes)
  ]) passes

  pub from_filter : (p : X → Bool) (xs : List X) (x : X) → Contains (filter p xs) x → Contains xs x × (p x ≡ true)
  from_filter p xs x there = (
    All-contains (Contains xs) (filter p xs) x (All-filter p (Contains xs) xs (All-contains_itself xs)) there,
    All-contains (λ y. p y ≡ true) (filter p xs) x (filter_passes p xs) there,
  )

  -- ---- a test that some member passes

  pub any_from_member : (p : X → Bool) (xs : List X) (x : X) → Contains xs x → p x ≡ true → list_any p xs ≡ true
  any_from_member p xs x there passes = list_any_at p xs there.0 x there.1 (ap p there.2 ∙ passes)

  pub member_from_any : (p : X → Bool) (xs : List X) → list_any p xs ≡ true → (x : X) × Contains xs x × (p x ≡ true)
  member_from_any p xs some = let found = Any-from_list_any p xs some in (found.1, (found.0, found.2, found.3), found.4)

  pub any_none : (p : X → Bool) (xs : List X) → list_any p xs ≡ false → AllByRecursion (λ x. p x ≡ false) xs
  any_none p [] none = tt
  any_none p (x ∷ xs) none = let parts = or_parts (p x) (list_any p xs) none in (parts.0, any_none p xs parts.1)

-- ---- lists that are mapped

module _ {X Y : Type 0} (f : X → Y) where
  pub contains-map : (xs : List X) (x : X) → Contains xs x → Contains (map f xs) (f x)
  contains-map [] x there = absurd (contains-none x there)
  contains-map (y ∷ xs) x there = elim (contains-cases x y xs there) [
    | inl same ↦ subst (λ z. Contains (map f (y ∷ xs)) (f z)) same (contains-here (f y) (map f xs))
    | inr later ↦ contains-later (f x) (f y) (map f xs) (contains-map xs x later)
  ]

  pub from_map : (xs : List X) (y : Y) → Contains (map f xs) y → (x : X) × Contains xs x × (f x ≡ y)
  from_map [] y there = absurd (contains-none y there)
  from_map (x ∷ xs) y there = elim (contains-cases y (f x) (map f xs) there) [
    | inl same ↦ (x, contains-here x xs, same)
    | inr later ↦ let found = from_map xs y later in (found.0, contains-later found.0 x xs found.1, found.2)
  ]

  pub all_map : (P : Y → Type 0) (xs : List X) → AllByRecursion (λ x. P (f x)) xs → AllByRecursion P (map f xs)
  all_map P [] all = tt
  all_map P (x ∷ xs) all = (all.0, all_map P xs all.1)

  pub distinct_map : (e : Y → Y → Bool) (xs : List X) → IsDistinct (λ a b. e (f a) (f b)) xs → IsDistinct e (map f xs)
  unfolding IsDistinct
  distinct_map e [] apart = tt
  distinct_map e (x ∷ xs) apart = (all_map (λ y. e (f x) y ≡ false) xs apart.0, distinct_map e xs apart.1)

-- elements of a kind that differ by one test differ by another
module _ {X : Type 0} (P : X → Type 0) (e d : X → X → Bool) (also : (x y : X) → P x → P y → e x y ≡ false → d x y ≡ false) where
  apart_weaker : (x : X) (xs : List X) → P x → AllByRecursion P xs → AllByRecursion (λ y. e x y ≡ false) xs → AllByRecursion (λ y. d x y ≡ false) xs
  apart_weaker x [] here all apart = tt
  apart_weaker x (y ∷ xs) here all apart = (also x y here all.0 apart.0, apart_weaker x xs here all.1 apart.1)

  pub distinct_weaker : (xs : List X) → AllByRecursion P xs → IsDistinct e xs → IsDistinct d xs
  unfolding IsDistinct
  distinct_weaker [] all apart = tt
  distinct_weaker (x ∷ xs) all apart = (apart_weaker x xs all.0 all.1 apart.0, distinct_weaker xs all.1 apart.1)

pub distinct_also : {X : Type 0} (e d : X → X → Bool) → ((x y : X) → e x y ≡ false → d x y ≡ false) → (xs : List X) → IsDistinct e xs → IsDistinct d xs
distinct_also {X = X} e d also xs = distinct_weaker (λ (x : X). Unit {0}) e d (λ x y _ _. also x y) xs (each_member (λ (x : X). Unit {0}) xs (λ x there. tt))
