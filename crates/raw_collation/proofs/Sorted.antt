-- Under a total order that is `Equal` for equal elements alone, a list has one sorted order, and inserting the
-- elements one after another gives it.
use Rattle.std.specs.Prelude.{◌≡◌, ℕ, zero, suc, ◌+◌, ◌<◌, Bool, true, false, List, [], ◌∷◌, ◌++◌, length, swap, refl, if◌then◌else◌, IsPermutation, IsSorted}
use Rattle.std.proofs.Common.{ap, sym, ◌∙◌, subst, arith, get_or, set}
use Rattle.std.specs.declared.cmp.Ordering.{Ordering}
use Rattle.std.specs.declared.cmp.Ordering.TheVariants.{Less, Equal, Greater}
use Rattle.std.specs.Ordering.{is_lt, ordering_reverse}
use Rattle.std.specs.Cmp.{IsTotalOrder, IsStrictWeakOrder}
use Rattle.std.proofs.lemmas.List.Sorted.{ranks_by, IsPermutation-refl, IsPermutation-sym, IsPermutation-trans, IsPermutation-cons, IsPermutation-middle, IsPermutation-to_front, IsPermutation-keeps}
use Rattle.raw_collation.specs.Sorting.{insert_by, sorted_by}

module _ {X : Type 0} (cmp : X → X → Ordering) (total : IsTotalOrder cmp) (equal : (x y : X) → cmp x y ≡ Equal → x ≡ y) where
  abbrev lt : X → X → Bool
  lt x y = is_lt (cmp x y)

  abbrev insert : X → List X → List X
  insert = insert_by cmp

  abbrev sort : List X → List X
  sort = sorted_by cmp

  weak : IsStrictWeakOrder lt
  weak = ranks_by total (λ x. x)

  -- of two elements neither of which is less, both are one
  tied_by : (x y : X) (c : Ordering) → cmp x y ≡ c → lt x y ≡ false → lt y x ≡ false → x ≡ y
  tied_by x y Less h a b = let less : is_lt (cmp x y) ≡ true = ap is_lt h in cc
  tied_by x y Equal h a b = equal x y h
  tied_by x y Greater h a b = let less : is_lt (cmp y x) ≡ true = ap is_lt (total.antisymm y x ∙ ap ordering_reverse h) in cc

  tied : (x y : X) → lt x y ≡ false → lt y x ≡ false → x ≡ y
  tied x y = tied_by x y (cmp x y) refl

  insert-before : (x y : X) (ys : List X) → lt x y ≡ true → insert x (y ∷ ys) ≡ x ∷ y ∷ ys
  insert-before x y ys h = ap (λ b. if b then x ∷ y ∷ ys else y ∷ insert x ys) h

  insert-after : (x y : X) (ys : List X) → lt x y ≡ false → insert x (y ∷ ys) ≡ y ∷ insert x ys
  insert-after x y ys h = ap (λ b. if b then x ∷ y ∷ ys else y ∷ insert x ys) h

  -- ---- two inserts in either order

  heads_by : (x y : X) (zs : List X) (p q : Bool) → lt x y ≡ p → lt y x ≡ q → insert x zs ≡ x ∷ zs → insert y zs ≡ y ∷ zs
      → insert x (y ∷ zs) ≡ insert y (x ∷ zs)
  heads_by x y zs true q a b f g =
      let one = insert-before x y zs a in
      let other = insert-after y x zs (weak.one_way x y a) in
      cc
  heads_by x y zs false true a b f g =
      let one = insert-after x y zs a in
      let other = insert-before y x zs b in
      cc
  heads_by x y zs false false a b f g = let same = tied x y a b in cc

  heads : (x y : X) (zs : List X) → insert x zs ≡ x ∷ zs → insert y zs ≡ y ∷ zs → insert x (insert y zs) ≡ insert y (insert x zs)
  heads x y zs f g = let step = heads_by x y zs (lt x y) (lt y x) refl refl f g in cc

  apart : (x y z : X) (zs : List X) → lt x z ≡ true → lt y z ≡ false → insert x (insert y (z ∷ zs)) ≡ insert y (insert x (z ∷ zs))
  apart x y z zs a b =
      let behind = weak.chain y z x b (weak.one_way x z a) in
      let one = insert-after y z zs b in
      let two = insert-before x z (insert y zs) a in
      let three = insert-before x z zs a in
      let four = insert-after y x (z ∷ zs) behind in
      cc

  commute_by : (x y z : X) (zs : List X) (p q : Bool) → lt x z ≡ p → lt y z ≡ q → insert x (insert y zs) ≡ insert y (insert x zs)
      → insert x (insert y (z ∷ zs)) ≡ insert y (insert x (z ∷ zs))
  commute_by x y z zs true true a b h = heads x y (z ∷ zs) (insert-before x z zs a) (insert-before y z zs b)
  commute_by x y z zs true false a b h = apart x y z zs a b
  commute_by x y z zs false true a b h = sym (apart y x z zs b a)
  commute_by x y z zs false false a b h =
      let one = insert-after y z zs b in
      let two = insert-after x z (insert y zs) a in
      let three = insert-after x z zs a in
      let four = insert-after y z (insert x zs) b in
      cc

  pub insert_by-commute : (x y : X) (zs : List X) → insert x (insert y zs) ≡ insert y (insert x zs)
  insert_by-commute x y [] = heads x y [] refl refl
  insert_by-commute x y (z ∷ zs) = commute_by x y z zs (lt x z) (lt y z) refl refl (insert_by-commute x y zs)

  -- ---- a permutation sorts to the same list

  sort-set : (xs : List X) (i : ℕ) (v d : X) → i < length xs → insert (get_or xs i d) (sort (set xs i v)) ≡ insert v (sort xs)
  sort-set [] i v d h = absurd (omega arith)
  sort-set (x ∷ xs) zero v d h = insert_by-commute x v (sort xs)
  sort-set (x ∷ xs) (suc i) v d h =
      insert_by-commute (get_or xs i d) x (sort (set xs i v)) ∙ ap (insert x) (sort-set xs i v d (omega arith)) ∙ insert_by-commute x v (sort xs)

  sort-exchange : (xs : List X) (i j : ℕ) (d : X) → i < length xs → j < length xs → sort (set (set xs i (get_or xs j d)) j (get_or xs i d)) ≡ sort xs
  sort-exchange [] i j d a b = absurd (omega arith)
  sort-exchange (x ∷ xs) zero zero d a b = refl
  sort-exchange (x ∷ xs) zero (suc j) d a b = sort-set xs j x d (omega arith)
  sort-exchange (x ∷ xs) (suc i) zero d a b = sort-set xs i x d (omega arith)
  sort-exchange (x ∷ xs) (suc i) (suc j) d a b = ap (insert x) (sort-exchange xs i j d (omega arith) (omega arith))

  sort-swap : (xs : List X) (i j : ℕ) → i < length xs → j < length xs → sort (swap xs i j) ≡ sort xs
  sort-swap [] i j a b = absurd (omega arith)
  sort-swap (x ∷ xs) i j a b = sort-exchange (x ∷ xs) i j x a b

  pub sorted_by-permutation : (xs ys : List X) → IsPermutation xs ys → sort xs ≡ sort ys
  sorted_by-permutation xs ys = IsPermutation-keeps xs (λ l. sort xs ≡ sort l) refl (λ l i j a b h. h ∙ sym (sort-swap l i j a b)) ys

  pub sorted_by-push : (xs : List X) (x : X) → sort (xs ++ x ∷ []) ≡ insert x (sort xs)
  sorted_by-push xs x = sorted_by-permutation (xs ++ x ∷ []) (x ∷ xs) (IsPermutation-to_front xs x)

  -- ---- a sorted list stays as it is

  abbrev Ascends : List X → Type 0
  Ascends [] = Unit {0}
  Ascends (x ∷ []) = Unit {0}
  Ascends (x ∷ y ∷ ys) = (lt y x ≡ false) × Ascends (y ∷ ys)

  ascends_from_sorted : (xs : List X) → IsSorted cmp xs → Ascends xs
  ascends_from_sorted [] h = tt
  ascends_from_sorted (x ∷ []) h = tt
  ascends_from_sorted (x ∷ y ∷ ys) h = (
    h 0 x (omega arith) (omega arith),
    ascends_from_sorted (y ∷ ys) (λ k d low high.
        let next : suc k + 1 ≡ suc (k + 1) = omega arith in
        subst (λ n. lt (get_or (x ∷ y ∷ ys) n d) (get_or (y ∷ ys) k d) ≡ false) next (h (suc k) d (omega arith) (omega arith))),
  )

  sorted_from_ascends : (xs : List X) → Ascends xs → IsSorted cmp xs
  sorted_from_ascends [] h k d low high = absurd (omega arith)
  sorted_from_ascends (x ∷ []) h k d low high = absurd (omega arith)
  sorted_from_ascends (x ∷ y ∷ ys) h zero d low high = h.0
  sorted_from_ascends (x ∷ y ∷ ys) h (suc k) d low high =
      let next : suc (k + 1) ≡ suc k + 1 = omega arith in
      subst (λ n. lt (get_or (x ∷ y ∷ ys) n d) (get_or (y ∷ ys) k d) ≡ false) next (sorted_from_ascends (y ∷ ys) h.1 k d (omega arith) (omega arith))

  insert_least_by : (x y : X) (ys : List X) (p : Bool) → lt x y ≡ p → lt y x ≡ false → insert y ys ≡ y ∷ ys → insert x (y ∷ ys) ≡ x ∷ y ∷ ys
  insert_least_by x y ys true a b h = insert-before x y ys a
  insert_least_by x y ys false a b h =
      let same = tied x y a b in
      let step = insert-after x y ys a in
      cc

  insert_least : (x : X) (xs : List X) → Ascends (x ∷ xs) → insert x xs ≡ x ∷ xs
  insert_least x [] h = refl
  insert_least x (y ∷ ys) h = insert_least_by x y ys (lt x y) refl h.0 (insert_least y ys h.1)

  sort-ascending : (xs : List X) → Ascends xs → sort xs ≡ xs
  sort-ascending [] h = refl
  sort-ascending (x ∷ []) h = refl
  sort-ascending (x ∷ y ∷ ys) h = ap (insert x) (sort-ascending (y ∷ ys) h.1) ∙ insert_least x (y ∷ ys) h

  pub sorted_by-sorted : (xs : List X) → IsSorted cmp xs → sort xs ≡ xs
  sorted_by-sorted xs h = sort-ascending xs (ascends_from_sorted xs h)

  pub sorted_by-only : (xs ys : List X) → IsPermutation xs ys → IsSorted cmp ys → ys ≡ sort xs
  sorted_by-only xs ys moved up = sym (sorted_by-sorted ys up) ∙ sym (sorted_by-permutation xs ys moved)

  -- ---- an insert keeps the order, and adds the element alone

  front_by : (x y z : X) (zs : List X) (p : Bool) → lt y z ≡ p → lt y x ≡ false → lt z x ≡ false → Ascends (insert y (z ∷ zs)) → Ascends (x ∷ insert y (z ∷ zs))
  front_by x y z zs true a b h up = subst (λ l. Ascends (x ∷ l)) (sym (insert-before y z zs a)) (b, subst Ascends (insert-before y z zs a) up)
  front_by x y z zs false a b h up = subst (λ l. Ascends (x ∷ l)) (sym (insert-after y z zs a)) (h, subst Ascends (insert-after y z zs a) up)

  front : (x y : X) (xs : List X) → lt y x ≡ false → Ascends (x ∷ xs) → Ascends (insert y xs) → Ascends (x ∷ insert y xs)
  front x y [] b h up = (b, tt)
  front x y (z ∷ zs) b h up = front_by x y z zs (lt y z) refl b h.0 up

  rest_ascends : (x : X) (xs : List X) → Ascends (x ∷ xs) → Ascends xs
  rest_ascends x [] h = tt
  rest_ascends x (y ∷ ys) h = h.1

  insert_ascends_by : (x y : X) (ys : List X) (p : Bool) → lt x y ≡ p → Ascends (y ∷ ys) → Ascends (insert x ys) → Ascends (insert x (y ∷ ys))
  insert_ascends_by x y ys true a h up = subst Ascends (sym (insert-before x y ys a)) (weak.one_way x y a, h)
  insert_ascends_by x y ys false a h up = subst Ascends (sym (insert-after x y ys a)) (front y x ys a h up)

  insert_ascends : (x : X) (xs : List X) → Ascends xs → Ascends (insert x xs)
  insert_ascends x [] h = tt
  insert_ascends x (y ∷ ys) h = insert_ascends_by x y ys (lt x y) refl h (insert_ascends x ys (rest_ascends y ys h))

  sort_ascends : (xs : List X) → Ascends (sort xs)
  sort_ascends [] = tt
  sort_ascends (x ∷ xs) = insert_ascends x (sort xs) (sort_ascends xs)

  pub insert_by_keeps_sorted : (x : X) (xs : List X) → IsSorted cmp xs → IsSorted cmp (insert x xs)
  insert_by_keeps_sorted x xs h = sorted_from_ascends (insert x xs) (insert_ascends x xs (ascends_from_sorted xs h))

  pub sorted_by_is_sorted : (xs : List X) → IsSorted cmp (sort xs)
  sorted_by_is_sorted xs = sorted_from_ascends (sort xs) (sort_ascends xs)

  insert_permutes_by : (x y : X) (ys : List X) (p : Bool) → lt x y ≡ p → IsPermutation (x ∷ ys) (insert x ys) → IsPermutation (x ∷ y ∷ ys) (insert x (y ∷ ys))
  insert_permutes_by x y ys true a h = subst (IsPermutation (x ∷ y ∷ ys)) (sym (insert-before x y ys a)) (IsPermutation-refl (x ∷ y ∷ ys))
  insert_permutes_by x y ys false a h =
      let behind = IsPermutation-sym (y ∷ x ∷ ys) (x ∷ y ∷ ys) (IsPermutation-middle (y ∷ []) x ys) in
      subst (IsPermutation (x ∷ y ∷ ys)) (sym (insert-after x y ys a)) (IsPermutation-trans _ _ _ behind (IsPermutation-cons y (x ∷ ys) (insert x ys) h))

  pub insert_by_permutes : (x : X) (xs : List X) → IsPermutation (x ∷ xs) (insert x xs)
  insert_by_permutes x [] = IsPermutation-refl (x ∷ [])
  insert_by_permutes x (y ∷ ys) = insert_permutes_by x y ys (lt x y) refl (insert_by_permutes x ys)

  pub sorted_by_permutes : (xs : List X) → IsPermutation xs (sort xs)
  sorted_by_permutes [] = IsPermutation-refl []
  sorted_by_permutes (x ∷ xs) = IsPermutation-trans _ _ _ (IsPermutation-cons x xs (sort xs) (sorted_by_permutes xs)) (insert_by_permutes x (sort xs))
