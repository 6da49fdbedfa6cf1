-- Items in order, around a bound.
use Rattle.std.proofs.Common.{◌≡◌, ℕ, Bool, true, false, List, [], ◌∷◌, ◌++◌, All, drop, length, get_or, zero, suc, ◌<◌, refl, ap, arith}
use Rattle.std.specs.List.{filter, AllByRecursion}
use Rattle.std.specs.List.Sorted.{IsStrictlySortedBy}
use Rattle.std.specs.declared.cmp.Ordering.{Ordering}
use Rattle.std.specs.declared.cmp.Ordering.TheVariants.{Less}
use Rattle.std.proofs.lemmas.List.Elements.{All-head, All-tail, All-cons, All-nil, All-from_recursion}
use Rattle.std.proofs.lemmas.Map.Keys.{sorted_head}

pub filter_all : {T : Type 0} (p : T → Bool) (xs : List T) → All (λ x. p x ≡ true) xs → filter p xs ≡ xs
filter_all p [] h = refl
filter_all p (x ∷ xs) h = rw (All-head (λ x. p x ≡ true) x xs h) (ap (λ t. x ∷ t) (filter_all p xs (All-tail (λ x. p x ≡ true) x xs h)))

pub filter_none : {T : Type 0} (p : T → Bool) (xs : List T) → All (λ x. p x ≡ false) xs → filter p xs ≡ []
filter_none p [] h = refl
filter_none p (x ∷ xs) h = rw (All-head (λ x. p x ≡ false) x xs h) (filter_none p xs (All-tail (λ x. p x ≡ false) x xs h))

pub first_of_rest : {T : Type 0} (xs : List T) (at : ℕ) (x : T) (rest : List T) → drop at xs ≡ x ∷ rest → (at < length xs) × (get_or xs at x ≡ x)
first_of_rest [] zero x rest e = absurd (cc)
first_of_rest [] (suc at) x rest e = absurd (cc)
first_of_rest (y ∷ ys) zero x rest e = (omega arith, cc)
first_of_rest (y ∷ ys) (suc at) x rest e = let r = first_of_rest ys at x rest e in (omega (arith, r.0), r.1)

module _ {T : Type 0} (P : T → Type 0) where
  pub each_front : (xs ys : List T) → AllByRecursion P (xs ++ ys) → AllByRecursion P xs
  each_front [] ys h = tt
  each_front (x ∷ xs) ys h = (h.0, each_front xs ys h.1)

  pub each_back : (xs ys : List T) → AllByRecursion P (xs ++ ys) → AllByRecursion P ys
  each_back [] ys h = h
  each_back (x ∷ xs) ys h = each_back xs ys h.1

module _ {T : Type 0} (order : T → T → Ordering) where
  pub sorted_front : (xs ys : List T) → IsStrictlySortedBy order (xs ++ ys) → IsStrictlySortedBy order xs
  unfolding IsStrictlySortedBy
  sorted_front [] ys h = tt
  sorted_front (x ∷ xs) ys h = (each_front (λ y. order x y ≡ Less) xs ys h.0, sorted_front xs ys h.1)

  pub sorted_back : (xs ys : List T) → IsStrictlySortedBy order (xs ++ ys) → IsStrictlySortedBy order ys
  unfolding IsStrictlySortedBy
  sorted_back [] ys h = h
  sorted_back (x ∷ xs) ys h = sorted_back xs ys h.1

  -- the last of the front is before each of the back
  pub sorted_across : (xs : List T) (x : T) (ys : List T) → IsStrictlySortedBy order (xs ++ (x ∷ ys)) → All (λ y. order x y ≡ Less) ys
  sorted_across xs x ys h = All-from_recursion (λ y. order x y ≡ Less) ys (sorted_head order x ys (sorted_back xs (x ∷ ys) h))

  -- each of the front is before the last
  pub sorted_upto : (xs : List T) (x : T) (ys : List T) → IsStrictlySortedBy order (xs ++ (x ∷ ys)) → All (λ y. order y x ≡ Less) xs
  unfolding IsStrictlySortedBy
  sorted_upto [] x ys h = All-nil (λ y. order y x ≡ Less)
  sorted_upto (z ∷ xs) x ys h =
      All-cons (λ y. order y x ≡ Less) z xs (each_back (λ y. order z y ≡ Less) xs (x ∷ ys) h.0).0 (sorted_upto xs x ys h.1)
