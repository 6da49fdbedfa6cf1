-- Items in order, around a key.
use Rattle.std.proofs.Common.{◌≡◌, ◌≢◌, ℕ, Bool, true, false, List, [], ◌∷◌, ◌++◌, All, drop, length, get_or, zero, suc, ◌<◌, refl, sym, ap, ◌∙◌, arith}
use Rattle.std.specs.List.{filter, AllByRecursion}
use Rattle.std.specs.Cmp.{IsTotalOrder}
use Rattle.std.specs.List.Sorted.{IsStrictlySortedBy}
use Rattle.std.specs.Ordering.{is_lt, is_ge, ordering_reverse}
use Rattle.std.specs.declared.cmp.Ordering.{Ordering}
use Rattle.std.specs.declared.cmp.Ordering.TheVariants.{Less, Equal, Greater}
use Rattle.std.proofs.lemmas.List.Elements.{All-head, All-tail, All-cons, All-nil, All-weaker, All-from_recursion}
use Rattle.std.proofs.lemmas.Map.Keys.{sorted_head}

pub less_from_not_ge : (r : Ordering) → false ≡ is_ge r → r ≡ Less
less_from_not_ge Less e = refl
less_from_not_ge Equal e = absurd (cc)
less_from_not_ge Greater e = absurd (cc)

pub filter_all : {T : Type 0} (p : T → Bool) (xs : List T) → All (λ x. p x ≡ true) xs → filter p xs ≡ xs
filter_all p [] h = refl
filter_all p (x ∷ xs) h = rw (All-head (λ x. p x ≡ true) x xs h) (ap (λ t. x ∷ t) (filter_all p xs (All-tail (λ x. p x ≡ true) x xs h)))

pub filter_none : {T : Type 0} (p : T → Bool) (xs : List T) → All (λ x. p x ≡ false) xs → filter p xs ≡ []
filter_none p [] h = refl
filter_none p (x ∷ xs) h = rw (All-head (λ x. p x ≡ false) x xs h) (filter_none p xs (All-tail (λ x. p x ≡ false) x xs h))

-- an order is one of three
pub data Side (r : Ordering) : Type 0 where
  less : r ≡ Less → Side r
  equal : r ≡ Equal → Side r
  greater : r ≡ Greater → Side r

pub side : (r : Ordering) → Side r
side Less = less refl
side Equal = equal refl
side Greater = greater refl

pub first_of_rest : {T : Type 0} (xs : List T) (at : ℕ) (x : T) (rest : List T) → drop at xs ≡ x ∷ rest → (at < length xs) × (get_or xs at x ≡ x)
first_of_rest [] zero x rest e = absurd (cc)
first_of_rest [] (suc at) x rest e = absurd (cc)
first_of_rest (y ∷ ys) zero x rest e = (omega arith, cc)
first_of_rest (y ∷ ys) (suc at) x rest e = let r = first_of_rest ys at x rest e in (omega (arith, r.0), r.1)

module _ {T : Type 0} (P : T → Type 0) where
  pub each_front : (xs ys : List T) → AllByRecursion P (xs ++ ys) → AllByRecursion P xs
  each_front [] ys h = tt
  each_front (x ∷ xs) ys h = (h.0, each_front xs ys h.1)

  pub each_back : (xs ys : List T) → AllByRecursion P (xs ++ ys) → AllByRecursion P ys
  each_back [] ys h = h
  each_back (x ∷ xs) ys h = each_back xs ys h.1

module _ {T : Type 0} (order : T → T → Ordering) where
  pub sorted_front : (xs ys : List T) → IsStrictlySortedBy order (xs ++ ys) → IsStrictlySortedBy order xs
  unfolding IsStrictlySortedBy
  sorted_front [] ys h = tt
  sorted_front (x ∷ xs) ys h = (each_front (λ y. order x y ≡ Less) xs ys h.0, sorted_front xs ys h.1)

  pub sorted_back : (xs ys : List T) → IsStrictlySortedBy order (xs ++ ys) → IsStrictlySortedBy order ys
  unfolding IsStrictlySortedBy
  sorted_back [] ys h = h
  sorted_back (x ∷ xs) ys h = sorted_back xs ys h.1

  -- the last of the front is before each of the back
  pub sorted_across : (xs : List T) (x : T) (ys : List T) → IsStrictlySortedBy order (xs ++ (x ∷ ys)) → All (λ y. order x y ≡ Less) ys
  sorted_across xs x ys h = All-from_recursion (λ y. order x y ≡ Less) ys (sorted_head order x ys (sorted_back xs (x ∷ ys) h))

  -- each of the front is before the last
  pub sorted_upto : (xs : List T) (x : T) (ys : List T) → IsStrictlySortedBy order (xs ++ (x ∷ ys)) → All (λ y. order y x ≡ Less) xs
  unfolding IsStrictlySortedBy
  sorted_upto [] x ys h = All-nil (λ y. order y x ≡ Less)
  sorted_upto (z ∷ xs) x ys h =
      All-cons (λ y. order y x ≡ Less) z xs (each_back (λ y. order z y ≡ Less) xs (x ∷ ys) h.0).0 (sorted_upto xs x ys h.1)

module _ {T : Type 0} (order : T → T → Ordering) (o : IsTotalOrder order) (key : T) where
  pub above : (x y : T) → order x key ≢ Less → order x y ≡ Less → order y key ≡ Greater
  above x y h e = elim (side (order x key)) [
    | less l ↦ absurd (h l)
    | equal l ↦ o.antisymm y key ∙ ap ordering_reverse (sym (o.congr x key y l) ∙ e)
    | greater l ↦ o.antisymm y key ∙ ap ordering_reverse (o.trans key x y (o.antisymm key x ∙ ap ordering_reverse l) e)
  ]

  pub all_above : (x : T) (ys : List T) → order x key ≢ Less → All (λ y. order x y ≡ Less) ys → All (λ y. order y key ≡ Greater) ys
  all_above x ys h = All-weaker (λ y. order x y ≡ Less) (λ y. order y key ≡ Greater) (λ y. above x y h) ys

  pub all_below : (x : T) (ys : List T) → order x key ≡ Less → All (λ y. order y x ≡ Less) ys → All (λ y. order y key ≡ Less) ys
  all_below x ys h = All-weaker (λ y. order y x ≡ Less) (λ y. order y key ≡ Less) (λ y e. o.trans y x key e h) ys

pub not_less : (r : Ordering) (b : Bool) → b ≡ is_lt r → b ≡ false → r ≢ Less
not_less Less b e f l = absurd (cc)
not_less Equal b e f l = absurd (cc)
not_less Greater b e f l = absurd (cc)

pub less_from_lt : (r : Ordering) (b : Bool) → b ≡ is_lt r → b ≡ true → r ≡ Less
less_from_lt Less b e t = refl
less_from_lt Equal b e t = absurd (cc)
less_from_lt Greater b e t = absurd (cc)
