-- How far sums of numbers of 64 bits reach.
use Rattle.std.specs.Prelude.{◌≡◌, ℕ, suc, ◌+◌, ◌-◌, ◌*◌, ◌^◌, ◌≤◌, min, ℤ, pos, negsuc, ◌+ℤ◌, ◌≤ℤ◌, neg_ℤ, List, [], ◌∷◌, ◌++◌, length, FitsSigned, refl}
use Rattle.std.proofs.Common.{ap, sym, ◌∙◌, arith, w64}
use Rattle.std.specs.List.{fold}
use Rattle.std.proofs.lemmas.Int.{ints}
use Rattle.builtin_reduces.specs.Values.{total, added, place_totals}
use Rattle.builtin_reduces.specs.Added.{near, near_added}

-- numbers that fit 64 bits
abbrev pub AreSmall : List ℤ → Type 0
AreSmall [] = Unit {0}
AreSmall (n ∷ ns) = FitsSigned w64 n × AreSmall ns

-- lists of such numbers
abbrev pub EachAreSmall : List (List ℤ) → Type 0
EachAreSmall [] = Unit {0}
EachAreSmall (ns ∷ nss) = AreSmall ns × EachAreSmall nss

-- a number of this size at most
pub record Within (k : ℕ) (z : ℤ) : Type 0 where
  pub low : neg_ℤ (pos k) ≤ℤ z
  pub high : z ≤ℤ pos k

abbrev pub AreWithin : ℕ → List ℤ → Type 0
AreWithin k [] = Unit {0}
AreWithin k (z ∷ zs) = Within k z × AreWithin k zs

pub near_exact : (z : ℤ) → Within (2 ^ 126) z → near z ≡ z
near_exact (pos n) w = let h = w.high in let e : min n (2 ^ 127 - 1) ≡ n = omega (arith, ints) in ap pos e
near_exact (negsuc n) w = let h = w.low in let e : min n (2 ^ 127 - 1) ≡ n = omega (arith, ints) in ap negsuc e

pub near-sum : (j k : ℕ) (x y : ℤ) → Within j x → Within k y → j + k ≤ 2 ^ 126 → near (x +ℤ y) ≡ x +ℤ y
near-sum j k x y v w h =
    let a = v.low in let b = v.high in let c = w.low in let d = w.high in
    near_exact (x +ℤ y) (record { low = omega (arith, ints); high = omega (arith, ints) })

small_within : (n : ℤ) → FitsSigned w64 n → Within (2 ^ 63) n
small_within n f = record { low = omega (arith, ints); high = omega (arith, ints) }

-- ---- a sum

-- the sum from the last number on
abbrev pub sum_of : List ℤ → ℤ
sum_of [] = pos 0
sum_of (n ∷ ns) = n +ℤ sum_of ns

total_from : (n : ℤ) (ns : List ℤ) → fold ◌+ℤ◌ n ns ≡ n +ℤ sum_of ns
total_from n [] = omega (arith, ints)
total_from n (m ∷ ns) = let e = total_from (n +ℤ m) ns in omega (arith, ints)

pub total_is : (ns : List ℤ) → total ns ≡ sum_of ns
total_is ns = let e = total_from (pos 0) ns in omega (arith, ints)

sum_of-append : (ms ns : List ℤ) → sum_of (ms ++ ns) ≡ sum_of ms +ℤ sum_of ns
sum_of-append [] ns = omega (arith, ints)
sum_of-append (m ∷ ms) ns = let e = sum_of-append ms ns in omega (arith, ints)

pub sum_within : (ns : List ℤ) → AreSmall ns → Within (length ns * 2 ^ 63) (sum_of ns)
sum_within [] s = record { low = omega (arith, ints); high = omega (arith, ints) }
sum_within (n ∷ ns) s =
    let v = small_within n s.0 in let w = sum_within ns s.1 in
    let a = v.low in let b = v.high in let c = w.low in let d = w.high in
    record { low = omega (arith, ints); high = omega (arith, ints) }

pub total_within : (ns : List ℤ) → AreSmall ns → Within (length ns * 2 ^ 63) (total ns)
total_within ns s = rw (total_is ns) (sum_within ns s)

pub total-append : (ms ns : List ℤ) → total (ms ++ ns) ≡ total ms +ℤ total ns
total-append ms ns =
    let e = total_is (ms ++ ns) in let f = total_is ms in let g = total_is ns in let h = sum_of-append ms ns in omega (arith, ints)

pub near-total : (ms ns : List ℤ) → AreSmall ms → AreSmall ns → length ms + length ns ≤ 2 ^ 63 → near (total ms +ℤ total ns) ≡ total (ms ++ ns)
near-total ms ns s t h =
    near-sum (length ms * 2 ^ 63) (length ns * 2 ^ 63) (total ms) (total ns) (total_within ms s) (total_within ns t) (omega arith) ∙ sym (total-append ms ns)

-- ---- sums of places

pub added-nil : (xs : List ℤ) → added xs [] ≡ xs
added-nil [] = refl
added-nil (x ∷ xs) = refl

add_assoc_ℤ : (x y z : ℤ) → (x +ℤ y) +ℤ z ≡ x +ℤ (y +ℤ z)
add_assoc_ℤ x y z = omega (arith, ints)

pub added_assoc : (xs ys zs : List ℤ) → added (added xs ys) zs ≡ added xs (added ys zs)
added_assoc [] ys zs = refl
added_assoc (x ∷ xs) [] zs = refl
added_assoc (x ∷ xs) (y ∷ ys) [] = refl
added_assoc (x ∷ xs) (y ∷ ys) (z ∷ zs) = let e = add_assoc_ℤ x y z in let f = added_assoc xs ys zs in λ i. e i ∷ f i

-- the sums of the places from the last list on
abbrev pub places_of : List (List ℤ) → List ℤ
places_of [] = []
places_of (ns ∷ nss) = added ns (places_of nss)

places_from : (ns : List ℤ) (nss : List (List ℤ)) → fold added ns nss ≡ added ns (places_of nss)
places_from ns [] = sym (added-nil ns)
places_from ns (ms ∷ nss) = places_from (added ns ms) nss ∙ added_assoc ns ms (places_of nss)

pub place_totals_is : (nss : List (List ℤ)) → place_totals nss ≡ added (pos 0 ∷ []) (places_of nss)
place_totals_is nss = places_from (pos 0 ∷ []) nss

places_of-append : (mss nss : List (List ℤ)) → places_of (mss ++ nss) ≡ added (places_of mss) (places_of nss)
places_of-append [] nss = refl
places_of-append (ms ∷ mss) nss = ap (added ms) (places_of-append mss nss) ∙ sym (added_assoc ms (places_of mss) (places_of nss))

widened : (j k : ℕ) (z : ℤ) → j ≤ k → Within j z → Within k z
widened j k z h w = let a = w.low in let b = w.high in record { low = omega (arith, ints); high = omega (arith, ints) }

all_widened : (j k : ℕ) (zs : List ℤ) → j ≤ k → AreWithin j zs → AreWithin k zs
all_widened j k [] h w = tt
all_widened j k (z ∷ zs) h w = (widened j k z h w.0, all_widened j k zs h w.1)

sum_of_two : (j k : ℕ) (x y : ℤ) → Within j x → Within k y → Within (j + k) (x +ℤ y)
sum_of_two j k x y v w = let a = v.low in let b = v.high in let c = w.low in let d = w.high in record { low = omega (arith, ints); high = omega (arith, ints) }

added_within : (j k : ℕ) (xs ys : List ℤ) → AreWithin j xs → AreWithin k ys → AreWithin (j + k) (added xs ys)
added_within j k [] ys v w = all_widened k (j + k) ys (omega arith) w
added_within j k (x ∷ xs) [] v w = all_widened j (j + k) (x ∷ xs) (omega arith) v
added_within j k (x ∷ xs) (y ∷ ys) v w = (sum_of_two j k x y v.0 w.0, added_within j k xs ys v.1 w.1)

all_small_within : (ns : List ℤ) → AreSmall ns → AreWithin (2 ^ 63) ns
all_small_within [] s = tt
all_small_within (n ∷ ns) s = (small_within n s.0, all_small_within ns s.1)

places_within : (nss : List (List ℤ)) → EachAreSmall nss → AreWithin (length nss * 2 ^ 63) (places_of nss)
places_within [] s = tt
places_within (ns ∷ nss) s =
    all_widened (2 ^ 63 + length nss * 2 ^ 63) (suc (length nss) * 2 ^ 63) (added ns (places_of nss)) (omega arith)
    (added_within (2 ^ 63) (length nss * 2 ^ 63) ns (places_of nss) (all_small_within ns s.0) (places_within nss s.1))

near_added-exact : (j k : ℕ) (xs ys : List ℤ) → AreWithin j xs → AreWithin k ys → j + k ≤ 2 ^ 126 → near_added xs ys ≡ added xs ys
near_added-exact j k [] ys v w h = refl
near_added-exact j k (x ∷ xs) [] v w h = refl
near_added-exact j k (x ∷ xs) (y ∷ ys) v w h =
    let e = near-sum j k x y v.0 w.0 h in let f = near_added-exact j k xs ys v.1 w.1 h in λ i. e i ∷ f i

from_zero_within : (k : ℕ) (xs : List ℤ) → AreWithin k xs → AreWithin k (added (pos 0 ∷ []) xs)
from_zero_within k xs w = all_widened (0 + k) k (added (pos 0 ∷ []) xs) (omega arith) (added_within 0 k (pos 0 ∷ []) xs (record { low = omega (arith, ints); high = omega (arith, ints) }, tt) w)

zero_twice : (xs ys : List ℤ) → added (added (pos 0 ∷ []) xs) (added (pos 0 ∷ []) ys) ≡ added (pos 0 ∷ []) (added xs ys)
zero_twice [] [] = refl
zero_twice [] (y ∷ ys) = let e : pos 0 +ℤ (pos 0 +ℤ y) ≡ pos 0 +ℤ y = omega (arith, ints) in ap (λ z. z ∷ ys) e
zero_twice (x ∷ xs) [] = let e : (pos 0 +ℤ x) +ℤ pos 0 ≡ pos 0 +ℤ x = omega (arith, ints) in λ i. e i ∷ added-nil xs i
zero_twice (x ∷ xs) (y ∷ ys) = let e : (pos 0 +ℤ x) +ℤ (pos 0 +ℤ y) ≡ pos 0 +ℤ (x +ℤ y) = omega (arith, ints) in ap (λ z. z ∷ added xs ys) e

pub near-place_totals : (mss nss : List (List ℤ)) → EachAreSmall mss → EachAreSmall nss → length mss + length nss ≤ 2 ^ 63
    → near_added (place_totals mss) (place_totals nss) ≡ place_totals (mss ++ nss)
near-place_totals mss nss s t h =
    let xs = places_of mss in let ys = places_of nss in
    ap (near_added (place_totals mss)) (place_totals_is nss)
    ∙ ap (λ (zs : List ℤ). near_added zs (added (pos 0 ∷ []) ys)) (place_totals_is mss)
    ∙ near_added-exact (length mss * 2 ^ 63) (length nss * 2 ^ 63) (added (pos 0 ∷ []) xs) (added (pos 0 ∷ []) ys) (from_zero_within (length mss * 2 ^ 63) xs (places_within mss s)) (from_zero_within (length nss * 2 ^ 63) ys (places_within nss t)) (omega arith)
    ∙ zero_twice xs ys ∙ ap (added (pos 0 ∷ [])) (sym (places_of-append mss nss)) ∙ sym (place_totals_is (mss ++ nss))

-- ---- a number as an array of one

abbrev pub each_alone : List ℤ → List (List ℤ)
each_alone [] = []
each_alone (n ∷ ns) = (n ∷ []) ∷ each_alone ns

alone_from : (m : ℤ) (ns : List ℤ) → fold added (m ∷ []) (each_alone ns) ≡ fold ◌+ℤ◌ m ns ∷ []
alone_from m [] = refl
alone_from m (n ∷ ns) = alone_from (m +ℤ n) ns

pub place_totals-each_alone : (ns : List ℤ) → place_totals (each_alone ns) ≡ total ns ∷ []
place_totals-each_alone ns = alone_from (pos 0) ns

pub alone_are_small : (ns : List ℤ) → AreSmall ns → EachAreSmall (each_alone ns)
alone_are_small [] s = tt
alone_are_small (n ∷ ns) s = ((s.0, tt), alone_are_small ns s.1)

pub length-each_alone : (ns : List ℤ) → length (each_alone ns) ≡ length ns
length-each_alone [] = refl
length-each_alone (n ∷ ns) = ap suc (length-each_alone ns)
