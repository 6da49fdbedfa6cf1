-- Sums as the code computes them.
use Rattle.std.specs.Prelude.{◌≡◌, ℕ, zero, suc, ◌+◌, ◌-◌, ◌^◌, ◌<◌, ◌≤◌, min, max, ℤ, pos, ◌+ℤ◌, List, [], ◌∷◌, ◌++◌, length, take, FitsSigned, refl}
use Rattle.std.proofs.Common.{ap, sym, ◌∙◌, arith, to_z, of_z, w64, get_or, set, add-one, length-take}
use Rattle.std.specs.Int.{int_min, int_max, w128}
use Rattle.std.proofs.lemmas.Int.{to_z-of_z}
use Rattle.builtin_reduces.specs.declared.sum.Stats.{Stats}
use Rattle.builtin_reduces.specs.Added.{near, near_added, both}

-- the fields of the two fit their types
pub record Fits (s : Stats) : Type 0 where
  pub total : FitsSigned w128 s.sum
  pub least : FitsSigned w64 s.min
  pub greatest : FitsSigned w64 s.max

pub same_stats : (a b : Stats) (total least greatest : ℤ) (count squares : ℕ) → Fits a → Fits b → FitsSigned w128 total → FitsSigned w64 least → FitsSigned w64 greatest
    → total ≡ near (to_z w128 (of_z w128 a.sum) +ℤ to_z w128 (of_z w128 b.sum)) → count ≡ min (a.count + b.count) (2 ^ 64 - 1)
    → least ≡ int_min (to_z w64 (of_z w64 a.min)) (to_z w64 (of_z w64 b.min)) → greatest ≡ int_max (to_z w64 (of_z w64 a.max)) (to_z w64 (of_z w64 b.max))
    → squares ≡ min (a.sumsqr + b.sumsqr) (2 ^ 128 - 1)
    → let s : Stats = record { sum = to_z w128 (of_z w128 total); count = count; min = to_z w64 (of_z w64 least); max = to_z w64 (of_z w64 greatest); sumsqr = squares } in s ≡ both a b
same_stats a b total least greatest count squares u v f g h total-is count-is least-is greatest-is squares-is =
    let sum-a = to_z-of_z w128 a.sum u.total in let sum-b = to_z-of_z w128 b.sum v.total in
    let min-a = to_z-of_z w64 a.min u.least in let min-b = to_z-of_z w64 b.min v.least in
    let max-a = to_z-of_z w64 a.max u.greatest in let max-b = to_z-of_z w64 b.max v.greatest in
    let p : to_z w128 (of_z w128 total) ≡ near (a.sum +ℤ b.sum) = to_z-of_z w128 total f ∙ total-is ∙ (λ i. near (sum-a i +ℤ sum-b i)) in
    let q : to_z w64 (of_z w64 least) ≡ int_min a.min b.min = to_z-of_z w64 least g ∙ least-is ∙ (λ i. int_min (min-a i) (min-b i)) in
    let r : to_z w64 (of_z w64 greatest) ≡ int_max a.max b.max = to_z-of_z w64 greatest h ∙ greatest-is ∙ (λ i. int_max (max-a i) (max-b i)) in
    λ i. record { sum = p i; count = count-is i; min = q i; max = r i; sumsqr = squares-is i }

-- ---- places

pub near_added-nil : (xs : List ℤ) → near_added xs [] ≡ xs
near_added-nil [] = refl
near_added-nil (x ∷ xs) = refl

pub length-near_added : (xs ys : List ℤ) → length (near_added xs ys) ≡ max (length xs) (length ys)
length-near_added [] ys = omega arith
length-near_added (x ∷ xs) [] = omega arith
length-near_added (x ∷ xs) (y ∷ ys) = omega (arith, length-near_added xs ys)

-- one more number, at a place that is there
pub near_added_set : (xs ys : List ℤ) (i : ℕ) (d e : ℤ) → i < length xs → i < length ys
    → set (near_added xs (take i ys)) i (near (get_or (near_added xs (take i ys)) i d +ℤ get_or ys i e)) ≡ near_added xs (take (suc i) ys)
near_added_set [] ys i d e l m = absurd (omega arith)
near_added_set (x ∷ xs) [] i d e l m = absurd (omega arith)
near_added_set (x ∷ xs) (y ∷ ys) zero d e l m = ap (λ zs. near (x +ℤ y) ∷ zs) (sym (near_added-nil xs))
near_added_set (x ∷ xs) (y ∷ ys) (suc i) d e l m = ap (λ zs. near (x +ℤ y) ∷ zs) (near_added_set xs ys i d e (omega arith) (omega arith))

-- and at a place behind those
pub near_added_push : (xs ys : List ℤ) (i : ℕ) (d : ℤ) → length xs ≤ i → i < length ys → near_added xs (take i ys) ++ get_or ys i d ∷ [] ≡ near_added xs (take (suc i) ys)
near_added_push [] [] i d l m = absurd (omega arith)
near_added_push [] (y ∷ ys) zero d l m = refl
near_added_push [] (y ∷ ys) (suc i) d l m = ap (λ zs. y ∷ zs) (near_added_push [] ys i d (omega arith) (omega arith))
near_added_push (x ∷ xs) ys zero d l m = absurd (omega arith)
near_added_push (x ∷ xs) [] (suc i) d l m = absurd (omega arith)
near_added_push (x ∷ xs) (y ∷ ys) (suc i) d l m = ap (λ zs. near (x +ℤ y) ∷ zs) (near_added_push xs ys i d (omega arith) (omega arith))

-- ---- a step of the loop

pub placed : (xs ys sums : List ℤ) (i : ℕ) (old sum : ℤ) → sums ≡ near_added xs (take i ys) → i < length sums → i < length ys → old ≡ get_or sums i old
    → FitsSigned w128 old → FitsSigned w128 (get_or ys i (pos 0)) → FitsSigned w128 sum → sum ≡ near (to_z w128 (of_z w128 old) +ℤ to_z w128 (of_z w128 (get_or ys i (pos 0))))
    → set sums i (to_z w128 (of_z w128 sum)) ≡ near_added xs (take (i + 1) ys)
placed xs ys sums i old sum before within below at f g h is =
    let e = length-near_added xs (take i ys) in let k = length-take i ys in let n = ap length before in
    let low : i < length xs = omega arith in
    let there : old ≡ get_or (near_added xs (take i ys)) i old = at ∙ ap (λ (zs : List ℤ). get_or zs i old) before in
    let one = to_z-of_z w128 old f ∙ there in
    let other = to_z-of_z w128 (get_or ys i (pos 0)) g in
    let whole : to_z w128 (of_z w128 sum) ≡ near (get_or (near_added xs (take i ys)) i old +ℤ get_or ys i (pos 0)) = to_z-of_z w128 sum h ∙ is ∙ (λ j. near (one j +ℤ other j)) in
    (λ j. set (before j) i (whole j)) ∙ near_added_set xs ys i old (pos 0) low below ∙ ap (λ n. near_added xs (take n ys)) (sym (add-one i))

pub pushed : (xs ys sums : List ℤ) (i : ℕ) → sums ≡ near_added xs (take i ys) → length sums ≤ i → i < length ys → FitsSigned w128 (get_or ys i (pos 0))
    → sums ++ to_z w128 (of_z w128 (get_or ys i (pos 0))) ∷ [] ≡ near_added xs (take (i + 1) ys)
pushed xs ys sums i before past below g =
    let e = length-near_added xs (take i ys) in let n = ap length before in
    let high : length xs ≤ i = omega arith in
    let number = to_z-of_z w128 (get_or ys i (pos 0)) g in
    (λ j. before j ++ number j ∷ []) ∙ near_added_push xs ys i (pos 0) high below ∙ ap (λ n. near_added xs (take n ys)) (sym (add-one i))
