-- Elements that are written one after another.
use Rattle.std.specs.Prelude.{◌≡◌, ◌+◌, ◌<◌, ◌≤◌, ℕ, zero, suc, List, [], ◌∷◌, ◌++◌, map, length, take, refl}
use Rattle.std.proofs.Common.{ap, sym, ◌∙◌, arith, get_or, set, add-one}
use Rattle.std.proofs.Math.Seq.{take-suc}
use Rattle.row_exchange.specs.Replaced.{each_from, so_far}

module _ {X : Type 0} (f : ℕ → X → X) where
  pub next_so_far : (number : ℕ) (xs : List X) (i : ℕ) (d : X) → i < length xs → set (so_far f number xs i) i (f (number + i) (get_or (so_far f number xs i) i d)) ≡ so_far f number xs (suc i)
  next_so_far number [] i d less = absurd (omega arith)
  next_so_far number (x ∷ xs) zero d less = ap (λ (n : ℕ). f n x ∷ xs) (omega arith)
  next_so_far number (x ∷ xs) (suc i) d less =
      ap (λ (n : ℕ). f number x ∷ set (so_far f (suc number) xs i) i (f n (get_or (so_far f (suc number) xs i) i d))) (omega arith)
      ∙ ap (λ l. f number x ∷ l) (next_so_far (suc number) xs i d (omega (arith, less)))

  pub all_so_far : (number : ℕ) (xs : List X) (i : ℕ) → length xs ≤ i → so_far f number xs i ≡ each_from f number xs
  all_so_far number [] zero all = refl
  all_so_far number [] (suc i) all = refl
  all_so_far number (x ∷ xs) zero all = absurd (omega arith)
  all_so_far number (x ∷ xs) (suc i) all = ap (λ l. f number x ∷ l) (all_so_far (suc number) xs i (omega (arith, all)))

  pub length-so_far : (number : ℕ) (xs : List X) (i : ℕ) → length (so_far f number xs i) ≡ length xs
  length-so_far number [] zero = refl
  length-so_far number [] (suc i) = refl
  length-so_far number (x ∷ xs) zero = refl
  length-so_far number (x ∷ xs) (suc i) = ap suc (length-so_far (suc number) xs i)

pub each_from-map : {X : Type 0} (f : X → X) (number : ℕ) (xs : List X) → each_from (λ n. f) number xs ≡ map f xs
each_from-map f number [] = refl
each_from-map f number (x ∷ xs) = ap (λ l. f x ∷ l) (each_from-map f (suc number) xs)

-- one element more is taken
pub take_next : {X : Type 0} (xs : List X) (i : ℕ) (x : X) → i < length xs → x ≡ get_or xs i x → take (i + 1) xs ≡ take i xs ++ x ∷ []
take_next xs i x less is = ap (λ (n : ℕ). take n xs) (add-one i) ∙ take-suc xs i x less ∙ ap (λ y. take i xs ++ y ∷ []) (sym is)
