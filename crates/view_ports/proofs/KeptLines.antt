-- What is kept of a line.
use Rattle.std.specs.Prelude.{◌≡◌, ◌≢◌, ◌<◌, ◌≤◌, ◌+◌, ◌-◌, ◌⊎◌, ℕ, min, zero, suc, List, [], ◌∷◌, ◌++◌, length, take}
use Rattle.std.proofs.Common.{refl, sym, ap, ◌∙◌, arith, inl, inr, length-take}
use Rattle.std.proofs.lemmas.Bool.{cases_lt}
use Rattle.std.proofs.lemmas.List.{take_all}
use Rattle.view_ports.specs.Lines.{kept}

take-front : (n : ℕ) (xs ys : List ℕ) → take n (take n xs ++ ys) ≡ take n (xs ++ ys)
take-front zero xs ys = refl
take-front (suc n) [] ys = refl
take-front (suc n) (x ∷ xs) ys = ap (λ l. x ∷ l) (take-front n xs ys)

take-nil : (n : ℕ) → take {A = ℕ} n [] ≡ []
take-nil zero = refl
take-nil (suc n) = refl

take-fit : (n : ℕ) (xs ys : List ℕ) → length xs ≤ n → take n (xs ++ ys) ≡ xs ++ take (n - length xs) ys
take-fit n [] ys fits = let same : n ≡ n - 0 = omega arith in ap (λ (m : ℕ). take m ys) same
take-fit zero (x ∷ xs) ys fits = absurd (omega arith)
take-fit (suc n) (x ∷ xs) ys fits =
    let same : n - length xs ≡ suc n - suc (length xs) = omega arith in
    ap (λ (l : List ℕ). x ∷ l) (take-fit n xs ys (omega arith) ∙ ap (λ (m : ℕ). xs ++ take m ys) same)

take-most : (count room : ℕ) (xs : List ℕ) → count ≡ min (length xs) room → take count xs ≡ take room xs
take-most count room xs is =
    elim (cases_lt room (length xs)) [
      | inl more ↦ let same : count ≡ room = omega arith in ap (λ (m : ℕ). take m xs) same
      | inr all ↦ take_all count xs (omega arith) ∙ sym (take_all room xs all)
    ]

take-none : (n : ℕ) (xs : List ℕ) → 0 < n → take n xs ≡ [] → xs ≡ []
take-none zero xs some none = absurd (omega arith)
take-none (suc n) [] some none = refl
take-none (suc n) (x ∷ xs) some none = absurd cc

-- a line is filled up with as much as there is room for
pub take-filled : (most : ℕ) (line more : List ℕ) (count : ℕ) → length line ≤ most → count ≡ min (length more) (most - length line) → line ++ take count more ≡ take most (line ++ more)
take-filled most line more count within is =
    ap (λ (l : List ℕ). line ++ l) (take-most count (most - length line) more is) ∙ sym (take-fit most line more within)

module _ (limit : ℕ) where
  pub kept-is : (most : ℕ) (line : List ℕ) → most ≡ limit + 1 → take most line ≡ kept limit line
  unfolding kept
  kept-is most line is = ap (λ n. take n line) is

  -- of what comes next, as much is kept as if the whole line had been
  pub kept-more : (rest more : List ℕ) → kept limit (kept limit rest ++ more) ≡ kept limit (rest ++ more)
  unfolding kept
  kept-more rest more = take-front (limit + 1) rest more

  pub kept-nil : kept limit [] ≡ []
  unfolding kept
  kept-nil = take-nil (limit + 1)

  -- something is kept of any line that isn't empty
  pub kept-none : (rest : List ℕ) → kept limit rest ≡ [] → rest ≡ []
  unfolding kept
  kept-none rest none = take-none (limit + 1) rest (omega arith) none

  -- something stands before the end of a line of which something is kept
  pub kept-some : (rest line : List ℕ) → line ≡ kept limit rest → length line ≢ 0 → rest ≢ []
  kept-some rest line is some none = some (ap length (is ∙ ap (kept limit) none ∙ kept-nil))

  -- a line is longer than the limit, and so is what is kept of it, or it is kept whole
  pub kept-cases : (line : List ℕ) → ((limit < length line) × (limit < length (kept limit line))) ⊎ (kept limit line ≡ line)
  unfolding kept
  kept-cases line =
      elim (cases_lt limit (length line)) [
        | inl long ↦ inl (long, omega (arith, length-take (limit + 1) line, long))
        | inr short ↦ inr (take_all (limit + 1) line (omega arith))
      ]
