-- What holds of the design document's line and of each document's holds of all lines.
use Rattle.std.proofs.Common.{◌≡◌, ◌+◌, ◌%◌, ◌==◌, ◌≤◌, ◌<◌, ℕ, zero, suc, List, ◌∷◌, map, Bool, true, false, cond, refl, arith}
use Rattle.std.specs.List.{AllByRecursion, filter, range_with_len}
use Rattle.std.proofs.lemmas.Bool.Decides.{nat_tests}
use Rattle.load_lines.specs.Documents.{load_design, document, raised}
use Rattle.load_lines.specs.Lines.{put_line, first_lines, numbers_to, second_lines}

module _ {A : Type 0} (P : A → Type 0) (f : ℕ → A) where
  each_of : (a n : ℕ) → ((k : ℕ) → a ≤ k → k < a + n → P (f k)) → AllByRecursion P (map f (range_with_len a n))
  each_of a zero holds = tt
  each_of a (suc n) holds = (holds a (omega arith) (omega arith), each_of (a + 1) n (λ k low high. holds k (omega arith) (omega arith)))

  passing : (b : Bool) (k : ℕ) (ks : List ℕ) → (b ≡ true → P (f k)) → AllByRecursion P (map f ks) → AllByRecursion P (map f (cond b (k ∷ ks) ks))
  passing true k ks here others = (here refl, others)
  passing false k ks here others = others

  each_passing : (p : ℕ → Bool) (a n : ℕ) → ((k : ℕ) → a ≤ k → k < a + n → p k ≡ true → P (f k)) → AllByRecursion P (map f (filter p (range_with_len a n)))
  each_passing p a zero holds = tt
  each_passing p a (suc n) holds =
      passing (p a) a (filter p (range_with_len (a + 1) n)) (holds a (omega arith) (omega arith))
      (each_passing p (a + 1) n (λ k low high. holds k (omega arith) (omega arith)))

third : (k : ℕ) → (k % 3 == 0) ≡ true → k % 3 ≡ 0
third k is = grind (arith, nat_tests)

-- of the documents' lines
pub each_document : (P : List ℕ → Type 0) (docs seed : ℕ) → ((k : ℕ) → 1 ≤ k → k ≤ docs → P (put_line (document seed k))) → AllByRecursion P (map (λ k. put_line (document seed k)) (numbers_to docs))
each_document P docs seed each = each_of P (λ k. put_line (document seed k)) 1 docs (λ k low high. each k low (omega arith))

-- of the first lines
pub each_first : (P : List ℕ → Type 0) (docs seed : ℕ) → P (put_line load_design) → ((k : ℕ) → 1 ≤ k → k ≤ docs → P (put_line (document seed k))) → AllByRecursion P (first_lines docs seed)
unfolding first_lines
each_first P docs seed design each = (design, each_of P (λ k. put_line (document seed k)) 1 docs (λ k low high. each k low (omega arith)))

-- of the second lines, where the number of each document is a multiple of three
pub each_second : (P : List ℕ → Type 0) (docs seed : ℕ) → ((k : ℕ) → 1 ≤ k → k ≤ docs → k % 3 ≡ 0 → P (put_line (raised seed k))) → AllByRecursion P (second_lines docs seed)
unfolding second_lines
each_second P docs seed each = each_passing P (λ k. put_line (raised seed k)) (λ k. k % 3 == 0) 1 docs (λ k low high is. each k low (omega arith) (third k is))
