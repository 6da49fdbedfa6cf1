-- The lines of a load with one document more.
use Rattle.std.proofs.Common.{◌≡◌, ◌≢◌, ℕ, zero, suc, ◌+◌, ◌/◌, ◌%◌, ◌==◌, List, [], ◌∷◌, ◌++◌, map, Bool, true, false, cond, refl, sym, ap, ◌∙◌, subst, arith, add-one, append-nil}
use Rattle.std.specs.List.{filter, range_with_len}
use Rattle.std.proofs.lemmas.Bool.{ne_eqb}
use Rattle.std.proofs.lemmas.List.{map-append}
use Rattle.std.proofs.lemmas.List.Elements.{filter-append}
use Rattle.load_lines.specs.Numbers.{draw, next_number}
use Rattle.load_lines.specs.Documents.{load_design, document_of, raised_of, document, raised}
use Rattle.load_lines.specs.Lines.{put_line, first_lines, second_lines, numbers_to, thirds_to}

pub draw-first : (seed : ℕ) → draw seed 0 ≡ seed
unfolding draw
draw-first seed = refl

pub draw-more : (seed n : ℕ) → draw seed (suc n) ≡ next_number (draw seed n)
unfolding draw
draw-more seed n = refl

-- ---- the numbers of documents

range-more : (a n : ℕ) → range_with_len a (suc n) ≡ range_with_len a n ++ (a + n) ∷ []
range-more a zero = let e : a ≡ a + 0 = omega arith in ap (λ x. x ∷ []) e
range-more a (suc n) =
    let e : (a + 1) + n ≡ a + suc n = omega arith in
    ap (λ xs. a ∷ xs) (range-more (a + 1) n ∙ ap (λ x. range_with_len (a + 1) n ++ x ∷ []) e)

numbers-more : (n : ℕ) → numbers_to (suc n) ≡ numbers_to n ++ suc n ∷ []
numbers-more n = let e : 1 + n ≡ suc n = omega arith in range-more 1 n ∙ ap (λ x. numbers_to n ++ x ∷ []) e

thirds-with : (n : ℕ) (b : Bool) → (suc n % 3 == 0) ≡ b → thirds_to (suc n) ≡ thirds_to n ++ cond b (suc n ∷ []) []
thirds-with n b is =
    ap (filter (λ k. k % 3 == 0)) (numbers-more n) ∙ filter-append (λ k. k % 3 == 0) (numbers_to n) (suc n ∷ []) ∙ ap (λ c. thirds_to n ++ cond c (suc n ∷ []) []) is

-- ---- the lines

pub first_lines-none : (seed : ℕ) → first_lines 0 seed ≡ put_line load_design ∷ []
unfolding first_lines
first_lines-none seed = refl

pub first_lines-more : (n seed : ℕ) → first_lines (suc n) seed ≡ first_lines n seed ++ put_line (document seed (suc n)) ∷ []
unfolding first_lines
first_lines-more n seed =
    let line : ℕ → List ℕ = λ k. put_line (document seed k) in
    ap (λ ks. put_line load_design ∷ map line ks) (numbers-more n) ∙ ap (λ ls. put_line load_design ∷ ls) (map-append line (numbers_to n) (suc n ∷ []))

pub second_lines-none : (seed : ℕ) → second_lines 0 seed ≡ []
unfolding second_lines
second_lines-none seed = refl

-- a third document more
pub second_lines-more : (n seed : ℕ) → suc n % 3 ≡ 0 → second_lines (suc n) seed ≡ second_lines n seed ++ put_line (raised seed (suc n)) ∷ []
unfolding second_lines
second_lines-more n seed third =
    let line : ℕ → List ℕ = λ k. put_line (raised seed k) in
    ap (map line) (thirds-with n true (ap (λ r. r == 0) third)) ∙ map-append line (thirds_to n) (suc n ∷ [])

-- another document more
pub second_lines-same : (n seed : ℕ) → suc n % 3 ≢ 0 → second_lines (suc n) seed ≡ second_lines n seed
unfolding second_lines
second_lines-same n seed other =
    let line : ℕ → List ℕ = λ k. put_line (raised seed k) in
    ap (map line) (thirds-with n false (ne_eqb (suc n % 3) 0 other) ∙ append-nil (thirds_to n))

-- ---- the same of a loop's index

pub draw-step : (seed index last new : ℕ) → last ≡ draw seed index → new ≡ next_number last → new ≡ draw seed (index + 1)
draw-step seed index last new so_far moves =
    moves ∙ ap next_number so_far ∙ sym (draw-more seed index) ∙ ap (draw seed) (sym (add-one index))

pub document-is : (seed k v : ℕ) → v ≡ draw seed k / 65536 → document_of k v ≡ document seed k
unfolding document
document-is seed k v is = ap (document_of k) is

pub raised-is : (seed k v : ℕ) → v ≡ draw seed k / 65536 → raised_of k v ≡ raised seed k
unfolding raised
raised-is seed k v is = ap (raised_of k) is

pub first_lines-step : (index seed : ℕ) → first_lines (index + 1) seed ≡ first_lines index seed ++ put_line (document seed (index + 1)) ∷ []
first_lines-step index seed = subst (λ n. first_lines n seed ≡ first_lines index seed ++ put_line (document seed n) ∷ []) (sym (add-one index)) (first_lines-more index seed)

pub second_lines-step : (index seed : ℕ) → (index + 1) % 3 ≡ 0 → second_lines (index + 1) seed ≡ second_lines index seed ++ put_line (raised seed (index + 1)) ∷ []
second_lines-step index seed =
    subst (λ n. n % 3 ≡ 0 → second_lines n seed ≡ second_lines index seed ++ put_line (raised seed n) ∷ []) (sym (add-one index)) (second_lines-more index seed)

pub second_lines-stay : (index seed : ℕ) → (index + 1) % 3 ≢ 0 → second_lines (index + 1) seed ≡ second_lines index seed
second_lines-stay index seed = subst (λ n. n % 3 ≢ 0 → second_lines n seed ≡ second_lines index seed) (sym (add-one index)) (second_lines-same index seed)
