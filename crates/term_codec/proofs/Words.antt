-- Counts and numbers: what is spelled is read, and what is read was spelled.
use Rattle.std.proofs.Common.{◌≡◌, ◌^◌, ◌<◌, ◌&&◌, ℕ, ℤ, List, ◌++◌, length, take, drop, Bool, true, false, cond, nat_lt, Option, Some, None, bytes_eq, refl, ap, sym, ◌∙◌, subst, FitsSigned, arith, length-append}
use Rattle.std.specs.Int.{cast_signed, cast_unsigned, from_le_bytes, to_le_bytes, w32, w64}
use Rattle.std.proofs.lemmas.Bool.{cond-true, and_from, and_parts, lt-ltb, ltb-true}
use Rattle.std.proofs.lemmas.Option.{cond_some}
use Rattle.std.proofs.lemmas.Slice.Eq.{bytes_eq-Decides}
use Rattle.std.proofs.lemmas.List.{take-append-drop}
use Rattle.std.proofs.lemmas.Nat.{from_le_bytes-to_le_bytes_4, from_le_bytes-to_le_bytes_8}
use Rattle.std.proofs.lemmas.Int.{of_z-to_z, to_z-of_z}
use Rattle.std.proofs.Math.Facts.{Fits-of_z, Fits-of_lt, sfits_to_z}
use Rattle.json_terms.specs.Json.{Json, number}
use Rattle.term_codec.specs.Spelling.{count_bytes, number_bytes}
use Rattle.term_codec.specs.Reading.{count_if, count_in, number_if, number_in}

pub cond_none : {A : Type 0} (b : Bool) (x : Option A) → (b ≡ true → ⊥) → cond b x None ≡ None
cond_none true x h = absurd (h refl)
cond_none false x h = refl

pub some-pair : {A B : Type 0} (p q : A × B) → Some p ≡ Some q → (p.0 ≡ q.0) × (p.1 ≡ q.1)
some-pair p q both = let same : p ≡ q = cc in (ap (λ r. r.0) same, ap (λ r. r.1) same)

pub bytes_eq-same : (xs : List ℕ) → bytes_eq xs xs ≡ true
bytes_eq-same xs = (bytes_eq-Decides xs xs).1 refl

pub length-count_bytes : (n : ℕ) → length (count_bytes n) ≡ 4
unfolding count_bytes
length-count_bytes n = refl

pub length-number_bytes : (n : ℤ) → length (number_bytes n) ≡ 8
unfolding number_bytes
length-number_bytes n = refl

count_if-spelled : (n : ℕ) (rest : List ℕ) → n < 2 ^ 32 → take 4 (count_bytes n ++ rest) ≡ count_bytes n → drop 4 (count_bytes n ++ rest) ≡ rest → count_if n (count_bytes n ++ rest) ≡ Some (n, rest)
count_if-spelled n rest small front behind =
    let same : bytes_eq (count_bytes n) (take 4 (count_bytes n ++ rest)) ≡ true = (bytes_eq-Decides (count_bytes n) (take 4 (count_bytes n ++ rest))).1 (sym front) in
    cond-true _ (Some (n, drop 4 (count_bytes n ++ rest))) None (and_from _ _ (lt-ltb n (2 ^ 32) small) same) ∙ ap (λ r. Some (n, r)) behind

pub count_in-spelled : (n : ℕ) (rest : List ℕ) → n < 2 ^ 32 → count_in (count_bytes n ++ rest) ≡ Some (n, rest)
unfolding count_in count_bytes
count_in-spelled n rest small =
    let number : from_le_bytes w32 (to_le_bytes w32 n ++ rest) ≡ n = from_le_bytes-to_le_bytes_4 n small in
    ap (λ m. count_if m (count_bytes n ++ rest)) number ∙ count_if-spelled n rest small refl refl

pub count_in-read : (bytes : List ℕ) (n : ℕ) (rest : List ℕ) → count_in bytes ≡ Some (n, rest) → (n < 2 ^ 32) × (bytes ≡ count_bytes n ++ rest)
unfolding count_in
count_in-read bytes n rest h =
    let m : ℕ = from_le_bytes w32 bytes in
    let found = cond_some (nat_lt m (2 ^ 32) && bytes_eq (count_bytes m) (take 4 bytes)) (m, drop 4 bytes) (n, rest) h in
    let tests = and_parts _ _ found.0 in
    let is : m ≡ n = ap (λ r. r.0) found.1 in
    let behind : drop 4 bytes ≡ rest = ap (λ r. r.1) found.1 in
    let front : count_bytes m ≡ take 4 bytes = (bytes_eq-Decides (count_bytes m) (take 4 bytes)).0 tests.1 in
    let whole = take-append-drop 4 bytes in
    let less = ltb-true m (2 ^ 32) tests.0 in
    (subst (λ k. k < 2 ^ 32) is less, sym whole ∙ ap (λ f. f ++ drop 4 bytes) (sym front ∙ ap count_bytes is) ∙ ap (λ r. count_bytes n ++ r) behind)

pub count_in-none : (bytes : List ℕ) → length bytes < 4 → count_in bytes ≡ None
unfolding count_in
count_in-none bytes short =
    let m : ℕ = from_le_bytes w32 bytes in
    cond_none (nat_lt m (2 ^ 32) && bytes_eq (count_bytes m) (take 4 bytes)) (Some (m, drop 4 bytes)) (λ h.
    let same : count_bytes m ≡ take 4 bytes = (bytes_eq-Decides (count_bytes m) (take 4 bytes)).0 ((and_parts _ _ h).1) in
    let long : length (count_bytes m) ≡ length (take 4 bytes) = ap length same in
    let whole : length (take 4 bytes ++ drop 4 bytes) ≡ length bytes = ap length (take-append-drop 4 bytes) in
    let parts = length-append (take 4 bytes) (drop 4 bytes) in
    let four = length-count_bytes m in
    omega arith)

number_if-spelled : (n : ℕ) (rest : List ℕ) → n < 2 ^ 64 → take 8 (to_le_bytes w64 n ++ rest) ≡ to_le_bytes w64 n → drop 8 (to_le_bytes w64 n ++ rest) ≡ rest
    → number_if n (to_le_bytes w64 n ++ rest) ≡ Some (number (cast_signed w64 n), rest)
number_if-spelled n rest small front behind =
    let same : bytes_eq (to_le_bytes w64 n) (take 8 (to_le_bytes w64 n ++ rest)) ≡ true = (bytes_eq-Decides (to_le_bytes w64 n) (take 8 (to_le_bytes w64 n ++ rest))).1 (sym front) in
    cond-true _ (Some (number (cast_signed w64 n), drop 8 (to_le_bytes w64 n ++ rest))) None (and_from _ _ (lt-ltb n (2 ^ 64) small) same)
    ∙ ap (λ r. Some (number (cast_signed w64 n), r)) behind

number_in-bits : (n : ℕ) (rest : List ℕ) → n < 2 ^ 64 → number_in (to_le_bytes w64 n ++ rest) ≡ Some (number (cast_signed w64 n), rest)
unfolding number_in
number_in-bits n rest small =
    let is : from_le_bytes w64 (to_le_bytes w64 n ++ rest) ≡ n = from_le_bytes-to_le_bytes_8 n small in
    ap (λ m. number_if m (to_le_bytes w64 n ++ rest)) is ∙ number_if-spelled n rest small refl refl

pub number_in-spelled : (z : ℤ) (rest : List ℕ) → FitsSigned w64 z → number_in (number_bytes z ++ rest) ≡ Some (number z, rest)
unfolding number_bytes
number_in-spelled z rest fits = number_in-bits (cast_unsigned w64 z) rest (Fits-of_z fits).fits ∙ ap (λ y. Some (number y, rest)) (to_z-of_z w64 z fits)

pub number_in-read : (bytes : List ℕ) (t : Json) (rest : List ℕ) → number_in bytes ≡ Some (t, rest) → (z : ℤ) × (t ≡ number z) × FitsSigned w64 z × (bytes ≡ number_bytes z ++ rest)
unfolding number_in number_bytes
number_in-read bytes t rest h =
    let m : ℕ = from_le_bytes w64 bytes in
    let found = cond_some (nat_lt m (2 ^ 64) && bytes_eq (to_le_bytes w64 m) (take 8 bytes)) (number (cast_signed w64 m), drop 8 bytes) (t, rest) h in
    let tests = and_parts _ _ found.0 in
    let is : number (cast_signed w64 m) ≡ t = ap (λ r. r.0) found.1 in
    let behind : drop 8 bytes ≡ rest = ap (λ r. r.1) found.1 in
    let front : to_le_bytes w64 m ≡ take 8 bytes = (bytes_eq-Decides (to_le_bytes w64 m) (take 8 bytes)).0 tests.1 in
    let whole = take-append-drop 8 bytes in
    let less = ltb-true m (2 ^ 64) tests.0 in
    (cast_signed w64 m, sym is, sfits_to_z (Fits-of_lt less), sym whole ∙ ap (λ f. f ++ drop 8 bytes) (sym front) ∙ ap (λ k. to_le_bytes w64 k ++ drop 8 bytes) (sym (of_z-to_z w64 m less)) ∙ ap (λ r. to_le_bytes w64 (cast_unsigned w64 (cast_signed w64 m)) ++ r) behind)

pub number_in-none : (bytes : List ℕ) → length bytes < 8 → number_in bytes ≡ None
unfolding number_in
number_in-none bytes short =
    let m : ℕ = from_le_bytes w64 bytes in
    cond_none (nat_lt m (2 ^ 64) && bytes_eq (to_le_bytes w64 m) (take 8 bytes)) (Some (number (cast_signed w64 m), drop 8 bytes)) (λ h.
    let same : to_le_bytes w64 m ≡ take 8 bytes = (bytes_eq-Decides (to_le_bytes w64 m) (take 8 bytes)).0 ((and_parts _ _ h).1) in
    let long : 8 ≡ length (take 8 bytes) = ap length same in
    let whole : length (take 8 bytes ++ drop 8 bytes) ≡ length bytes = ap length (take-append-drop 8 bytes) in
    let parts = length-append (take 8 bytes) (drop 8 bytes) in
    omega arith)
