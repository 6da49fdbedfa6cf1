-- Numbers of 8 and of 2 bytes: what is spelled is read, and what is read was spelled.
use Rattle.std.proofs.Common.{◌≡◌, ◌^◌, ◌<◌, ◌&&◌, ℕ, List, ◌++◌, length, take, drop, true, nat_lt, Some, None, bytes_eq, refl, ap, sym, ◌∙◌, subst, arith, length-append}
use Rattle.std.specs.Int.{from_le_bytes, to_le_bytes, w16, w64}
use Rattle.std.proofs.lemmas.Bool.{cond-true, and_from, and_parts, lt-ltb, ltb-true}
use Rattle.std.proofs.lemmas.Option.{cond_some}
use Rattle.std.proofs.lemmas.Slice.Eq.{bytes_eq-Decides}
use Rattle.std.proofs.lemmas.List.{take-append-drop}
use Rattle.std.proofs.lemmas.Nat.{from_le_bytes-to_le_bytes_2, from_le_bytes-to_le_bytes_8}
use Rattle.term_codec.specs.Spelling.{whole_bytes, short_bytes}
use Rattle.term_codec.specs.Reading.{whole_if, whole_in, short_if, short_in}
use Rattle.term_codec.proofs.Words.{cond_none}

pub length-whole_bytes : (n : ℕ) → length (whole_bytes n) ≡ 8
unfolding whole_bytes
length-whole_bytes n = refl

whole_if-spelled : (n : ℕ) (rest : List ℕ) → n < 2 ^ 64 → take 8 (whole_bytes n ++ rest) ≡ whole_bytes n → drop 8 (whole_bytes n ++ rest) ≡ rest → whole_if n (whole_bytes n ++ rest) ≡ Some (n, rest)
whole_if-spelled n rest small front behind =
    let same : bytes_eq (whole_bytes n) (take 8 (whole_bytes n ++ rest)) ≡ true = (bytes_eq-Decides (whole_bytes n) (take 8 (whole_bytes n ++ rest))).1 (sym front) in
    cond-true _ (Some (n, drop 8 (whole_bytes n ++ rest))) None (and_from _ _ (lt-ltb n (2 ^ 64) small) same) ∙ ap (λ r. Some (n, r)) behind

pub whole_in-spelled : (n : ℕ) (rest : List ℕ) → n < 2 ^ 64 → whole_in (whole_bytes n ++ rest) ≡ Some (n, rest)
unfolding whole_in whole_bytes
whole_in-spelled n rest small =
    let number : from_le_bytes w64 (to_le_bytes w64 n ++ rest) ≡ n = from_le_bytes-to_le_bytes_8 n small in
    ap (λ m. whole_if m (whole_bytes n ++ rest)) number ∙ whole_if-spelled n rest small refl refl

pub whole_in-read : (bytes : List ℕ) (n : ℕ) (rest : List ℕ) → whole_in bytes ≡ Some (n, rest) → (n < 2 ^ 64) × (bytes ≡ whole_bytes n ++ rest)
unfolding whole_in
whole_in-read bytes n rest h =
    let m : ℕ = from_le_bytes w64 bytes in
    let found = cond_some (nat_lt m (2 ^ 64) && bytes_eq (whole_bytes m) (take 8 bytes)) (m, drop 8 bytes) (n, rest) h in
    let tests = and_parts _ _ found.0 in
    let is : m ≡ n = ap (λ r. r.0) found.1 in
    let behind : drop 8 bytes ≡ rest = ap (λ r. r.1) found.1 in
    let front : whole_bytes m ≡ take 8 bytes = (bytes_eq-Decides (whole_bytes m) (take 8 bytes)).0 tests.1 in
    let less = ltb-true m (2 ^ 64) tests.0 in
    (subst (λ k. k < 2 ^ 64) is less, sym (take-append-drop 8 bytes) ∙ ap (λ f. f ++ drop 8 bytes) (sym front ∙ ap whole_bytes is) ∙ ap (λ r. whole_bytes n ++ r) behind)

pub whole_in-none : (bytes : List ℕ) → length bytes < 8 → whole_in bytes ≡ None
unfolding whole_in
whole_in-none bytes short =
    let m : ℕ = from_le_bytes w64 bytes in
    cond_none (nat_lt m (2 ^ 64) && bytes_eq (whole_bytes m) (take 8 bytes)) (Some (m, drop 8 bytes)) (λ h.
    let same : whole_bytes m ≡ take 8 bytes = (bytes_eq-Decides (whole_bytes m) (take 8 bytes)).0 ((and_parts (nat_lt m (2 ^ 64)) (bytes_eq (whole_bytes m) (take 8 bytes)) h).1) in
    let long : length (whole_bytes m) ≡ length (take 8 bytes) = ap length same in
    let whole : length (take 8 bytes ++ drop 8 bytes) ≡ length bytes = ap length (take-append-drop 8 bytes) in
    let parts = length-append (take 8 bytes) (drop 8 bytes) in
    let eight = length-whole_bytes m in
    omega arith)

pub length-short_bytes : (n : ℕ) → length (short_bytes n) ≡ 2
unfolding short_bytes
length-short_bytes n = refl

short_if-spelled : (n : ℕ) (rest : List ℕ) → n < 2 ^ 16 → take 2 (short_bytes n ++ rest) ≡ short_bytes n → drop 2 (short_bytes n ++ rest) ≡ rest → short_if n (short_bytes n ++ rest) ≡ Some (n, rest)
short_if-spelled n rest small front behind =
    let same : bytes_eq (short_bytes n) (take 2 (short_bytes n ++ rest)) ≡ true = (bytes_eq-Decides (short_bytes n) (take 2 (short_bytes n ++ rest))).1 (sym front) in
    cond-true _ (Some (n, drop 2 (short_bytes n ++ rest))) None (and_from _ _ (lt-ltb n (2 ^ 16) small) same) ∙ ap (λ r. Some (n, r)) behind

pub short_in-spelled : (n : ℕ) (rest : List ℕ) → n < 2 ^ 16 → short_in (short_bytes n ++ rest) ≡ Some (n, rest)
unfolding short_in short_bytes
short_in-spelled n rest small =
    let number : from_le_bytes w16 (to_le_bytes w16 n ++ rest) ≡ n = from_le_bytes-to_le_bytes_2 n small in
    ap (λ m. short_if m (short_bytes n ++ rest)) number ∙ short_if-spelled n rest small refl refl

pub short_in-read : (bytes : List ℕ) (n : ℕ) (rest : List ℕ) → short_in bytes ≡ Some (n, rest) → (n < 2 ^ 16) × (bytes ≡ short_bytes n ++ rest)
unfolding short_in
short_in-read bytes n rest h =
    let m : ℕ = from_le_bytes w16 bytes in
    let found = cond_some (nat_lt m (2 ^ 16) && bytes_eq (short_bytes m) (take 2 bytes)) (m, drop 2 bytes) (n, rest) h in
    let tests = and_parts _ _ found.0 in
    let is : m ≡ n = ap (λ r. r.0) found.1 in
    let behind : drop 2 bytes ≡ rest = ap (λ r. r.1) found.1 in
    let front : short_bytes m ≡ take 2 bytes = (bytes_eq-Decides (short_bytes m) (take 2 bytes)).0 tests.1 in
    let less = ltb-true m (2 ^ 16) tests.0 in
    (subst (λ k. k < 2 ^ 16) is less, sym (take-append-drop 2 bytes) ∙ ap (λ f. f ++ drop 2 bytes) (sym front ∙ ap short_bytes is) ∙ ap (λ r. short_bytes n ++ r) behind)

pub short_in-none : (bytes : List ℕ) → length bytes < 2 → short_in bytes ≡ None
unfolding short_in
short_in-none bytes short =
    let m : ℕ = from_le_bytes w16 bytes in
    cond_none (nat_lt m (2 ^ 16) && bytes_eq (short_bytes m) (take 2 bytes)) (Some (m, drop 2 bytes)) (λ h.
    let same : short_bytes m ≡ take 2 bytes = (bytes_eq-Decides (short_bytes m) (take 2 bytes)).0 ((and_parts (nat_lt m (2 ^ 16)) (bytes_eq (short_bytes m) (take 2 bytes)) h).1) in
    let long : length (short_bytes m) ≡ length (take 2 bytes) = ap length same in
    let whole : length (take 2 bytes ++ drop 2 bytes) ≡ length bytes = ap length (take-append-drop 2 bytes) in
    let parts = length-append (take 2 bytes) (drop 2 bytes) in
    let two = length-short_bytes m in
    omega arith)
