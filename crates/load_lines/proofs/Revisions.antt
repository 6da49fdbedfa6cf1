-- The revisions of first writes: their form, and that they are short UTF-8.
use Rattle.std.proofs.Common.{◌≡◌, ◌/◌, ◌%◌, ◌<◌, ◌≤◌, ◌&&◌, ◌||◌, nat_le, nat_lt, ℕ, zero, suc, inl, inr, List, [], ◌∷◌, ◌++◌, length, codes, decimal, Bool, true, IsUtf8, refl, sym, subst, arith, append_assoc, length-append}
use Rattle.std.specs.Prelude.{EachIndex, slice_index}
use Rattle.std.specs.Int.{byte_at, bytes_high_first, w128, to_be_bytes}
use Rattle.std.specs.List.{AllByRecursion}
use Rattle.std.specs.Str.{IsAscii}
use Rattle.std.proofs.lemmas.Bool.{and_parts, cases_eq, ltb-true}
use Rattle.std.proofs.lemmas.Bool.Decides.{nat_tests}
use Rattle.std.proofs.lemmas.Str.{IsUtf8-append, IsUtf8-from_ascii}
use Rattle.std.proofs.lemmas.Str.Ascii.{IsAscii-nil, IsAscii-cons}
use Rattle.std.proofs.lemmas.Fmt.{IsAscii-decimal, length-decimal-le}
use Rattle.hex.specs.Hex.{encode_lower, encode_with, lower_digits}
use Rattle.hex.proofs.HexLemmas.{length-encode_with, IsAscii-encode_with}
use Rattle.view_ports.specs.Stored.{IsHexDigit, IsRevision}
use Rattle.design_docs.specs.Revision.{revision}

abbrev pub are_ascii : List ℕ → Bool
are_ascii [] = true
are_ascii (x ∷ xs) = nat_lt x 128 && are_ascii xs

pub IsAscii-of : (xs : List ℕ) → are_ascii xs ≡ true → IsAscii xs
IsAscii-of [] e = IsAscii-nil
IsAscii-of (x ∷ xs) e = let p = and_parts _ _ e in IsAscii-cons x xs (ltb-true x 128 p.0) (IsAscii-of xs p.1)

pub IsUtf8-of : (bytes : List ℕ) → are_ascii bytes ≡ true → IsUtf8 bytes
IsUtf8-of bytes is = IsUtf8-from_ascii bytes (IsAscii-of bytes is)

pub IsUtf8-revision : (seq : ℕ) → IsUtf8 (revision 1 seq)
unfolding revision
IsUtf8-revision seq =
    let digits = IsUtf8-from_ascii (encode_lower (to_be_bytes w128 seq)) (IsAscii-encode_with lower_digits (to_be_bytes w128 seq) (IsAscii-of lower_digits refl)) in
    let front = IsUtf8-from_ascii (decimal 1) (IsAscii-decimal 1 (omega arith)) in
    IsUtf8-append (decimal 1 ++ codes "-") (encode_lower (to_be_bytes w128 seq)) (IsUtf8-append (decimal 1) (codes "-") front (IsUtf8-of (codes "-") refl)) digits

length-digits : (seq : ℕ) → length (encode_lower (to_be_bytes w128 seq)) ≡ 32
length-digits seq = let sixteen : length (to_be_bytes w128 seq) ≡ 16 = refl in omega (arith, sixteen, length-encode_with lower_digits (to_be_bytes w128 seq))

pub length-revision : (seq : ℕ) → length (revision 1 seq) ≤ 34
unfolding revision
length-revision seq =
    let front = length-decimal-le 1 1 (omega arith) (omega arith) (omega arith) in
    let behind = length-digits seq in
    let dashed = length-append (decimal 1) (codes "-") in
    let whole = length-append (decimal 1 ++ codes "-") (encode_lower (to_be_bytes w128 seq)) in
    omega arith

-- ---- the form

abbrev is_hex : ℕ → Bool
is_hex c = (nat_le 48 c && nat_le c 57) || (nat_le 97 c && nat_le c 102)

hex_of : (c : ℕ) → is_hex c ≡ true → IsHexDigit c
hex_of c is = grind (arith, nat_tests)

abbrev are_hex_below : ℕ → Bool
are_hex_below zero = true
are_hex_below (suc n) = is_hex (slice_index lower_digits n) && are_hex_below n

hex_below : (n : ℕ) → are_hex_below n ≡ true → (k : ℕ) → k < n → IsHexDigit (slice_index lower_digits k)
hex_below zero e k h = absurd (omega arith)
hex_below (suc n) e k h =
    let p = and_parts (is_hex (slice_index lower_digits n)) (are_hex_below n) e in
    elim (cases_eq k n) [
      | inl same ↦ subst (λ m. IsHexDigit (slice_index lower_digits m)) (sym same) (hex_of (slice_index lower_digits n) p.0)
      | inr other ↦ hex_below n p.1 k (omega arith)
    ]

abbrev IsByte : ℕ → Type 0
IsByte b = b < 256

IsByte-byte_at : (i n : ℕ) → IsByte (byte_at i n)
IsByte-byte_at zero n = omega arith
IsByte-byte_at (suc i) n = omega arith

are_bytes : (k n : ℕ) → AllByRecursion IsByte (bytes_high_first k n)
are_bytes zero n = tt
are_bytes (suc k) n = (IsByte-byte_at k n, are_bytes k n)

are_digits : (xs : List ℕ) → AllByRecursion IsByte xs → AllByRecursion IsHexDigit (encode_lower xs)
unfolding encode_with
are_digits [] all = tt
are_digits (x ∷ xs) all = (hex_below 16 refl (x / 16) (omega (arith, all.0)), (hex_below 16 refl (x % 16) (omega arith), are_digits xs all.1))

each_at : (P : ℕ → Type 0) (xs : List ℕ) → AllByRecursion P xs → EachIndex xs (λ k. P (slice_index xs k))
each_at P [] all k below = absurd (omega arith)
each_at P (x ∷ xs) all zero below = all.0
each_at P (x ∷ xs) all (suc k) below = each_at P xs all.1 k (omega arith)

pub IsRevision-revision : (seq : ℕ) → IsRevision (revision 1 seq)
unfolding revision
IsRevision-revision seq =
    let digits = encode_lower (to_be_bytes w128 seq) in (
      decimal 1,
      codes "-" ++ digits,
      (1, omega arith, omega arith, refl),
      (digits, length-digits seq, each_at IsHexDigit digits (are_digits (to_be_bytes w128 seq) (are_bytes 16 seq)), refl),
      append_assoc (decimal 1) (codes "-") digits,
    )
