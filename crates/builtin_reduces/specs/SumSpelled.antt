-- What is spelled of the value of a group is read, so that no two values have the same bytes.
use Rattle.std.proofs.Common.{◌≡◌, suc, ◌^◌, ◌<◌, ◌≤◌, ◌*◌, ◌/◌, ℕ, ℤ, pos, negsuc, List, [], ◌∷◌, ◌++◌, length, take, drop, Bool, true, cond, nat_lt, Option, Some, None, option_map, option_and_then, bytes_eq, refl, ap, sym, ◌∙◌, FitsSigned, w64, arith, length-append, append_assoc}
use Rattle.std.specs.Int.{cast_signed, cast_unsigned, from_le_bytes, to_le_bytes, w128}
use Rattle.std.specs.List.{AllByRecursion, flat_map}
use Rattle.std.proofs.lemmas.Bool.{cond-true, and_from, lt-ltb, le-leb}
use Rattle.std.proofs.lemmas.Slice.Eq.{bytes_eq-Decides}
use Rattle.std.proofs.lemmas.List.{append-nil}
use Rattle.std.proofs.lemmas.Int.{to_z-of_z}
use Rattle.std.proofs.Math.Facts.{Fits-of_z}
use Rattle.term_codec.specs.Spelling.{count_bytes}
use Rattle.term_codec.specs.Reading.{count_in}
use Rattle.term_codec.proofs.Words.{count_in-spelled}
use Rattle.tree_laws.specs.Spelled.{IsSpelledOnce}
use Rattle.builtin_reduces.specs.declared.sum.BuiltinSum.{BuiltinSum}
use Rattle.builtin_reduces.specs.declared.sum.BuiltinSum.TheVariants as value
use Rattle.builtin_reduces.specs.declared.sum.Stats.{Stats}
use Rattle.builtin_reduces.specs.SumBytes.{u128_bytes, i128_bytes, numbers_bytes, stats_bytes, sum_bytes, AreNumbers, AreStats, HasBytes}
use Rattle.builtin_reduces.specs.SumReading.{u128_if, u128_in, i128_in, is_i64, u64_in, i64_in, squares_in, is_place_count, numbers_from, numbers_of_count, numbers_in, stats_in, front_in, alone, sum_in}
use Rattle.builtin_reduces.specs.Wide.{from_le_bytes-to_le_bytes_16}

-- ---- numbers

pub length-u128_bytes : (n : ℕ) → length (u128_bytes n) ≡ 16
unfolding u128_bytes
length-u128_bytes n = refl

u128_if-spelled : (n : ℕ) (rest : List ℕ) → n < 2 ^ 128 → take 16 (u128_bytes n ++ rest) ≡ u128_bytes n → drop 16 (u128_bytes n ++ rest) ≡ rest → u128_if n (u128_bytes n ++ rest) ≡ Some (n, rest)
u128_if-spelled n rest small front behind =
    let same : bytes_eq (u128_bytes n) (take 16 (u128_bytes n ++ rest)) ≡ true = (bytes_eq-Decides (u128_bytes n) (take 16 (u128_bytes n ++ rest))).1 (sym front) in
    cond-true _ (Some (n, drop 16 (u128_bytes n ++ rest))) None (and_from _ _ (lt-ltb n (2 ^ 128) small) same) ∙ ap (λ r. Some (n, r)) behind

pub u128_in-spelled : (n : ℕ) (rest : List ℕ) → n < 2 ^ 128 → u128_in (u128_bytes n ++ rest) ≡ Some (n, rest)
unfolding u128_in u128_bytes
u128_in-spelled n rest small =
    let number : from_le_bytes w128 (to_le_bytes w128 n ++ rest) ≡ n = from_le_bytes-to_le_bytes_16 n small in
    ap (λ m. u128_if m (u128_bytes n ++ rest)) number ∙ u128_if-spelled n rest small refl refl

pub i128_is_u128 : (z : ℤ) → i128_bytes z ≡ u128_bytes (cast_unsigned w128 z)
unfolding i128_bytes u128_bytes
i128_is_u128 z = refl

pub length-i128_bytes : (z : ℤ) → length (i128_bytes z) ≡ 16
length-i128_bytes z = ap length (i128_is_u128 z) ∙ length-u128_bytes (cast_unsigned w128 z)

pub i128_in-u128 : (bytes : List ℕ) → i128_in bytes ≡ option_map (λ (r : ℕ × List ℕ). (cast_signed w128 r.0, r.1)) (u128_in bytes)
unfolding i128_in
i128_in-u128 bytes = refl

pub i128_in-spelled : (z : ℤ) (rest : List ℕ) → FitsSigned w128 z → i128_in (i128_bytes z ++ rest) ≡ Some (z, rest)
i128_in-spelled z rest fits =
    i128_in-u128 (i128_bytes z ++ rest) ∙ ap (λ bs. option_map (λ (r : ℕ × List ℕ). (cast_signed w128 r.0, r.1)) (u128_in (bs ++ rest))) (i128_is_u128 z)
    ∙ ap (option_map (λ (r : ℕ × List ℕ). (cast_signed w128 r.0, r.1))) (u128_in-spelled (cast_unsigned w128 z) rest (Fits-of_z fits).fits) ∙ ap (λ y. Some (y, rest)) (to_z-of_z w128 z fits)

fits-is_i64 : (z : ℤ) → FitsSigned w64 z → is_i64 z ≡ true
fits-is_i64 (pos n) fits = lt-ltb n (2 ^ 63) (omega (arith, fits.sfits))
fits-is_i64 (negsuc n) fits = lt-ltb n (2 ^ 63) (omega (arith, fits.sfits))

-- what fits 64 bits fits 128
pub fits_more : (z : ℤ) → FitsSigned w64 z → FitsSigned w128 z
fits_more (pos n) fits = record { sfits = omega (arith, fits.sfits) }
fits_more (negsuc n) fits = record { sfits = omega (arith, fits.sfits) }

-- it, where it passes a test
abbrev pub passing : {A : Type 0} → (A → Bool) → A × List ℕ → Option (A × List ℕ)
passing test r = cond (test r.0) (Some r) None

pub u64_in-u128 : (bytes : List ℕ) → u64_in bytes ≡ option_and_then (passing (λ n. nat_lt n (2 ^ 64))) (u128_in bytes)
unfolding u64_in
u64_in-u128 bytes = refl

pub squares_in-u128 : (bytes : List ℕ) → squares_in bytes ≡ option_and_then (passing (λ n. nat_lt (suc n) (2 ^ 128))) (u128_in bytes)
unfolding squares_in
squares_in-u128 bytes = refl

pub i64_in-i128 : (bytes : List ℕ) → i64_in bytes ≡ option_and_then (passing is_i64) (i128_in bytes)
unfolding i64_in
i64_in-i128 bytes = refl

pub u64_in-spelled : (n : ℕ) (rest : List ℕ) → n < 2 ^ 64 → u64_in (u128_bytes n ++ rest) ≡ Some (n, rest)
u64_in-spelled n rest small =
    u64_in-u128 (u128_bytes n ++ rest) ∙ ap (option_and_then (passing (λ n. nat_lt n (2 ^ 64)))) (u128_in-spelled n rest (omega arith))
    ∙ cond-true (nat_lt n (2 ^ 64)) (Some (n, rest)) None (lt-ltb n (2 ^ 64) small)

pub squares_in-spelled : (n : ℕ) (rest : List ℕ) → suc n < 2 ^ 128 → squares_in (u128_bytes n ++ rest) ≡ Some (n, rest)
squares_in-spelled n rest small =
    squares_in-u128 (u128_bytes n ++ rest) ∙ ap (option_and_then (passing (λ n. nat_lt (suc n) (2 ^ 128)))) (u128_in-spelled n rest (omega arith))
    ∙ cond-true (nat_lt (suc n) (2 ^ 128)) (Some (n, rest)) None (lt-ltb (suc n) (2 ^ 128) small)

pub i64_in-spelled : (z : ℤ) (rest : List ℕ) → FitsSigned w64 z → i64_in (i128_bytes z ++ rest) ≡ Some (z, rest)
i64_in-spelled z rest fits =
    i64_in-i128 (i128_bytes z ++ rest) ∙ ap (option_and_then (passing is_i64)) (i128_in-spelled z rest (fits_more z fits))
    ∙ cond-true (is_i64 z) (Some (z, rest)) None (fits-is_i64 z fits)

-- ---- lists of numbers

pub length-numbers : (ns : List ℤ) → length (flat_map i128_bytes ns) ≡ length ns * 16
length-numbers [] = refl
length-numbers (z ∷ ns) =
    let one = length-i128_bytes z in
    let more = length-numbers ns in
    let whole = length-append (i128_bytes z) (flat_map i128_bytes ns) in
    omega arith

numbers_from-spelled : (ns done : List ℤ) (rest : List ℕ) → AllByRecursion (FitsSigned w128) ns → numbers_from done (length ns) (flat_map i128_bytes ns ++ rest) ≡ Some (done ++ ns, rest)
numbers_from-spelled [] done rest fit = ap (λ ns. Some (ns, rest)) (sym (append-nil done))
numbers_from-spelled (z ∷ ns) done rest fit =
    ap (λ bs. option_and_then (λ (r : ℤ × List ℕ). numbers_from (done ++ r.0 ∷ []) (length ns) r.1) (i128_in bs)) (append_assoc (i128_bytes z) (flat_map i128_bytes ns) rest)
    ∙ ap (option_and_then (λ (r : ℤ × List ℕ). numbers_from (done ++ r.0 ∷ []) (length ns) r.1)) (i128_in-spelled z (flat_map i128_bytes ns ++ rest) fit.0)
    ∙ numbers_from-spelled ns (done ++ z ∷ []) rest fit.1 ∙ ap (λ ms. Some (ms, rest)) (append_assoc done (z ∷ []) ns)

-- the numbers of a list that has so many
abbrev pub numbers_counted : ℕ × List ℕ → Option (List ℤ × List ℕ)
numbers_counted count = cond (is_place_count count.0) (numbers_of_count count.0 count.1) None

numbers_in-spelled : (ns : List ℤ) (rest : List ℕ) → AreNumbers ns → numbers_in (numbers_bytes ns ++ rest) ≡ Some (ns, rest)
numbers_in-spelled ns rest fit =
    let long = length-numbers ns in
    let whole = length-append (flat_map i128_bytes ns) rest in
    let room : length ns ≤ length (flat_map i128_bytes ns ++ rest) / 16 = omega arith in
    ap (λ bs. option_and_then numbers_counted (count_in bs)) (append_assoc (count_bytes (length ns)) (flat_map i128_bytes ns) rest)
    ∙ ap (option_and_then numbers_counted) (count_in-spelled (length ns) (flat_map i128_bytes ns ++ rest) (omega (arith, fit.few)))
    ∙ cond-true _ (numbers_of_count (length ns) (flat_map i128_bytes ns ++ rest)) None (and_from _ _ (le-leb _ _ fit.some) (le-leb _ _ fit.few))
    ∙ cond-true _ (numbers_from [] (length ns) (flat_map i128_bytes ns ++ rest)) None (le-leb _ _ room)
    ∙ numbers_from-spelled ns [] rest fit.each

-- ---- what `_stats` tells

-- the bytes from each number on
abbrev pub from_greatest : Stats → List ℕ
from_greatest s = i128_bytes s.max ++ u128_bytes s.sumsqr

abbrev pub from_least : Stats → List ℕ
from_least s = i128_bytes s.min ++ from_greatest s

abbrev pub from_count : Stats → List ℕ
from_count s = u128_bytes s.count ++ from_least s

abbrev pub told_5 : ℤ → ℕ → ℤ → ℤ → ℕ × List ℕ → Option (BuiltinSum × List ℕ)
told_5 sum count least greatest r = Some (value.Stats (record { sum = sum; count = count; min = least; max = greatest; sumsqr = r.0 }), r.1)

abbrev pub told_4 : ℤ → ℕ → ℤ → ℤ × List ℕ → Option (BuiltinSum × List ℕ)
told_4 sum count least r = option_and_then (told_5 sum count least r.0) (squares_in r.1)

abbrev pub told_3 : ℤ → ℕ → ℤ × List ℕ → Option (BuiltinSum × List ℕ)
told_3 sum count r = option_and_then (told_4 sum count r.0) (i64_in r.1)

abbrev pub told_2 : ℤ → ℕ × List ℕ → Option (BuiltinSum × List ℕ)
told_2 sum r = option_and_then (told_3 sum r.0) (i64_in r.1)

abbrev pub told_1 : ℤ × List ℕ → Option (BuiltinSum × List ℕ)
told_1 r = option_and_then (told_2 r.0) (u64_in r.1)

stats_in-spelled : (s : Stats) (rest : List ℕ) → AreStats s → stats_in (stats_bytes s ++ rest) ≡ Some (value.Stats s, rest)
stats_in-spelled s rest fit =
    ap (option_and_then told_1) (ap i128_in (append_assoc (i128_bytes s.sum) (from_count s) rest) ∙ i128_in-spelled s.sum (from_count s ++ rest) fit.sum)
    ∙ ap (option_and_then (told_2 s.sum)) (ap u64_in (append_assoc (u128_bytes s.count) (from_least s) rest) ∙ u64_in-spelled s.count (from_least s ++ rest) fit.count)
    ∙ ap (option_and_then (told_3 s.sum s.count)) (ap i64_in (append_assoc (i128_bytes s.min) (from_greatest s) rest) ∙ i64_in-spelled s.min (from_greatest s ++ rest) fit.least)
    ∙ ap (option_and_then (told_4 s.sum s.count s.min)) (ap i64_in (append_assoc (i128_bytes s.max) (u128_bytes s.sumsqr) rest) ∙ i64_in-spelled s.max (u128_bytes s.sumsqr ++ rest) fit.greatest)
    ∙ ap (option_and_then (told_5 s.sum s.count s.min s.max)) (squares_in-spelled s.sumsqr rest fit.squares)

-- ---- values

pub front_in-spelled : (sum : BuiltinSum) (rest : List ℕ) → HasBytes sum → front_in (sum_bytes sum ++ rest) ≡ Some (sum, rest)
front_in-spelled (value.Count n) rest fit = ap (option_map {U = BuiltinSum × List ℕ} (λ (r : ℕ × List ℕ). (value.Count r.0, r.1))) (u64_in-spelled n rest fit)
front_in-spelled (value.Number z) rest fit = ap (option_map {U = BuiltinSum × List ℕ} (λ (r : ℤ × List ℕ). (value.Number r.0, r.1))) (i128_in-spelled z rest fit)
front_in-spelled (value.Numbers ns) rest fit = ap (option_map {U = BuiltinSum × List ℕ} (λ (r : List ℤ × List ℕ). (value.Numbers r.0, r.1))) (numbers_in-spelled ns rest fit)
front_in-spelled (value.Stats s) rest fit = stats_in-spelled s rest fit
front_in-spelled value.Refused rest fit = refl
front_in-spelled value.Overflow rest fit = refl

abbrev pub alone_of : BuiltinSum × List ℕ → Option BuiltinSum
alone_of front = alone front.0 front.1

pub sum_in-spelled : (sum : BuiltinSum) → HasBytes sum → sum_in (sum_bytes sum) ≡ Some sum
sum_in-spelled sum fit = ap sum_in (sym (append-nil (sum_bytes sum))) ∙ ap (option_and_then alone_of) (front_in-spelled sum [] fit)

pub sums_spelled_once : IsSpelledOnce HasBytes sum_bytes
sums_spelled_once x y fit_x fit_y same = let both : Some x ≡ Some y = sym (sum_in-spelled x fit_x) ∙ ap sum_in same ∙ sum_in-spelled y fit_y in cc
