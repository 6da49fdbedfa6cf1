-- The value of a group in bytes: a byte for its kind, and behind it its numbers. Each number has 16 bytes, in two's complement
-- where it may be negative; how many numbers a list has stands in 4 bytes. The low byte comes first.
use Rattle.std.specs.Prelude.{ℕ, suc, ℤ, ◌<◌, ◌≤◌, ◌^◌, List, [], ◌∷◌, ◌++◌, length, FitsSigned}
use Rattle.std.specs.Int.{cast_unsigned, to_le_bytes, w64, w128}
use Rattle.std.specs.List.{AllByRecursion, flat_map}
use Rattle.term_codec.specs.Spelling.{count_bytes}
use Rattle.builtin_reduces.specs.declared.sum.BuiltinSum.{BuiltinSum}
use Rattle.builtin_reduces.specs.declared.sum.BuiltinSum.TheVariants as value
use Rattle.builtin_reduces.specs.declared.sum.Stats.{Stats}

-- a natural number below 2^128
unfoldable pub u128_bytes : ℕ → List ℕ
u128_bytes n = to_le_bytes w128 n

-- a whole number
unfoldable pub i128_bytes : ℤ → List ℕ
i128_bytes z = to_le_bytes w128 (cast_unsigned w128 z)

abbrev pub numbers_bytes : List ℤ → List ℕ
numbers_bytes ns = count_bytes (length ns) ++ flat_map i128_bytes ns

abbrev pub stats_bytes : Stats → List ℕ
stats_bytes s = i128_bytes s.sum ++ (u128_bytes s.count ++ (i128_bytes s.min ++ (i128_bytes s.max ++ u128_bytes s.sumsqr)))

abbrev pub sum_bytes : BuiltinSum → List ℕ
sum_bytes (value.Count n) = 0 ∷ u128_bytes n
sum_bytes (value.Number z) = 1 ∷ i128_bytes z
sum_bytes (value.Numbers ns) = 2 ∷ numbers_bytes ns
sum_bytes (value.Stats s) = 3 ∷ stats_bytes s
sum_bytes value.Refused = 4 ∷ []
sum_bytes value.Overflow = 5 ∷ []

-- ---- the values that have bytes

-- A list has so many numbers at most.
abbrev pub place_limit : ℕ
place_limit = 524287

-- the numbers are of their type, there is one at least, and there are no more of them
pub record AreNumbers (ns : List ℤ) : Type 0 where
  pub each : AllByRecursion (FitsSigned w128) ns
  pub some : 1 ≤ length ns
  pub few : length ns ≤ place_limit

-- each number is of its type, and the sum of the squares is less than 2^128 - 1
pub record AreStats (s : Stats) : Type 0 where
  pub sum : FitsSigned w128 s.sum
  pub count : s.count < 2 ^ 64
  pub least : FitsSigned w64 s.min
  pub greatest : FitsSigned w64 s.max
  pub squares : suc s.sumsqr < 2 ^ 128

abbrev pub HasBytes : BuiltinSum → Type 0
HasBytes (value.Count n) = n < 2 ^ 64
HasBytes (value.Number z) = FitsSigned w128 z
HasBytes (value.Numbers ns) = AreNumbers ns
HasBytes (value.Stats s) = AreStats s
HasBytes value.Refused = Unit {0}
HasBytes value.Overflow = Unit {0}
