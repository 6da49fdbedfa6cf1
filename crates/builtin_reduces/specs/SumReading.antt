-- Reading the value of a group from bytes: what is read from the front and the bytes behind it, or none. For private clauses.
use Rattle.std.specs.Prelude.{ℕ, zero, suc, ◌/◌, ℤ, pos, negsuc, ◌^◌, List, [], ◌∷◌, ◌++◌, length, take, drop, Bool, ◌&&◌, ◌==◌, nat_le, nat_lt, bytes_eq, if◌then◌else◌, Option, Some, None, option_map, option_and_then}
use Rattle.std.specs.Int.{cast_signed, from_le_bytes, w128}
use Rattle.term_codec.specs.Reading.{count_in}
use Rattle.builtin_reduces.specs.declared.sum.BuiltinSum.{BuiltinSum}
use Rattle.builtin_reduces.specs.declared.sum.BuiltinSum.TheVariants as value
use Rattle.builtin_reduces.specs.SumBytes.{u128_bytes, place_limit}

infixl 10 ◌>>=◌
abbrev pub ◌>>=◌ : {A B : Type 0} → Option A → (A → Option B) → Option B
o >>= f = option_and_then f o

-- this number, where the bytes begin with it
abbrev pub u128_if : ℕ → List ℕ → Option (ℕ × List ℕ)
u128_if n bytes = if nat_lt n (2 ^ 128) && bytes_eq (u128_bytes n) (take 16 bytes) then Some (n, drop 16 bytes) else None

-- a natural number
unfoldable pub u128_in : List ℕ → Option (ℕ × List ℕ)
u128_in bytes = u128_if (from_le_bytes w128 bytes) bytes

-- a whole number
unfoldable pub i128_in : List ℕ → Option (ℤ × List ℕ)
i128_in bytes = option_map (λ r. (cast_signed w128 r.0, r.1)) (u128_in bytes)

abbrev pub is_i64 : ℤ → Bool
is_i64 (pos n) = nat_lt n (2 ^ 63)
is_i64 (negsuc n) = nat_lt n (2 ^ 63)

-- a natural number that fits 64 bits
unfoldable pub u64_in : List ℕ → Option (ℕ × List ℕ)
u64_in bytes = do
  number ← u128_in bytes
  if nat_lt number.0 (2 ^ 64) then Some number else None

-- a whole number that fits 64 bits
unfoldable pub i64_in : List ℕ → Option (ℤ × List ℕ)
i64_in bytes = do
  number ← i128_in bytes
  if is_i64 number.0 then Some number else None

-- a sum of squares that isn't too great
unfoldable pub squares_in : List ℕ → Option (ℕ × List ℕ)
squares_in bytes = do
  number ← u128_in bytes
  if nat_lt (suc number.0) (2 ^ 128) then Some number else None

-- so many numbers, behind those that are done
abbrev pub numbers_from : List ℤ → ℕ → List ℕ → Option (List ℤ × List ℕ)
numbers_from done zero bytes = Some (done, bytes)
numbers_from done (suc n) bytes = do
  number ← i128_in bytes
  numbers_from (done ++ number.0 ∷ []) n number.1

-- so many numbers, of 16 bytes each
abbrev pub numbers_of_count : ℕ → List ℕ → Option (List ℤ × List ℕ)
numbers_of_count n bytes = if nat_le n (length bytes / 16) then numbers_from [] n bytes else None

-- whether a list may have so many numbers
abbrev pub is_place_count : ℕ → Bool
is_place_count n = nat_le 1 n && nat_le n place_limit

abbrev pub numbers_in : List ℕ → Option (List ℤ × List ℕ)
numbers_in bytes = do
  count ← count_in bytes
  if is_place_count count.0 then numbers_of_count count.0 count.1 else None

abbrev pub stats_in : List ℕ → Option (BuiltinSum × List ℕ)
stats_in bytes = do
  sum ← i128_in bytes
  count ← u64_in sum.1
  least ← i64_in count.1
  greatest ← i64_in least.1
  squares ← squares_in greatest.1
  Some (value.Stats (record { sum = sum.0; count = count.0; min = least.0; max = greatest.0; sumsqr = squares.0 }), squares.1)

-- a value of this kind, behind the byte of its kind
abbrev pub kind_in : ℕ → List ℕ → Option (BuiltinSum × List ℕ)
kind_in kind bytes =
    if kind == 0 then option_map (λ r. (value.Count r.0, r.1)) (u64_in bytes)
    else if kind == 1 then option_map (λ r. (value.Number r.0, r.1)) (i128_in bytes)
    else if kind == 2 then option_map (λ r. (value.Numbers r.0, r.1)) (numbers_in bytes)
    else if kind == 3 then stats_in bytes
    else if kind == 4 then Some (value.Refused, bytes)
    else if kind == 5 then Some (value.Overflow, bytes)
    else None

abbrev pub front_in : List ℕ → Option (BuiltinSum × List ℕ)
front_in [] = None
front_in (kind ∷ bytes) = kind_in kind bytes

-- it, where nothing stands behind it
abbrev pub alone : BuiltinSum → List ℕ → Option BuiltinSum
alone sum [] = Some sum
alone sum (byte ∷ rest) = None

-- the value of all these bytes
abbrev pub sum_in : List ℕ → Option BuiltinSum
sum_in bytes = do
  front ← front_in bytes
  alone front.0 front.1
