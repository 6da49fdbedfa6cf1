-- Values of two groups added as the code adds them: a sum that doesn't fit its type becomes the number nearest to it that
-- does. For private clauses.
use Rattle.std.specs.Prelude.{ℕ, ◌+◌, ◌-◌, ◌^◌, min, ℤ, pos, ◌+ℤ◌, nat_lt, nat_eq, List, [], ◌∷◌, if◌then◌else◌, Option, Some, None}
use Rattle.std.specs.Int.{int_min, int_max, saturate_signed, w128}
use Rattle.builtin_reduces.specs.declared.sum.BuiltinSum.{BuiltinSum}
use Rattle.builtin_reduces.specs.declared.sum.BuiltinSum.TheVariants as value
use Rattle.builtin_reduces.specs.declared.sum.Stats.{Stats}
use Rattle.builtin_reduces.specs.Values.{added}

-- the number nearest to it that fits 128 bits
abbrev pub near : ℤ → ℤ
near z = saturate_signed w128 z

-- place by place, with the longer tail as it is
abbrev pub near_added : List ℤ → List ℤ → List ℤ
near_added [] ys = ys
near_added (x ∷ xs) [] = x ∷ xs
near_added (x ∷ xs) (y ∷ ys) = near (x +ℤ y) ∷ near_added xs ys

-- what two groups of one row or more tell together
abbrev pub both : Stats → Stats → Stats
both a b = record {
  sum = near (a.sum +ℤ b.sum);
  count = min (a.count + b.count) (2 ^ 64 - 1);
  min = int_min a.min b.min;
  max = int_max a.max b.max;
  sumsqr = min (a.sumsqr + b.sumsqr) (2 ^ 128 - 1);
}

abbrev pub merged : Stats → Stats → Stats
merged a b = if nat_eq a.count 0 then b else (if nat_eq b.count 0 then a else both a b)

abbrev pub checked : Stats → BuiltinSum
checked s = if nat_lt s.sumsqr (2 ^ 128 - 1) then value.Stats s else value.Overflow

abbrev pub count_with : ℕ → BuiltinSum → BuiltinSum
count_with a (value.Count b) = value.Count (min (a + b) (2 ^ 64 - 1))
count_with a (value.Number b) = value.Refused
count_with a (value.Numbers bs) = value.Refused
count_with a (value.Stats s) = value.Refused
count_with a value.Refused = value.Refused
count_with a value.Overflow = value.Refused

abbrev pub number_with : ℤ → BuiltinSum → BuiltinSum
number_with a (value.Count b) = value.Refused
number_with a (value.Number b) = value.Number (near (a +ℤ b))
number_with a (value.Numbers bs) = value.Numbers (near_added (a ∷ []) bs)
number_with a (value.Stats s) = value.Refused
number_with a value.Refused = value.Refused
number_with a value.Overflow = value.Refused

abbrev pub numbers_with : List ℤ → BuiltinSum → BuiltinSum
numbers_with ns (value.Count b) = value.Refused
numbers_with ns (value.Number b) = value.Numbers (near_added ns (b ∷ []))
numbers_with ns (value.Numbers bs) = value.Numbers (near_added ns bs)
numbers_with ns (value.Stats s) = value.Refused
numbers_with ns value.Refused = value.Refused
numbers_with ns value.Overflow = value.Refused

abbrev pub stats_with : Stats → BuiltinSum → BuiltinSum
stats_with a (value.Count b) = value.Refused
stats_with a (value.Number b) = value.Refused
stats_with a (value.Numbers bs) = value.Refused
stats_with a (value.Stats s) = checked (merged a s)
stats_with a value.Refused = value.Refused
stats_with a value.Overflow = value.Overflow

abbrev pub overflow_with : BuiltinSum → BuiltinSum
overflow_with (value.Count b) = value.Refused
overflow_with (value.Number b) = value.Refused
overflow_with (value.Numbers bs) = value.Refused
overflow_with (value.Stats s) = value.Overflow
overflow_with value.Refused = value.Refused
overflow_with value.Overflow = value.Overflow

-- the value of two groups together
abbrev pub add_two : BuiltinSum → BuiltinSum → BuiltinSum
add_two (value.Count a) part = count_with a part
add_two (value.Number a) part = number_with a part
add_two (value.Numbers ns) part = numbers_with ns part
add_two (value.Stats a) part = stats_with a part
add_two value.Refused part = value.Refused
add_two value.Overflow part = overflow_with part

-- the value of a row whose value is an array of these numbers, or one of something else
abbrev pub places_or_refused : Option (List ℤ) → BuiltinSum
places_or_refused (Some numbers) = value.Numbers (added (pos 0 ∷ []) numbers)
places_or_refused None = value.Refused

-- adding to it takes no memory
abbrev pub IsFree : BuiltinSum → Type 0
IsFree (value.Count a) = Unit {0}
IsFree (value.Number a) = ⊥
IsFree (value.Numbers ns) = ⊥
IsFree (value.Stats a) = Unit {0}
IsFree value.Refused = Unit {0}
IsFree value.Overflow = Unit {0}
