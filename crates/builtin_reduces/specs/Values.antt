-- The value of a group of rows under a built-in reduce, from the values of its rows (CouchDB's documentation, "Built-in Reduce
-- Functions"). Sums are whole numbers of any size here; those of real rows fit in 128 bits.
use Rattle.std.specs.Prelude.{ℕ, suc, ◌*◌, ◌^◌, ℤ, pos, ◌+ℤ◌, nat_lt, unsigned_abs, List, [], ◌∷◌, length, if◌then◌else◌, Option, Some, None}
use Rattle.std.specs.List.{fold, sum_by}
use Rattle.std.specs.Int.{int_min, int_max}
use Rattle.json_terms.specs.Json.{Json, number, is_false, is_null, is_true, object, array, string, list_of_items}
use Rattle.design_docs.specs.declared.design.Builtin.{Builtin}
use Rattle.design_docs.specs.declared.design.Builtin.TheVariants.{Sum, Count, Stats}
use Rattle.builtin_reduces.specs.declared.sum.BuiltinSum.{BuiltinSum}
use Rattle.builtin_reduces.specs.declared.sum.BuiltinSum.TheVariants as value

abbrev pub cons_where : {B : Type 0} → Option B → Option (List B) → Option (List B)
cons_where (Some y) (Some ys) = Some (y ∷ ys)
cons_where (Some y) None = None
cons_where None ys = None

-- what f gives for each element, or nothing where it gives nothing for one of them
abbrev pub each : {A B : Type 0} → (A → Option B) → List A → Option (List B)
each f [] = Some []
each f (x ∷ xs) = cons_where (f x) (each f xs)

-- the value, where it is a number
abbrev pub number_in : Json → Option ℤ
number_in (number n) = Some n
number_in is_false = None
number_in is_null = None
number_in is_true = None
number_in (object ms) = None
number_in (array ts) = None
number_in (string s) = None

-- what `_sum` adds: the numbers of an array of nothing else, and a number as an array of one
abbrev pub addend : Json → Option (List ℤ)
addend (number n) = Some (n ∷ [])
addend (array ts) = each number_in (list_of_items ts)
addend is_false = None
addend is_null = None
addend is_true = None
addend (object ms) = None
addend (string s) = None

abbrev pub total : List ℤ → ℤ
total = fold ◌+ℤ◌ (pos 0)

-- place by place, with the longer tail as it is
abbrev pub added : List ℤ → List ℤ → List ℤ
added [] ys = ys
added (x ∷ xs) [] = x ∷ xs
added (x ∷ xs) (y ∷ ys) = (x +ℤ y) ∷ added xs ys

-- the sums of the places, of which there is one at least
abbrev pub place_totals : List (List ℤ) → List ℤ
place_totals = fold added (pos 0 ∷ [])

-- numbers give a number, arrays among them give an array, and any other value is refused
abbrev pub sum_or : Option (List ℤ) → Option (List (List ℤ)) → BuiltinSum
sum_or (Some numbers) addends = value.Number (total numbers)
sum_or None (Some addends) = value.Numbers (place_totals addends)
sum_or None None = value.Refused

abbrev pub least : List ℤ → ℤ
least [] = pos 0
least (n ∷ ns) = fold int_min n ns

abbrev pub greatest : List ℤ → ℤ
greatest [] = pos 0
greatest (n ∷ ns) = fold int_max n ns

abbrev pub square : ℤ → ℕ
square n = unsigned_abs n * unsigned_abs n

-- the sum of the squares is less than 2^128 - 1, or there is no value
abbrev pub stats_of : List ℤ → BuiltinSum
stats_of numbers =
    if nat_lt (suc (sum_by square numbers)) (2 ^ 128) then value.Stats (record {
      sum = total numbers;
      count = length numbers;
      min = least numbers;
      max = greatest numbers;
      sumsqr = sum_by square numbers;
    }) else value.Overflow

abbrev pub stats_or : Option (List ℤ) → BuiltinSum
stats_or (Some numbers) = stats_of numbers
stats_or None = value.Refused

abbrev pub value_of : Builtin → List Json → BuiltinSum
value_of Count values = value.Count (length values)
value_of Sum values = sum_or (each number_in values) (each addend values)
value_of Stats values = stats_or (each number_in values)
