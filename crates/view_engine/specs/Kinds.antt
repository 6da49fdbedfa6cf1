-- A value of the kind that is asked for, or none.
use Rattle.std.specs.Prelude.{ℕ, pos, negsuc, List, ◌&&◌, nat_le, length, Option, Some, None, if◌then◌else◌}
use Rattle.json_terms.specs.Json.{Json, number, is_false, is_null, is_true, object, array, string}

-- a text of so many bytes at least and at most
abbrev pub text_within : ℕ → ℕ → Option (List ℕ) → Option (List ℕ)
text_within least most None = None
text_within least most (Some s) = if nat_le least (length s) && nat_le (length s) most then Some s else None

-- a whole number from 1 to a greatest one
abbrev pub from_one : ℕ → ℕ → Option ℕ
from_one most n = if nat_le 1 n && nat_le n most then Some n else None

abbrev pub count_in : ℕ → Json → Option ℕ
count_in most (number (pos n)) = from_one most n
count_in most (number (negsuc n)) = None
count_in most is_false = None
count_in most is_null = None
count_in most is_true = None
count_in most (object ms) = None
count_in most (array ts) = None
count_in most (string s) = None
