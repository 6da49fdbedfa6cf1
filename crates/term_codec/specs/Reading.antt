-- Reading a spelling from the front of bytes: what is read and the bytes behind it, or none. For private clauses.
use Rattle.std.specs.Prelude.{ℕ, ◌^◌, zero, suc, List, [], ◌∷◌, ◌++◌, length, take, drop, Bool, true, ◌&&◌, ◌==◌, nat_le, nat_lt, bytes_eq, if◌then◌else◌, Option, Some, None, option_map, option_and_then}
use Rattle.std.specs.Int.{cast_signed, from_le_bytes, to_le_bytes, w16, w32, w64}
use Rattle.std.specs.Str.{is_utf8}
use Rattle.std.specs.Ordering.{nat_cmp, is_lt}
use Rattle.std.specs.Cmp.Lexicographic.{slice_cmp}
use Rattle.term_codec.specs.Spelling.{count_bytes, whole_bytes, short_bytes}
use Rattle.json_terms.specs.Json.{Json, number, is_false, is_null, is_true, object, array, string, items_of, members_of}

-- this count, where the bytes begin with it
abbrev pub count_if : ℕ → List ℕ → Option (ℕ × List ℕ)
count_if n bytes = if nat_lt n (2 ^ 32) && bytes_eq (count_bytes n) (take 4 bytes) then Some (n, drop 4 bytes) else None

-- a count or a length
unfoldable pub count_in : List ℕ → Option (ℕ × List ℕ)
count_in bytes = count_if (from_le_bytes w32 bytes) bytes

abbrev pub whole_if : ℕ → List ℕ → Option (ℕ × List ℕ)
whole_if n bytes = if nat_lt n (2 ^ 64) && bytes_eq (whole_bytes n) (take 8 bytes) then Some (n, drop 8 bytes) else None

-- a natural number in 8 bytes
unfoldable pub whole_in : List ℕ → Option (ℕ × List ℕ)
whole_in bytes = whole_if (from_le_bytes w64 bytes) bytes

abbrev pub short_if : ℕ → List ℕ → Option (ℕ × List ℕ)
short_if n bytes = if nat_lt n (2 ^ 16) && bytes_eq (short_bytes n) (take 2 bytes) then Some (n, drop 2 bytes) else None

-- a natural number in 2 bytes
unfoldable pub short_in : List ℕ → Option (ℕ × List ℕ)
short_in bytes = short_if (from_le_bytes w16 bytes) bytes

-- the number with these 64 bits, where the bytes begin with them
abbrev pub number_if : ℕ → List ℕ → Option (Json × List ℕ)
number_if n bytes = if nat_lt n (2 ^ 64) && bytes_eq (to_le_bytes w64 n) (take 8 bytes) then Some (number (cast_signed w64 n), drop 8 bytes) else None

-- a whole number
unfoldable pub number_in : List ℕ → Option (Json × List ℕ)
number_in bytes = number_if (from_le_bytes w64 bytes) bytes

-- so many bytes of a text
abbrev pub text_of_length : ℕ → List ℕ → Option (List ℕ × List ℕ)
text_of_length n bytes = if nat_le n (length bytes) && is_utf8 (take n bytes) then Some (take n bytes, drop n bytes) else None

-- a text or a name
unfoldable pub text_in : List ℕ → Option (List ℕ × List ℕ)
text_in bytes = option_and_then (λ r. text_of_length r.0 r.1) (count_in bytes)

abbrev pub Reader : Type 0
Reader = List ℕ → Option (Json × List ℕ)

-- so many elements, behind those that are done
abbrev pub items_from : Reader → List Json → ℕ → List ℕ → Option (List Json × List ℕ)
items_from one done zero bytes = Some (done, bytes)
items_from one done (suc n) bytes = option_and_then (λ r. items_from one (done ++ r.0 ∷ []) n r.1) (one bytes)

-- the name is greater than the last of these
abbrev pub follows : List ℕ → List (List ℕ × Json) → Bool
follows name [] = true
follows name (m ∷ []) = is_lt (slice_cmp nat_cmp m.0 name)
follows name (m ∷ l ∷ ms) = follows name (l ∷ ms)

-- a member, behind those that are done
abbrev pub member_after : Reader → List (List ℕ × Json) → List ℕ → Option ((List ℕ × Json) × List ℕ)
member_after one done bytes =
    option_and_then (λ r. if follows r.0 done then option_map (λ v. ((r.0, v.0), v.1)) (one r.1) else None) (text_in bytes)

-- so many members, behind those that are done
abbrev pub members_from : Reader → List (List ℕ × Json) → ℕ → List ℕ → Option (List (List ℕ × Json) × List ℕ)
members_from one done zero bytes = Some (done, bytes)
members_from one done (suc n) bytes = option_and_then (λ r. members_from one (done ++ r.0 ∷ []) n r.1) (member_after one done bytes)

-- the elements of an array, each of at least one byte
abbrev pub items_of_count : Reader → ℕ → List ℕ → Option (List Json × List ℕ)
items_of_count one n bytes = if nat_le n (length bytes) then items_from one [] n bytes else None

abbrev pub members_of_count : Reader → ℕ → List ℕ → Option (List (List ℕ × Json) × List ℕ)
members_of_count one n bytes = if nat_le n (length bytes) then members_from one [] n bytes else None

abbrev pub array_of_count : Reader → ℕ → List ℕ → Option (Json × List ℕ)
array_of_count one n bytes = option_map (λ r. (array (items_of r.0), r.1)) (items_of_count one n bytes)

abbrev pub object_of_count : Reader → ℕ → List ℕ → Option (Json × List ℕ)
object_of_count one n bytes = option_map (λ r. (object (members_of r.0), r.1)) (members_of_count one n bytes)

-- an array, behind the byte of its kind
unfoldable pub array_in : Reader → List ℕ → Option (Json × List ℕ)
array_in one bytes = option_and_then (λ r. array_of_count one r.0 r.1) (count_in bytes)

-- an object, behind the byte of its kind
unfoldable pub object_in : Reader → List ℕ → Option (Json × List ℕ)
object_in one bytes = option_and_then (λ r. object_of_count one r.0 r.1) (count_in bytes)

-- a text, behind the byte of its kind
abbrev pub string_in : List ℕ → Option (Json × List ℕ)
string_in bytes = option_map (λ r. (string r.0, r.1)) (text_in bytes)

-- a value that has no parts, behind the byte of its kind
abbrev pub scalar_in : ℕ → List ℕ → Option (Json × List ℕ)
scalar_in kind bytes =
    if kind == 1 then number_in bytes
    else if kind == 2 then Some (is_false, bytes)
    else if kind == 3 then Some (is_null, bytes)
    else if kind == 4 then Some (is_true, bytes)
    else if kind == 7 then string_in bytes
    else None

-- a value whose parts are read so
abbrev pub value_in : Reader → ℕ → List ℕ → Option (Json × List ℕ)
value_in one kind bytes =
    if kind == 5 then object_in one bytes
    else if kind == 6 then array_in one bytes
    else scalar_in kind bytes

-- a value of this depth at most
abbrev pub reading : ℕ → List ℕ → Option (Json × List ℕ)
reading limit [] = None
reading zero (kind ∷ bytes) = scalar_in kind bytes
reading (suc limit) (kind ∷ bytes) = value_in (reading limit) kind bytes
