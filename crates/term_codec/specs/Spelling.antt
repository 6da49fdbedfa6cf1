-- How a term is spelled in bytes: a byte for its kind, and behind it what the kind needs. Counts and lengths stand in
-- 4 bytes, numbers in 8 bytes in two's complement, the low byte first.
use Rattle.std.specs.Prelude.{ℕ, ℤ, suc, List, [], ◌∷◌, ◌++◌, length}
use Rattle.std.specs.Int.{cast_unsigned, to_le_bytes, w16, w32, w64}
use Rattle.json_terms.specs.Json.{Json, number, is_false, is_null, is_true, object, array, string, Items, no_items, item, Members, no_members, member}

-- a count or a length
unfoldable pub count_bytes : ℕ → List ℕ
count_bytes n = to_le_bytes w32 n

-- a natural number below 2^64
unfoldable pub whole_bytes : ℕ → List ℕ
whole_bytes n = to_le_bytes w64 n

-- a natural number below 2^16
unfoldable pub short_bytes : ℕ → List ℕ
short_bytes n = to_le_bytes w16 n

-- a whole number
unfoldable pub number_bytes : ℤ → List ℕ
number_bytes n = to_le_bytes w64 (cast_unsigned w64 n)

-- a text or a name: its length and its bytes
abbrev pub text_bytes : List ℕ → List ℕ
text_bytes text = count_bytes (length text) ++ text

-- how many elements there are
abbrev pub items_count : Items → ℕ
items_count no_items = 0
items_count (item t ts) = suc (items_count ts)

-- how many members there are
abbrev pub members_count : Members → ℕ
members_count no_members = 0
members_count (member n t ms) = suc (members_count ms)

abbrev mutual
  pub spelling : Json → List ℕ
  spelling (number n) = 1 ∷ number_bytes n
  spelling is_false = 2 ∷ []
  spelling is_null = 3 ∷ []
  spelling is_true = 4 ∷ []
  spelling (object ms) = 5 ∷ (count_bytes (members_count ms) ++ members_spelling ms)
  spelling (array ts) = 6 ∷ (count_bytes (items_count ts) ++ items_spelling ts)
  spelling (string s) = 7 ∷ text_bytes s

  pub items_spelling : Items → List ℕ
  items_spelling no_items = []
  items_spelling (item t ts) = spelling t ++ items_spelling ts

  pub members_spelling : Members → List ℕ
  members_spelling no_members = []
  members_spelling (member n t ms) = text_bytes n ++ (spelling t ++ members_spelling ms)
