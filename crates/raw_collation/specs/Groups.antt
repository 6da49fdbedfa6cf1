-- How rows are grouped by their keys (CouchDB's view API, `group` and `group_level`).
use Rattle.std.specs.Prelude.{◌≡◌, ℕ, zero, suc, IsTrue}
use Rattle.std.specs.Ordering.{is_le}
use Rattle.json_terms.specs.Json.{Json, number, is_false, is_null, is_true, object, array, string, Items, no_items, item}
use Rattle.raw_collation.specs.declared.group.Level.{Level}
use Rattle.raw_collation.specs.declared.group.Level.TheVariants.{All, First, Whole}
use Rattle.raw_collation.specs.Collation.{json_cmp}

-- so many elements from the front, or all where there are fewer
abbrev pub first_items : ℕ → Items → Items
first_items zero ts = no_items
first_items (suc n) no_items = no_items
first_items (suc n) (item t ts) = item t (first_items n ts)

-- an array by its first elements, and any other key whole
abbrev pub by_first : ℕ → Json → Json
by_first n (array ts) = array (first_items n ts)
by_first n (number x) = number x
by_first n is_false = is_false
by_first n is_null = is_null
by_first n is_true = is_true
by_first n (object ms) = object ms
by_first n (string s) = string s

-- the key that a group's rows have in common: `null` for all rows, the first elements of arrays, or the whole key
abbrev pub group_of : Level → Json → Json
group_of All key = is_null
group_of (First n) key = by_first n key
group_of Whole key = key

-- in a sorted list the keys of one group stand side by side: what stands between two of them is of their group
abbrev pub AreRuns : Level → Type 0
AreRuns level =
    (a b c : Json) → IsTrue (is_le (json_cmp a b)) → IsTrue (is_le (json_cmp b c)) → group_of level a ≡ group_of level c
    → group_of level b ≡ group_of level a
