-- The ends of a range and of a key's rows in a sorted list, in the list's own order.
use Rattle.std.specs.Prelude.{◌≡◌, ℕ, ◌<◌, ◌≤◌, List, Bool, true, false, not, length, slice_index_or, if◌then◌else◌}
use Rattle.std.specs.Ordering.{is_lt, is_le}
use Rattle.json_terms.specs.Json.{Json}
use Rattle.json_terms.specs.Seen.{json}
use Rattle.json_terms.specs.declared.term.Row.{Row}
use Rattle.raw_collation.specs.Collation.{json_cmp}
use Rattle.query_args.specs.declared.query.Query.{Query}
use Rattle.query_args.specs.Range.{passes_start, passes_end}

-- the row stands before the range
abbrev pub is_below_range : Query → Row → Bool
is_below_range query row = if query.descending then not (passes_end query (json row.key) row.id) else not (passes_start query (json row.key) row.id)

-- the row doesn't stand behind the range
abbrev pub is_up_to_range : Query → Row → Bool
is_up_to_range query row = if query.descending then passes_start query (json row.key) row.id else passes_end query (json row.key) row.id

-- the row's key is a lesser one
abbrev pub is_below_key : Json → Row → Bool
is_below_key key row = is_lt (json_cmp (json row.key) key)

-- the row's key isn't a greater one
abbrev pub is_up_to_key : Json → Row → Bool
is_up_to_key key row = is_le (json_cmp (json row.key) key)

-- the first so many elements pass the test, and no other does
pub record IsPrefix {X : Type 0} (test : X → Bool) (xs : List X) (count : ℕ) : Type 0 where
  pub within : count ≤ length xs
  pub passing : (k : ℕ) (d : X) → k < count → test (slice_index_or xs k d) ≡ true
  pub failing : (k : ℕ) (d : X) → count ≤ k → k < length xs → test (slice_index_or xs k d) ≡ false
