-- The rows that an index may hold.
use Rattle.std.specs.Prelude.{ℕ, ◌^◌, List, length, Bool, ◌&&◌, nat_lt}
use Rattle.json_terms.specs.Seen.{json}
use Rattle.json_terms.specs.declared.term.Row.{Row}
use Rattle.query_protocol.specs.Replies.{is_within_bounds}

-- the id is short enough for a record
abbrev pub is_id : List ℕ → Bool
is_id id = nat_lt (length id) (2 ^ 32)

-- the row has such an id, and its key and its value are within the bounds of those that are emitted
abbrev pub is_row : Row → Bool
is_row row = is_id row.id && (is_within_bounds (json row.key) && is_within_bounds (json row.value))
