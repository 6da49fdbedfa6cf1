-- The rows that a tree keeps, their order and their bytes. The low byte of a number comes first.
use Rattle.std.specs.Prelude.{ℕ, ◌<◌, ◌≤◌, ◌^◌, List, ◌++◌, length, IsUtf8}
use Rattle.std.specs.declared.cmp.Ordering.{Ordering}
use Rattle.std.specs.Ordering.{nat_cmp, ordering_then}
use Rattle.std.specs.Cmp.Lexicographic.{slice_cmp}
use Rattle.json_terms.specs.Seen.{json}
use Rattle.json_terms.specs.declared.term.Row.{Row}
use Rattle.raw_collation.specs.Collation.{json_cmp}
use Rattle.term_codec.specs.Spelling.{spelling, count_bytes, text_bytes}
use Rattle.view_ports.specs.Functions.{IsWithinBounds}

-- An id has so many bytes at most.
abbrev pub id_limit : ℕ
id_limit = 524288

-- the row is within the bounds of what a tree keeps
pub record IsKept (row : Row) : Type 0 where
  pub key : IsWithinBounds (json row.key)
  pub value : IsWithinBounds (json row.value)
  pub utf8 : IsUtf8 row.id
  pub short : length row.id ≤ id_limit
  pub place : row.place < 2 ^ 32

-- rows go by key, then by the id of their document, then by place; their values don't count
abbrev pub item_cmp : Row → Row → Ordering
item_cmp a b =
    ordering_then (json_cmp (json a.key) (json b.key))
    (ordering_then (slice_cmp nat_cmp a.id b.id)
    (nat_cmp a.place b.place))

-- the key, the id, the place and the value
abbrev pub item_bytes : Row → List ℕ
item_bytes row = spelling (json row.key) ++ (text_bytes row.id ++ (count_bytes row.place ++ spelling (json row.value)))
