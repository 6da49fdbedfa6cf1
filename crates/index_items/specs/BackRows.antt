-- Where the rows of a document stand, as a tree keeps it, and the bytes of it. The low byte of a number comes first.
use Rattle.std.specs.Prelude.{ℕ, ◌<◌, ◌^◌, List, ◌++◌, All, length}
use Rattle.std.specs.List.{flat_map}
use Rattle.json_terms.specs.Seen.{json}
use Rattle.json_terms.specs.declared.term.Term.{Term}
use Rattle.term_codec.specs.Spelling.{spelling, count_bytes, short_bytes}
use Rattle.view_ports.specs.Functions.{IsWithinBounds}
use Rattle.index_items.specs.declared.back_row.BackRow.{BackRow}

-- the key is within the bounds of what a query server may send
abbrev pub IsKeptKey : Term → Type 0
IsKeptKey key = IsWithinBounds (json key)

-- the row is within the bounds of what a tree keeps
pub record IsKeptRow (row : BackRow) : Type 0 where
  pub view : row.view < 2 ^ 16
  pub key : IsKeptKey row.key
  pub place : row.place < 2 ^ 32

-- each row is, and their number fits 4 bytes
pub record AreKeptRows (rows : List BackRow) : Type 0 where
  pub few : length rows < 2 ^ 32
  pub each : All IsKeptRow rows

-- its spelling
abbrev pub key_bytes : Term → List ℕ
key_bytes key = spelling (json key)

-- the view, the key and the place
abbrev pub row_bytes : BackRow → List ℕ
row_bytes row = short_bytes row.view ++ (key_bytes row.key ++ count_bytes row.place)

-- how many rows there are, and then each of them
abbrev pub rows_bytes : List BackRow → List ℕ
rows_bytes rows = count_bytes (length rows) ++ flat_map row_bytes rows
