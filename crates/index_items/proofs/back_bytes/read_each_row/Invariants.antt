use Rattle.std.proofs.Common.{◌≡◌, ◌++◌, All, length}
use Rattle.std.specs.List.{flat_map}
use Rattle.index_items.specs.BackRows.{IsKeptRow, row_bytes}
use Rattle.index_items.proofs.back_bytes.read_each_row.Given as goal

-- these rows were taken, and the rest is left
abbrev pub invariant-loop-row : goal.invariant-loop-row
invariant-loop-row l = record {
  bytes : l.bytes ≡ flat_map row_bytes l.rows.items ++ l.rest;
  count : length l.rows.items ≡ l._row;
  each : All IsKeptRow l.rows.items;
}
