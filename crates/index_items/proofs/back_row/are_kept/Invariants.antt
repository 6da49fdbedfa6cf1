use Rattle.std.proofs.Common.{All, take}
use Rattle.index_items.specs.BackRows.{IsKeptRow}
use Rattle.index_items.proofs.back_row.are_kept.Given as goal

abbrev pub invariant-loop-row : goal.invariant-loop-row
invariant-loop-row l = All IsKeptRow (take l.row-index l.rows)
