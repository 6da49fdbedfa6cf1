use Rattle.std.proofs.Common.{◌≡◌, take}
use Rattle.index_items.proofs.back_row.copy_rows.Given as goal

abbrev pub invariant-loop-row : goal.invariant-loop-row
invariant-loop-row l = l.list.items ≡ take l.row-index l.rows
