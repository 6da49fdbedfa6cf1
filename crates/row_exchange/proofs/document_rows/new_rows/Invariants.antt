use Rattle.std.specs.Prelude.{◌≡◌, take}
use Rattle.row_exchange.specs.Replaced.{new_rows}
use Rattle.row_exchange.proofs.document_rows.new_rows.Given as goal

abbrev pub invariant-loop-change : goal.invariant-loop-change
invariant-loop-change l = l.rows.items ≡ new_rows (take l.change-index l.changes) l.view
