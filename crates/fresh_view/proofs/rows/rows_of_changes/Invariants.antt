use Rattle.std.specs.Prelude.{◌≡◌, take}
use Rattle.std.specs.List.{flat_map}
use Rattle.fresh_view.specs.Programs.{program_rows}
use Rattle.fresh_view.proofs.Changes.{left}
use Rattle.fresh_view.proofs.rows.rows_of_changes.Given as goal

-- the rows of the changes so far
abbrev pub invariant-loop-change : goal.invariant-loop-change
invariant-loop-change l = l.rows.items ≡ flat_map (program_rows l.program) (left (take l.change-index l.changes))
