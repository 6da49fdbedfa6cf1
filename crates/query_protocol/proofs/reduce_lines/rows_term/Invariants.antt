-- the rows so far
use Rattle.std.proofs.Common.{◌≡◌, map, take}
use Rattle.view_ports.specs.Commands.{reduce_row_term}
use Rattle.view_ports.specs.ReduceRow.{reduce_row}
use Rattle.query_protocol.proofs.reduce_lines.rows_term.Given as goal

abbrev pub invariant-loop-row : goal.invariant-loop-row
invariant-loop-row l = l.terms ≡ map reduce_row_term (map reduce_row (take l.row-index l.rows))
