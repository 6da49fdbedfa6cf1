-- the rows so far and those of the elements that are left are all rows
use Rattle.std.proofs.Common.{◌≡◌, ◌++◌, drop, map, option_map}
use Rattle.json_terms.specs.Json.{items_of}
use Rattle.json_terms.specs.Seen.{json}
use Rattle.view_ports.specs.ReduceRow.{reduce_row}
use Rattle.view_ports.specs.Commands.{reduce_rows_of}
use Rattle.view_ports.proofs.reduce_rows.read_rows.Given as goal

abbrev pub invariant-loop-term : goal.invariant-loop-term
invariant-loop-term l =
    option_map (λ rest. map reduce_row l.rows.items ++ rest) (reduce_rows_of (items_of (map json (drop l.term-index l.terms)))) ≡ reduce_rows_of (items_of (map json l.terms))
