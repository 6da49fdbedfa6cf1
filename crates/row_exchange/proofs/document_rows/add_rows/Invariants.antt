use Rattle.std.proofs.Common.{◌≡◌, ◌++◌, map, drop}
use Rattle.json_terms.specs.Emitted.{key_value}
use Rattle.view_model.specs.Rows.{rows_from}
use Rattle.row_exchange.proofs.document_rows.add_rows.Given as goal

-- the rows so far and those of the emissions that are left are all
abbrev pub invariant-loop-place : goal.invariant-loop-place
invariant-loop-place l = l.rows.items ++ rows_from l.place l.id (map key_value (drop l.place l.emissions)) ≡ l.initial.rows.items ++ rows_from 0 l.id (map key_value l.emissions)
