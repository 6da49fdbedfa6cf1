-- the rows of the functions so far
use Rattle.std.proofs.Common.{◌≡◌, map, take}
use Rattle.json_terms.specs.Find.{member_of}
use Rattle.json_terms.specs.Seen.{json}
use Rattle.view_ports.specs.FieldRows.{emitted}
use Rattle.view_ports.specs.Functions.{rows_term}
use Rattle.view_ports.proofs.field_session.rows_of_each.Given as goal

abbrev pub invariant-loop-source : goal.invariant-loop-source
invariant-loop-source l =
    l.lists ≡ map (λ source. rows_term (emitted (member_of source (json l.document)))) (take l.source-index l.sources)
