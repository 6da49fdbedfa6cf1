use Rattle.std.proofs.Common.{◌≡◌, ◌∙◌, map}
use Rattle.view_ports.specs.Field.{field}
use Rattle.view_ports.specs.Functions.{rows_term}
use Rattle.view_ports.specs.Honest.{rows_of}
use Rattle.view_ports.proofs.Fields.{rows_depth, rows_each}
use Rattle.view_ports.proofs.field_session.map_document.Goals as goal

pub answer_text-requires : goal.answer_text-requires
answer_text-requires c =
    rw (c.in_ok-lists.ensures, rows_each c.args.sources.now c.args.document) (rows_depth c.args.sources.now c.args.document c.requires)

pub returns : goal.returns
returns c =
    let same : c.in_ok-lists.lists ≡ map rows_term (rows_of field c.args.sources.now c.args.document) = c.in_ok-lists.ensures ∙ rows_each c.args.sources.now c.args.document in
    rw (← same) c.answer_text.ensures
