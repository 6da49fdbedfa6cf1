-- The rows of a document are no log line.
use Rattle.std.proofs.Common.{◌∙◌, ℕ, Vec, Global, sym}
use Rattle.std.proofs.lemmas.Result.{IfOk-weaker}
use Rattle.view_ports.specs.Field.{field}
use Rattle.view_ports.specs.Functions.{lists_term}
use Rattle.view_ports.specs.Honest.{IsTextOf, rows_of}
use Rattle.view_ports.proofs.Fields.{Answers-map, is_log-read, lists_are_no_log}
use Rattle.view_ports.proofs.field_session.FieldSessionServerSession.answer.Goals as goal

pub returns-in-MapDoc-clause-answers : goal.returns-in-MapDoc-clause-answers
returns-in-MapDoc-clause-answers c =
    let sources = c.as_slice.result.now in
    let document = c.in-MapDoc.document in
    rw (sym c.in_ok-read_command.ensures.command ∙ c.in-MapDoc.is, ← c.as_slice.ensures.value) (IfOk-weaker _ _ _ (λ (text : Vec ℕ Global) (is : IsTextOf (lists_term (rows_of field sources document)) text.items). Answers-map sources document text.items is) c.map_document.ensures)

pub returns-in-MapDoc-clause-silent : goal.returns-in-MapDoc-clause-silent
returns-in-MapDoc-clause-silent c =
    let lists = rows_of field c.as_slice.result.now c.in-MapDoc.document in
    IfOk-weaker _ _ _ (λ (text : Vec ℕ Global) (is : IsTextOf (lists_term lists) text.items). is_log-read text.items (lists_term lists) is.spelled ∙ lists_are_no_log lists) c.map_document.ensures
