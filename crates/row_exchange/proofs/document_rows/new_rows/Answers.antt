-- One document's rows follow those of the others.
use Rattle.std.specs.Prelude.{◌++◌, [], List, ℕ, take, slice_index_or}
use Rattle.std.proofs.Common.{ap, sym, ◌∙◌}
use Rattle.json_terms.specs.declared.term.Row.{Row}
use Rattle.view_model.specs.Rows.{rows_from}
use Rattle.row_exchange.specs.declared.doc_rows.DocRows.{DocRows}
use Rattle.row_exchange.specs.Replaced.{new_rows}
use Rattle.row_exchange.proofs.Each.{take_next}
use Rattle.row_exchange.proofs.NewRows.{new_rows_push}
use Rattle.row_exchange.proofs.document_rows.new_rows.Goals as goal

pub loop-change-preserved : goal.loop-change-preserved
loop-change-preserved c =
    let done : List DocRows = take c.loop-change.change-index c.args.changes.now in
    let last : DocRows = c.change-item.result in
    let view : ℕ = c.args.view in
    c.in_ok-add_document.ensures
    ∙ ap (λ (id : List ℕ). c.loop-change.rows.items ++ rows_from 0 id (slice_index_or last.rows view [])) c.as_str.ensures
    ∙ ap (λ (rows : List Row). rows ++ rows_from 0 last.id (slice_index_or last.rows view [])) c.loop-change.invariant
    ∙ sym (new_rows_push done last view)
    ∙ ap (λ l. new_rows l view) (sym (take_next c.args.changes.now c.loop-change.change-index last c.loop-change-test.true c.change-item.is))
