-- The rows from the last writes of a history are those of the view over it.
use Rattle.std.proofs.Common.{ap, sym, ◌∙◌}
use Rattle.raw_collation.specs.Sorting.{sorted_rows}
use Rattle.design_docs.specs.History.{mapped_after}
use Rattle.map_server.specs.Pick.{pick}
use Rattle.view_model.proofs.SortedRows.{emitted_rows-are}
use Rattle.view_model.proofs.Updates.{rows_are_by_sequence}
use Rattle.fresh_view.specs.Laws.{FreshRowsAreTheViews}

pub fresh_rows-views : FreshRowsAreTheViews
fresh_rows-views source history = ap sorted_rows (sym (emitted_rows-are pick source (mapped_after 0 history))) ∙ rows_are_by_sequence pick source history
