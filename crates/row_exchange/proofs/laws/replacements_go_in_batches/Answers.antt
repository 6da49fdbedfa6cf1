use Rattle.row_exchange.proofs.Updating.{replacements_go_in_batches, replacements_go_in_pages, replacements_of_nothing}
use Rattle.row_exchange.proofs.laws.replacements_go_in_batches.Goals as goal

pub returns : goal.returns
returns c = record { batches = replacements_go_in_batches; pages = replacements_go_in_pages; nothing = replacements_of_nothing }
