use Rattle.row_exchange.proofs.Updating.{replacements_are_updates}
use Rattle.row_exchange.proofs.laws.replacements_are_updates.Goals as goal

pub returns : goal.returns
returns c = replacements_are_updates
