use Rattle.reduce_tree.proofs.Made.{made}
use Rattle.reduce_tree.proofs.edit.edits_are_made.Goals as goal

pub returns : goal.returns
returns g c edits items a s = made g.T.Item.order g.met.T.Item.is_total edits items a s
