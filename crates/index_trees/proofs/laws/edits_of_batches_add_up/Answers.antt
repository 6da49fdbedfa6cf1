use Rattle.index_trees.proofs.Batches.{edits_of_batches_add_up}
use Rattle.index_trees.proofs.laws.edits_of_batches_add_up.Goals as goal

pub returns : goal.returns
returns c = edits_of_batches_add_up
