use Rattle.index_trees.proofs.NoTrees.{empty_trees_hold_nothing}
use Rattle.index_trees.proofs.laws.empty_trees_hold_nothing.Goals as goal

pub returns : goal.returns
returns c = empty_trees_hold_nothing
