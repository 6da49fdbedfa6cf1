use Rattle.index_trees.proofs.NoTrees.{empty_trees_have_room, empty_trees_have_sizes}
use Rattle.index_trees.proofs.laws.empty_trees_have_sizes.Goals as goal

pub returns : goal.returns
returns c = record { sizes = empty_trees_have_sizes; room = empty_trees_have_room }
