use Rattle.index_trees.proofs.Holding.{trees_have_sizes}
use Rattle.index_trees.proofs.laws.trees_have_sizes.Goals as goal

pub returns : goal.returns
returns c = trees_have_sizes
