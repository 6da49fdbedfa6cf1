use Rattle.index_trees.proofs.Holding.{trees_are_in_order, trees_rise}
use Rattle.index_trees.proofs.laws.trees_rise.Goals as goal

pub returns : goal.returns
returns c = record { rise = trees_rise; order = trees_are_in_order }
