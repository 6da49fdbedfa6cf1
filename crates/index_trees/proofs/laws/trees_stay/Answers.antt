use Rattle.index_trees.proofs.Holding.{trees_hold_without, trees_stay}
use Rattle.index_trees.proofs.laws.trees_stay.Goals as goal

pub returns : goal.returns
returns c = record { later = trees_stay; without = trees_hold_without }
