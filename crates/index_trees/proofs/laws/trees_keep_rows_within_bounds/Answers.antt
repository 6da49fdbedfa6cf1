use Rattle.index_trees.proofs.Holding.{trees_keep_rows_within_bounds}
use Rattle.index_trees.proofs.laws.trees_keep_rows_within_bounds.Goals as goal

pub returns : goal.returns
returns c = trees_keep_rows_within_bounds
