use Rattle.index_trees.proofs.ReadBack.{all_rows_read}
use Rattle.index_trees.proofs.laws.trees_tell_rows.Goals as goal

pub returns : goal.returns
returns c = all_rows_read
