use Rattle.std.proofs.Common.{vec_len}
use Rattle.tree_query.proofs.walk.+next_child.Given as goal

abbrev pub decreases-next_child : goal.decreases-next_child
decreases-next_child g l = vec_len l.rows.now
