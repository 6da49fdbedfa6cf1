use Rattle.std.proofs.Common.{vec_len}
use Rattle.reduce_tree.proofs.builder.+hand.Given as goal

abbrev pub decreases-hand : goal.decreases-hand
decreases-hand g l = vec_len l.rows.now
