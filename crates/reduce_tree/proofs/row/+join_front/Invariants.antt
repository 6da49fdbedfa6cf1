use Rattle.reduce_tree.proofs.row.+join_front.Given as goal

abbrev pub decreases-join_front : goal.decreases-join_front
decreases-join_front g l = l.level
