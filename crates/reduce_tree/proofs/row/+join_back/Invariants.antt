use Rattle.reduce_tree.proofs.row.+join_back.Given as goal

abbrev pub decreases-join_back : goal.decreases-join_back
decreases-join_back g l = l.level
