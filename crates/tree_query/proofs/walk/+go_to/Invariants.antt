use Rattle.tree_query.proofs.walk.+go_to.Given as goal

abbrev pub decreases-go_to : goal.decreases-go_to
decreases-go_to g l = l.level
