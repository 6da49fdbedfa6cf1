use Rattle.tree_query.proofs.range.+inside.Given as goal

abbrev pub decreases-inside : goal.decreases-inside
decreases-inside g l = l.level
