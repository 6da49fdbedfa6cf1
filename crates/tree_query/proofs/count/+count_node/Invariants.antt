use Rattle.tree_query.proofs.count.+count_node.Given as goal

abbrev pub decreases-count_node : goal.decreases-count_node
decreases-count_node g l = l.level
