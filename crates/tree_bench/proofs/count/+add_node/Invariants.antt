use Rattle.tree_bench.proofs.count.+add_node.Given as goal

abbrev pub decreases-add_node : goal.decreases-add_node
decreases-add_node g l = l.level

abbrev pub invariant-loop-child : goal.invariant-loop-child
invariant-loop-child g l = g.S.NodeSource.is_ready l.store
