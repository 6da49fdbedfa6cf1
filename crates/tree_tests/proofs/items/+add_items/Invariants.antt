use Rattle.tree_tests.proofs.items.+add_items.Given as goal

abbrev pub decreases-add_items : goal.decreases-add_items
decreases-add_items g l = l.level

abbrev pub invariant-loop-child : goal.invariant-loop-child
invariant-loop-child g l = g.S.NodeSource.is_ready l.store
