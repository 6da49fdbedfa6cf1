use Rattle.tree_tests.proofs.indexes.walked.Given as goal

abbrev pub invariant-loop : goal.invariant-loop
invariant-loop g l = g.S.NodeSource.is_ready l.store
