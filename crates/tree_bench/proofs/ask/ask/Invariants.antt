use Rattle.tree_bench.proofs.ask.ask.Given as goal

abbrev pub invariant-loop : goal.invariant-loop
invariant-loop g l = g.S.NodeSource.is_ready l.store
