use Rattle.tree_bench.proofs.build.build.Given as goal

abbrev pub invariant-loop-number : goal.invariant-loop-number
invariant-loop-number g l = record { ready : g.S.NodeSource.is_ready l.store; goes : g.S.NodeSource.goes l.fn.store l.store }
