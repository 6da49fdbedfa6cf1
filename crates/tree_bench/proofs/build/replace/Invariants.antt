use Rattle.tree_bench.proofs.build.replace.Given as goal

abbrev pub invariant-loop : goal.invariant-loop
invariant-loop g l = record { ready : g.S.NodeSource.is_ready l.store; goes : g.S.NodeSource.goes l.fn.store l.store }
