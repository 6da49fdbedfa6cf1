use Rattle.tree_tests.proofs.query_tests.ranges_at_the_ends_of_nodes.Given as goal

abbrev pub ghosts-ask_sizes : goal.ghosts-ask_sizes
ghosts-ask_sizes a = record { name = a.blank.name; parts = a.blank.parts }
