use Rattle.tree_tests.proofs.query_tests.ranges_by_chance.Given as goal

abbrev pub ghosts-ask_by_chance : goal.ghosts-ask_by_chance
ghosts-ask_by_chance a = record { name = a.blank.name; parts = a.blank.parts }
