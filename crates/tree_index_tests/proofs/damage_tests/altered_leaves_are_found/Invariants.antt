use Rattle.tree_index_tests.proofs.damage_tests.altered_leaves_are_found.Given as goal

abbrev pub ghosts-find_in_leaves : goal.ghosts-find_in_leaves
ghosts-find_in_leaves a = record { name = a.blank.name; parts = a.blank.parts }
