use Rattle.tree_index_tests.proofs.damage_tests.altered_nodes_are_found.Given as goal

abbrev pub ghosts-find_in_nodes : goal.ghosts-find_in_nodes
ghosts-find_in_nodes a = record { name = a.blank.name; parts = a.blank.parts }
