use Rattle.tree_index_tests.proofs.damage_tests.altered_root_records_are_found.Given as goal

abbrev pub ghosts-open_altered : goal.ghosts-open_altered
ghosts-open_altered a = record { name = a.blank.name; parts = a.blank.parts }
