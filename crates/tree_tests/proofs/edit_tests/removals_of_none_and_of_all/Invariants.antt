use Rattle.tree_tests.proofs.edit_tests.removals_of_none_and_of_all.Given as goal

abbrev pub ghosts-remove_absent : goal.ghosts-remove_absent
ghosts-remove_absent a = record { name = a.blank.name; parts = a.blank.parts }
