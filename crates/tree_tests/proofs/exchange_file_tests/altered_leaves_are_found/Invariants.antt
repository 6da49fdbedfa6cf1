use Rattle.tree_tests.proofs.exchange_file_tests.altered_leaves_are_found.Given as goal

abbrev pub ghosts-alter_five : goal.ghosts-alter_five
ghosts-alter_five a = record { name = a.blank.name; parts = a.blank.parts }
