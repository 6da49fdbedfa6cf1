use Rattle.tree_tests.proofs.edit_tests.one_edit_of_many_rows.Given as goal

abbrev pub ghosts-edit_1100 : goal.ghosts-edit_1100
ghosts-edit_1100 a = record { name = a.blank.name; parts = a.blank.parts }
