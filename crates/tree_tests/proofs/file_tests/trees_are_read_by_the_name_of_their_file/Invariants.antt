use Rattle.tree_tests.proofs.file_tests.trees_are_read_by_the_name_of_their_file.Given as goal

abbrev pub ghosts-walk_in_memory : goal.ghosts-walk_in_memory
ghosts-walk_in_memory a = record { name = a.blank.name; parts = a.blank.parts }
