use Rattle.tree_tests.proofs.file_tests.a_stop_leaves_a_committed_tree.Given as goal

abbrev pub ghosts-stop_at_each_call : goal.ghosts-stop_at_each_call
ghosts-stop_at_each_call g a = record { name = a.blank.name; parts = a.blank.parts }
