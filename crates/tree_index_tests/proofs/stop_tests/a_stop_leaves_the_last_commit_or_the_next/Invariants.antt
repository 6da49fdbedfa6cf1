use Rattle.tree_index_tests.proofs.stop_tests.a_stop_leaves_the_last_commit_or_the_next.Given as goal

abbrev pub ghosts-all_stop_well : goal.ghosts-all_stop_well
ghosts-all_stop_well a = record { name = a.blank.name; parts = a.blank.parts }
