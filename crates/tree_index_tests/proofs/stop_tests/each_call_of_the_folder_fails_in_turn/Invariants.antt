use Rattle.tree_index_tests.proofs.stop_tests.each_call_of_the_folder_fails_in_turn.Given as goal

abbrev pub ghosts-all_fail_well : goal.ghosts-all_fail_well
ghosts-all_fail_well a = record { name = a.blank.name; parts = a.blank.parts }
