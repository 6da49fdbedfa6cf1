use Rattle.updater_tests.proofs.folder_tests.an_update_that_met_a_failing_call_is_made_good.Given as goal

abbrev pub ghosts-fail_in_turn : goal.ghosts-fail_in_turn
ghosts-fail_in_turn a a' = record { name = a'.blank.name; parts = a'.blank.parts }
