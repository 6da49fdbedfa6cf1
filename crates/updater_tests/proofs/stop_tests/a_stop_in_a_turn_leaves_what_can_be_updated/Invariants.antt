use Rattle.updater_tests.proofs.stop_tests.a_stop_in_a_turn_leaves_what_can_be_updated.Given as goal

abbrev pub ghosts-stop_in_script : goal.ghosts-stop_in_script
ghosts-stop_in_script a a' = record { name = a'.blank.name; parts = a'.blank.parts }
