use Rattle.updater_tests.proofs.stop_tests.a_stop_among_the_nodes_of_an_update_leaves_the_last_commit.Given as goal

abbrev pub ghosts-stop_in_both : goal.ghosts-stop_in_both
ghosts-stop_in_both a a' = record { name = a'.blank.name; parts = a'.blank.parts }
