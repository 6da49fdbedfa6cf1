use Rattle.tree_index_tests.proofs.run_tests.requests_show_what_is_written.Given as goal

abbrev pub ghosts-run_all : goal.ghosts-run_all
ghosts-run_all a = record { name = a.blank.name; parts = a.blank.parts }
