use Rattle.tree_tests.proofs.batch_tests.batches_in_changing_trees.Given as goal

abbrev pub ghosts-run_series : goal.ghosts-run_series
ghosts-run_series g a = record { name = a.blank.name; parts = a.blank.parts }
