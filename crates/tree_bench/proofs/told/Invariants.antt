use Rattle.tree_bench.proofs.told.Given as goal

abbrev pub ghosts-run_in_a_file : goal.ghosts-run_in_a_file
ghosts-run_in_a_file a = record { name = a.blank.name; parts = a.blank.parts }

abbrev pub ghosts-run_in_memory : goal.ghosts-run_in_memory
ghosts-run_in_memory a = record { name = a.blank.name; parts = a.blank.parts }
