use Rattle.tree_tests.proofs.exchange_file_tests.leaves_have_the_bytes_of_the_format.Given as goal

abbrev pub ghosts-exchange_five : goal.ghosts-exchange_five
ghosts-exchange_five a = record { name = a.blank.name; parts = a.blank.parts }
