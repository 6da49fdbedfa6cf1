use Rattle.tree_tests.proofs.exchange_tests.each_call_of_an_exchange_fails_in_turn.Given as goal

abbrev pub ghosts-fail_in_turn : goal.ghosts-fail_in_turn
ghosts-fail_in_turn g a = record { name = a.blank.name; parts = a.blank.parts }
