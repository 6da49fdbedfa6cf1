use Rattle.tree_tests.proofs.exchange_tests.one_document_of_many_is_changed.Given as goal

abbrev pub ghosts-change_one : goal.ghosts-change_one
ghosts-change_one a = record { name = a.blank.name; parts = a.blank.parts }
