use Rattle.updater_tests.proofs.update_tests.an_update_shows_what_was_written_and_asks_for_nothing_else.Given as goal

abbrev pub ghosts-update_all : goal.ghosts-update_all
ghosts-update_all a = record { name = a.blank.name; parts = a.blank.parts }
