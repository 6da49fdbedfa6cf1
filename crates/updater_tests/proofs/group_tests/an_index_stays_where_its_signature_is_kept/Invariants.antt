use Rattle.updater_tests.proofs.group_tests.an_index_stays_where_its_signature_is_kept.Given as goal

abbrev pub ghosts-keep_and_remove : goal.ghosts-keep_and_remove
ghosts-keep_and_remove a = record { name = a.blank.name; parts = a.blank.parts }
