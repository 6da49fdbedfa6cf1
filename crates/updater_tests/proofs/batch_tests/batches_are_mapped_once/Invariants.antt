use Rattle.updater_tests.proofs.batch_tests.batches_are_mapped_once.Given as goal

abbrev pub ghosts-map_batches : goal.ghosts-map_batches
ghosts-map_batches a = record { name = a.blank.name; parts = a.blank.parts }
