use Rattle.tree_tests.proofs.noting_tests.leaves_of_batches_are_asked_for.Given as goal

abbrev pub ghosts-note_batches : goal.ghosts-note_batches
ghosts-note_batches a = record { name = a.blank.name; parts = a.blank.parts }
