use Rattle.tree_tests.proofs.pack_tests.lists_are_packed.Given as goal

abbrev pub ghosts-pack : goal.ghosts-pack
ghosts-pack a = record { name = a.blank.name; parts = a.blank.parts }
