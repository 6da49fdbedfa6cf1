use Rattle.tree_tests.proofs.exchange_tests.exchanges_one_after_another.Given as goal

abbrev pub ghosts-play_once : goal.ghosts-play_once
ghosts-play_once g a = record { name = a.blank.name; parts = a.blank.parts }
