use Rattle.base_tests.proofs.tree_laws_tests.nodes_that_fit_are_fetched.Given as goal

abbrev pub ghosts-fetch_all : goal.ghosts-fetch_all
ghosts-fetch_all a = record { name = a.blank.name; parts = a.blank.parts }
