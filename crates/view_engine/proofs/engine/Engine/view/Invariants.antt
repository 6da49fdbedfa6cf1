-- The steps of an index are counted under the name of the blank that is lent.
use Rattle.view_engine.proofs.engine.Engine.view.Given as goal

abbrev pub ghosts-bring : goal.ghosts-bring
ghosts-bring g a = record { name = a.blank.name; parts = a.blank.parts }

abbrev pub ghosts-show : goal.ghosts-show
ghosts-show g a = record { name = a.blank.name; parts = a.blank.parts }
