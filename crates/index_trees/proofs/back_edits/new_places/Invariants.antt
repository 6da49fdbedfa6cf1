use Rattle.std.proofs.Common.{◌≡◌, ◌++◌, drop}
use Rattle.index_trees.specs.Edits.{new_places}
use Rattle.index_trees.proofs.back_edits.new_places.Given as goal

-- the places so far and those in the views that are left are all
abbrev pub invariant-loop-view : goal.invariant-loop-view
invariant-loop-view l = l.places.items ++ new_places l.view l.id (drop l.view l.lists) ≡ new_places 0 l.id l.lists
