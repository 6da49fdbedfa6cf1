use Rattle.std.proofs.Common.{◌≡◌, Ok, take}
use Rattle.index_trees.specs.Edited.{EditsViews}
use Rattle.index_trees.proofs.exchanging.edit_views.Given as goal

abbrev pub invariant-loop-tree : goal.invariant-loop-tree
invariant-loop-tree g l =
    (l.view ≡ l.tree-index)
    × EditsViews g.S.NodeSource g.C.Servers l.changes l.olds l.initial.store l.store l.initial.summers l.summers l.initial.steps l.steps (take l.tree-index l.trees) (Ok l.edited.items)
