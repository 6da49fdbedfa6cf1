use Rattle.std.specs.Prelude.{◌≡◌, replicate}
use Rattle.index_trees.specs.Laws.{no_tree}
use Rattle.tree_index.proofs.trees.no_trees.Given as goal

abbrev pub invariant-loop-view : goal.invariant-loop-view
invariant-loop-view l = l.trees.items ≡ replicate l._view no_tree
