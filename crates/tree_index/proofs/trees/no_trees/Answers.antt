use Rattle.std.proofs.Common.{◌∙◌, ◌++◌, ◌∷◌, []}
use Rattle.std.proofs.lemmas.List.{replicate_more}
use Rattle.index_trees.specs.Laws.{no_tree}
use Rattle.tree_index.proofs.trees.no_trees.Goals as goal

pub loop-view-preserved : goal.loop-view-preserved
loop-view-preserved c = c.in_ok-push.ensures.items ∙ (λ i. c.loop-view.invariant i ++ c.no_tree.ensures i ∷ []) ∙ replicate_more c.loop-view._view no_tree
