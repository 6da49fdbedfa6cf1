-- The trees of an index as lists.
use Rattle.std.specs.Prelude.{List}
use Rattle.tree_laws.specs.declared.tree.Tree.{Tree}
use Rattle.index_trees.specs.declared.trees.IndexTrees.{IndexTrees}

-- the trees of the views, and that of the back-index
abbrev pub seen : IndexTrees → List Tree × Tree
seen trees = (trees.views.items, trees.back)
