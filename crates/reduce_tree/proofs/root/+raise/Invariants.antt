use Rattle.tree_laws.specs.Nodes.{entries}
use Rattle.reduce_tree.proofs.root.+raise.Given as goal

abbrev pub decreases-raise : goal.decreases-raise
decreases-raise g l = entries l.node
