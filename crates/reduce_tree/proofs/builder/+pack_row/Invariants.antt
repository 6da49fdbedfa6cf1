use Rattle.tree_laws.specs.Nodes.{entries}
use Rattle.reduce_tree.proofs.builder.+pack_row.Given as goal

abbrev pub decreases-pack_row : goal.decreases-pack_row
decreases-pack_row g l = entries l.node
