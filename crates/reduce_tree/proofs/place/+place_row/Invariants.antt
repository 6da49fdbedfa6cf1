use Rattle.tree_laws.specs.Nodes.{entries}
use Rattle.reduce_tree.proofs.place.+place_row.Given as goal

abbrev pub decreases-place_row : goal.decreases-place_row
decreases-place_row g l = entries l.node
