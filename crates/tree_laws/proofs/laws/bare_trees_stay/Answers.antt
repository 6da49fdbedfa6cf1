use Rattle.tree_laws.specs.Values.{no_values}
use Rattle.tree_laws.proofs.Structure.{same_sums, tree_passes}
use Rattle.tree_laws.proofs.laws.bare_trees_stay.Goals as goal

pub returns : goal.returns
returns g c old new tree items extends h = tree_passes g.T.Item no_values no_values (same_sums no_values) old new extends tree items h
