use Rattle.tree_laws.specs.Values.{values_of}
use Rattle.tree_laws.proofs.Structure.{same_sums, tree_passes}
use Rattle.tree_laws.proofs.laws.trees_stay.Goals as goal

pub returns : goal.returns
returns g c first old new tree items extends h =
    let v = values_of g.M.Summer first in
    tree_passes g.M.Unit.Item v v (same_sums v) old new extends tree items h
