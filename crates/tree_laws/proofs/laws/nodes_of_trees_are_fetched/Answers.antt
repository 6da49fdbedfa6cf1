use Rattle.tree_laws.specs.Trees.{Has}
use Rattle.tree_laws.specs.Values.{values_of}
use Rattle.tree_laws.proofs.Parts.{same_filled, same_node}
use Rattle.tree_laws.proofs.laws.nodes_of_trees_are_fetched.Goals as goal

pub returns : goal.returns
returns g c first there fill level at items node stands fits stand =
    let i = g.M.Unit.Item in
    let v = values_of g.M.Summer first in
    let once = g.met.M.Unit.Item.one_spelling in
    (same_node i v there once (Has i v there level) fill at items node fits stand stands, same_filled i v there once (Has i v there level) fill at items node fits stand stands)
