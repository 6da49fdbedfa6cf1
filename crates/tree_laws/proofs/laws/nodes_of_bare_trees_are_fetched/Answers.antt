use Rattle.tree_laws.specs.Trees.{Has}
use Rattle.tree_laws.specs.Values.{no_values}
use Rattle.tree_laws.proofs.Parts.{same_filled, same_node}
use Rattle.tree_laws.proofs.laws.nodes_of_bare_trees_are_fetched.Goals as goal

pub returns : goal.returns
returns g c there fill level at items node stands fits stand =
    let i = g.T.Item in
    let once = g.met.T.Item.one_spelling in
    (same_node i no_values there once (Has i no_values there level) fill at items node fits stand stands, same_filled i no_values there once (Has i no_values there level) fill at items node fits stand stands)
