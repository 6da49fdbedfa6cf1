use Rattle.std.proofs.Common.{sym}
use Rattle.tree_laws.specs.Values.{no_values}
use Rattle.tree_laws.proofs.Reached.{reached_fits, reached_there}
use Rattle.tree_laws.proofs.laws.places_of_bare_trees_have_nodes.Goals as goal

pub returns-clause-fit : goal.returns-clause-fit
returns-clause-fit g c there tree items at level count fill h r = reached_fits g.T.Item no_values there g.met.T.Item.one_spelling tree items h at level count fill r

pub returns-clause-items : goal.returns-clause-items
returns-clause-items g c there tree items at level count fill h r =
    let k = reached_there g.T.Item no_values there g.met.T.Item.one_spelling tree items h at level count fill r in
    (k.items, sym k.counted, k.stands)
