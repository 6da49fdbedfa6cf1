use Rattle.tree_laws.proofs.Prefixes.{node_once}
use Rattle.tree_laws.proofs.laws.nodes_are_spelled_once.Goals as goal

pub returns : goal.returns
returns g c = node_once g.T.Item.fits g.T.Item.spelled g.met.T.Item.one_spelling
