use Rattle.tree_laws.proofs.Prefixes.{node_prefix_free}
use Rattle.tree_laws.proofs.laws.nodes_are_prefix_free.Goals as goal

pub returns : goal.returns
returns g c = node_prefix_free g.T.Item.fits g.T.Item.spelled g.met.T.Item.one_spelling
