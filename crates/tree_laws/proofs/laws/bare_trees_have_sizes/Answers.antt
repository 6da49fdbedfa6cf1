use Rattle.tree_laws.specs.Values.{no_values}
use Rattle.tree_laws.proofs.Sizes.{tree_size}
use Rattle.tree_laws.proofs.laws.bare_trees_have_sizes.Goals as goal

pub returns : goal.returns
returns g c there tree items h few = tree_size g.T.Item no_values there tree items h few
