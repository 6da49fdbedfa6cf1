use Rattle.tree_laws.specs.Values.{values_of}
use Rattle.tree_laws.proofs.Sizes.{tree_size}
use Rattle.tree_laws.proofs.laws.trees_have_sizes.Goals as goal

pub returns : goal.returns
returns g c first there tree items h few = tree_size g.M.Unit.Item (values_of g.M.Summer first) there tree items h few
