use Rattle.reduce_tree.proofs.Sizes.{has_size}
use Rattle.reduce_tree.proofs.builder.packed_trees_have_their_size.Goals as goal

pub returns : goal.returns
returns g c first there tree items size lawful has packed = has_size g.M.Unit.Item g.M.Summer first g.met.M.Unit.Item.one_spelling lawful there tree items size has packed
