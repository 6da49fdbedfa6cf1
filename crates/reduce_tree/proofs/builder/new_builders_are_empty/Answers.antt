use Rattle.reduce_tree.proofs.Stacks.{built_new}
use Rattle.reduce_tree.proofs.builder.new_builders_are_empty.Goals as goal

pub returns : goal.returns
returns g c first there builder h = built_new g.M.Unit.Item g.M.Summer first there builder h
