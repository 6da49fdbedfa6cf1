use Rattle.reduce_tree.proofs.Passing.{built_passes}
use Rattle.reduce_tree.proofs.builder.builders_pass.Goals as goal

pub returns : goal.returns
returns g c first other there builder items pass h = built_passes g.M.Unit.Item g.M.Summer g.N.Summer first other pass there builder items h
