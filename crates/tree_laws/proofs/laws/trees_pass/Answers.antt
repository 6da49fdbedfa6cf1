use Rattle.tree_laws.specs.Values.{values_of}
use Rattle.tree_laws.proofs.Structure.{other_sums, tree_passes}
use Rattle.tree_laws.proofs.laws.trees_pass.Goals as goal

pub returns : goal.returns
returns g c first other there tree items pass h =
    let v = values_of g.M.Summer first in
    let w = values_of g.N.Summer other in
    tree_passes g.M.Unit.Item v w (other_sums v w pass) there there (λ at bytes is. is) tree items h
