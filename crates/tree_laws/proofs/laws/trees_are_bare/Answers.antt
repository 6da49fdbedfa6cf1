use Rattle.tree_laws.specs.declared.tree.Fill.TheVariants.{Below}
use Rattle.tree_laws.specs.Values.{no_values, values_of}
use Rattle.tree_laws.proofs.Structure.{no_sums, stands_passes, tree_passes}
use Rattle.tree_laws.proofs.laws.trees_are_bare.Goals as goal

pub returns-clause-tree : goal.returns-clause-tree
returns-clause-tree g c first there tree items h =
    let v = values_of g.M.Summer first in
    tree_passes g.M.Unit.Item v no_values (no_sums v) there there (λ at bytes is. is) tree items h

pub returns-clause-below : goal.returns-clause-below
returns-clause-below g c first there level at items h =
    let v = values_of g.M.Summer first in
    stands_passes g.M.Unit.Item v no_values (no_sums v) there there (λ at bytes is. is) Below level at items h
