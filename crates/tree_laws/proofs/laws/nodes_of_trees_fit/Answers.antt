use Rattle.tree_laws.specs.Values.{values_of}
use Rattle.tree_laws.proofs.Sizes.{below_not_bad, root_not_bad}
use Rattle.tree_laws.proofs.laws.nodes_of_trees_fit.Goals as goal

pub returns-clause-root : goal.returns-clause-root
returns-clause-root g c first there tree items h some b = root_not_bad g.M.Unit.Item (values_of g.M.Summer first) there tree items h some b

pub returns-clause-below : goal.returns-clause-below
returns-clause-below g c first there level at items h b = below_not_bad g.M.Unit.Item (values_of g.M.Summer first) there level at items h b
