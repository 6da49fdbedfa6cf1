use Rattle.tree_laws.specs.Values.{no_values}
use Rattle.tree_laws.proofs.Sizes.{below_not_bad, root_not_bad}
use Rattle.tree_laws.proofs.laws.nodes_of_bare_trees_fit.Goals as goal

pub returns-clause-root : goal.returns-clause-root
returns-clause-root g c there tree items h some b = root_not_bad g.T.Item no_values there tree items h some b

pub returns-clause-below : goal.returns-clause-below
returns-clause-below g c there level at items h b = below_not_bad g.T.Item no_values there level at items h b
