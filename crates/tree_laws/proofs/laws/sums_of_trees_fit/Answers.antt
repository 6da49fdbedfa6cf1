use Rattle.tree_laws.specs.declared.tree.Fill.TheVariants.{Below}
use Rattle.tree_laws.specs.Values.{values_of}
use Rattle.tree_laws.proofs.Parts.{no_bad_root_sum, no_bad_sum}
use Rattle.tree_laws.proofs.laws.sums_of_trees_fit.Goals as goal

pub returns-clause-root : goal.returns-clause-root
returns-clause-root g c first there tree items h some b = no_bad_root_sum g.M.Unit.Item (values_of g.M.Summer first) there g.met.M.Unit.Item.one_spelling tree items h some b

pub returns-clause-below : goal.returns-clause-below
returns-clause-below g c first there level at items h b = no_bad_sum g.M.Unit.Item (values_of g.M.Summer first) there g.met.M.Unit.Item.one_spelling Below level at items h b
