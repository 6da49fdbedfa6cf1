use Rattle.reduce_tree.proofs.Climb.{cutting_stays, packed_tree_stays}
use Rattle.reduce_tree.proofs.Stacks.{built_stays}
use Rattle.reduce_tree.proofs.builder.builders_stay.Goals as goal

pub returns-clause-items : goal.returns-clause-items
returns-clause-items g c first old new builder items e h = built_stays g.M.Unit.Item g.M.Summer first old new e builder items h

pub returns-clause-cut : goal.returns-clause-cut
returns-clause-cut g c old new builder items taken e h = cutting_stays g.M.Unit.Item old new e builder items taken h

pub returns-clause-packed : goal.returns-clause-packed
returns-clause-packed g c old new tree items size e h = packed_tree_stays g.M.Unit.Item old new e tree items size h
