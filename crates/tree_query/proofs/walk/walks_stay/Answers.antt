use Rattle.tree_query.proofs.Walks.{over_stays, walk_stays}
use Rattle.tree_query.proofs.Numbers.{edge_stays}
use Rattle.tree_query.proofs.walk.walks_stay.Goals as goal

pub returns-clause-at : goal.returns-clause-at
returns-clause-at g c old new walk items e h = walk_stays g.T.Item old new e walk items h

pub returns-clause-over : goal.returns-clause-over
returns-clause-over g c old new tree walk e h = over_stays g.T.Item old new e tree walk h

pub returns-clause-edge : goal.returns-clause-edge
returns-clause-edge g c old new tree walk edge e h = edge_stays g.T.Item old new e tree walk edge h
