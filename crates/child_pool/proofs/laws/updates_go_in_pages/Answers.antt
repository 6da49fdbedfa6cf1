-- The first documents of an update, from none to all.
use Rattle.child_pool.proofs.Nexts.{first_whole, nothing_first}
use Rattle.child_pool.proofs.laws.updates_go_in_pages.Goals as goal

pub returns-clause-none : goal.returns-clause-none
returns-clause-none g c = λ old pool design. nothing_first g.C.Servers design old pool

pub returns-clause-all : goal.returns-clause-all
returns-clause-all g c = λ old new pool pool' design documents lists first. first_whole g.C.Servers design old new pool pool' documents lists first
