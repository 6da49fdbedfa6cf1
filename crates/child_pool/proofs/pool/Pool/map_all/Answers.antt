-- They are the first documents of an update that has not begun, and the last ones.
use Rattle.std.proofs.Common.{[], refl}
use Rattle.child_pool.proofs.Nexts.{follows_whole, nothing_first}
use Rattle.child_pool.proofs.pool.Pool.map_all.Goals as goal

pub returns-clause-went : goal.returns-clause-went
returns-clause-went g c =
    let s = g.C.Servers in
    let old = c.args.servers.now in
    let pool = c.args.self.now in
    let design = c.args.design.now in
    follows_whole s design old c.map_next.new.servers pool c.map_next.new.self c.args.documents.now c.map_next.result
    (c.map_next.ensures.went old pool [] [] refl (nothing_first s design old pool))
