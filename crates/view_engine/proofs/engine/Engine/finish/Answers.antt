-- The pool stops its children.
use Rattle.std.proofs.Common.{ℕ, [], sym, subst}
use Rattle.child_pool.specs.Jobs.{job_of}
use Rattle.child_pool.specs.Pools.{AreStopped}
use Rattle.view_engine.proofs.engine.Engine.finish.Goals as goal

pub returns-clause-stopped : goal.returns-clause-stopped
returns-clause-stopped g c = λ calls follows.
    let pool = c.stop_all.new.self in
    let w = c.stop_all.ensures.went (job_of [] [] []) calls follows in
    let stopped = subst (λ (n : ℕ). AreStopped n pool w.now) (sym c.stop_all.ensures.keeps.width) w.holds.0 in
    record {
      added = w.added;
      follows = subst (g.C.Servers.may_follow c.stop_all.new.servers) w.is_now w.follows;
      only = w.holds.1;
      stopped = subst (AreStopped pool.width pool) w.is_now stopped;
    }
