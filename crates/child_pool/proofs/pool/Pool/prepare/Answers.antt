-- The children are ready, or all children are stopped.
use Rattle.std.proofs.Common.{◌≡◌, ℕ, Err, subst, arith}
use Rattle.view_ports.specs.Faults.{Rose}
use Rattle.design_docs.specs.Design.{map_sources}
use Rattle.child_pool.specs.Histories.{AllStops, WentIn}
use Rattle.child_pool.specs.Jobs.{job_of}
use Rattle.child_pool.specs.Pools.{AfterPreparing, AreStopped}
use Rattle.child_pool.specs.Prompts.{slots_prompts}
use Rattle.child_pool.proofs.Refusals.{given_up}
use Rattle.child_pool.proofs.Slots.{then_in}
use Rattle.child_pool.proofs.pool.Pool.prepare.Goals as goal

pub returns-in-Ok-clause-went : goal.returns-in-Ok-clause-went
returns-in-Ok-clause-went g c = λ path documents calls follows known stands. c.in-Ok.ensures.went path documents calls follows known stands

pub returns-in-Err-clause-went : goal.returns-in-Err-clause-went
returns-in-Err-clause-went g c = λ path documents calls follows known stands.
    let functions = g.C.Servers.functions in
    let honest = g.C.Servers.honest in
    let job = job_of path (map_sources c.args.design.now.views) documents in
    let width = c.args.self.now.width in
    let fault = c.in-Err.fault in
    let pool = c.stop_all.new.self in
    let x = g.C.Servers.faults c.args.servers.now in
    let y = g.C.Servers.faults c.try_prepare.new.servers in
    let z = g.C.Servers.faults c.stop_all.new.servers in
    let w = c.in-Err.ensures.went path documents calls follows known stands in
    let same : y ≡ z = omega (arith, c.stop_all.ensures.faults) in
    let v = subst (λ (n : ℕ). WentIn (g.C.Servers.may_follow c.stop_all.new.servers) job n w.now (λ added now. AreStopped n pool now × AllStops added)) c.in-Err.ensures.ends.keeps.width (c.stop_all.ensures.went job w.now w.follows) in
    then_in w v (AfterPreparing functions honest job c.args.self.now c.args.slots (Rose x z) pool (Err fault) calls) (
      w.holds.0,
      w.holds.1,
      given_up functions honest job width (slots_prompts job.sources w.holds.0 c.args.slots) (Rose x y) (Rose x z) pool fault calls w.added v.added v.now (subst (Rose x) same) w.holds.2 v.holds.1 v.holds.0,
    )
