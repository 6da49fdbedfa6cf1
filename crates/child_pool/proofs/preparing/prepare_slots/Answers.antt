-- One slot more is made ready, or refused.
use Rattle.std.proofs.Common.{◌≡◌, ◌<◌, ℕ, nat_le, Result, subst, arith}
use Rattle.std.proofs.lemmas.Bool.{leb-false}
use Rattle.view_ports.specs.Faults.{Rose}
use Rattle.child_pool.specs.declared.pool_fault.PoolFault.{PoolFault}
use Rattle.child_pool.specs.Histories.{Went, WentIn}
use Rattle.child_pool.specs.Jobs.{job_of}
use Rattle.child_pool.specs.Prompts.{slot_prompts}
use Rattle.child_pool.specs.Preparing.{AfterPrepare}
use Rattle.child_pool.proofs.Attempts.{Rose-wider}
use Rattle.child_pool.proofs.Readied.{HasReadied, all_readied, none_readied, one_readied, one_refused}
use Rattle.child_pool.proofs.Slots.{none_in}
use Rattle.child_pool.proofs.preparing.prepare_slots.Goals as goal

pub loop-slot-init : goal.loop-slot-init
loop-slot-init g c = (
  omega arith,
  λ width documents calls within follows there.
      let functions = g.C.Servers.functions in
      let honest = g.C.Servers.honest in
      let job = job_of c.args.path.now c.args.sources.now documents in
      let rose = Rose (g.C.Servers.faults c.args.servers.now) (g.C.Servers.faults c.args.servers.now) in
      none_in follows (HasReadied functions honest job c.args.kept c.args.slots 0 rose calls) (none_readied functions honest job c.args.kept c.args.slots rose calls there),
)

pub loop-slot-preserved : goal.loop-slot-preserved
loop-slot-preserved g c = (
  omega (arith, c.loop-slot.invariant.0, c.prepare_slot.ensures.ends.later),
  λ width documents calls within follows there.
      let functions = g.C.Servers.functions in
      let honest = g.C.Servers.honest in
      let job = job_of c.args.path.now c.args.sources.now documents in
      let slot = c.loop-slot.slot in
      let x = g.C.Servers.faults c.args.servers.now in
      let y = g.C.Servers.faults c.loop-slot.servers in
      let z = g.C.Servers.faults c.prepare_slot.new.servers in
      let below : slot < c.args.slots = omega arith in
      let w = c.loop-slot.invariant.1 width documents calls within follows there in
      let v = subst (λ (r : Result (Unit {0}) PoolFault). Went (g.C.Servers.may_follow c.prepare_slot.new.servers) job slot w.now (AfterPrepare functions honest job slot (slot_prompts slot job.sources (nat_le c.args.kept slot)) (Rose y z) r w.now)) c.in-Ok.is
      (c.prepare_slot.ensures.went documents w.now w.follows (λ is. w.holds.there slot (omega arith) (leb-false c.args.kept slot is))) in
      one_readied functions honest job c.args.kept c.args.slots slot below within (Rose x y) (Rose y z) (Rose x z)
      (Rose-wider x x y z (omega arith) c.prepare_slot.ensures.ends.later) (Rose-wider x y z z c.loop-slot.invariant.0 (omega arith)) w v,
)

pub returns-in-Err-clause-went : goal.returns-in-Err-clause-went
returns-in-Err-clause-went g c = λ width documents calls within follows there.
    let functions = g.C.Servers.functions in
    let honest = g.C.Servers.honest in
    let job = job_of c.args.path.now c.args.sources.now documents in
    let slot = c.loop-slot.slot in
    let x = g.C.Servers.faults c.args.servers.now in
    let y = g.C.Servers.faults c.loop-slot.servers in
    let z = g.C.Servers.faults c.prepare_slot.new.servers in
    let below : slot < c.args.slots = omega arith in
    let w = c.loop-slot.invariant.1 width documents calls within follows there in
    let v = subst (λ (r : Result (Unit {0}) PoolFault). Went (g.C.Servers.may_follow c.prepare_slot.new.servers) job slot w.now (AfterPrepare functions honest job slot (slot_prompts slot job.sources (nat_le c.args.kept slot)) (Rose y z) r w.now)) c.in-Err.is
    (c.prepare_slot.ensures.went documents w.now w.follows (λ is. w.holds.there slot (omega arith) (leb-false c.args.kept slot is))) in
    one_refused functions honest job c.args.kept c.args.slots slot below within (Rose x y) (Rose y z) (Rose x z)
    (Rose-wider x x y z (omega arith) c.prepare_slot.ensures.ends.later) (Rose-wider x y z z c.loop-slot.invariant.0 (omega arith)) w c.in-Err.fault v

pub returns-clause-went : goal.returns-clause-went
returns-clause-went g c = λ width documents calls within follows there.
    let functions = g.C.Servers.functions in
    let honest = g.C.Servers.honest in
    let job = job_of c.args.path.now c.args.sources.now documents in
    let rose = Rose (g.C.Servers.faults c.args.servers.now) (g.C.Servers.faults c.loop-slot.servers) in
    let all : c.loop-slot.slot ≡ c.args.slots = omega arith in
    let w = c.loop-slot.invariant.1 width documents calls within follows there in
    all_readied functions honest job c.args.kept c.args.slots rose
    (subst (λ (n : ℕ). WentIn (g.C.Servers.may_follow c.loop-slot.servers) job width calls (HasReadied functions honest job c.args.kept c.args.slots n rose calls)) all w)
