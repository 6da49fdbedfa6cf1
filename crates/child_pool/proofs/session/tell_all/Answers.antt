-- One stage more, in two attempts at most.
use Rattle.std.proofs.Common.{◌≡◌, ◌≤◌, ◌+◌, ◌∷◌, ℕ, suc, [], length, Bool, Result, Ok, sym, subst, arith, add-one}
use Rattle.view_ports.specs.Faults.{Rose}
use Rattle.child_pool.specs.declared.pool_fault.PoolFault.{PoolFault}
use Rattle.child_pool.specs.Histories.{Went}
use Rattle.child_pool.specs.Jobs.{job_of}
use Rattle.child_pool.specs.Prompts.{at_first, stage_prompt, stage_prompts}
use Rattle.child_pool.specs.Stages.{AfterAttempts}
use Rattle.child_pool.proofs.Attempts.{Rose-wider, at_later, attempts_then, refused_attempts}
use Rattle.child_pool.proofs.session.tell_all.Goals as goal

pub returns-in-Err-bring-clause-went : goal.returns-in-Err-bring-clause-went
returns-in-Err-bring-clause-went g c = λ documents calls follows told.
    let functions = g.C.Servers.functions in
    let honest = g.C.Servers.honest in
    let slot = c.args.slot in
    let sources = c.args.sources.now in
    let path = c.args.path.now in
    let job = job_of path sources documents in
    let stage = c.loop-stage.stage in
    let a = g.C.Servers.faults c.args.servers.now in
    let b = g.C.Servers.faults c.loop-stage.servers in
    let d = g.C.Servers.faults c.bring-in-loop-stage.new.servers in
    let early : a ≤ b = c.loop-stage.invariant.0 in
    let late : b ≤ d = c.bring-in-loop-stage.ensures.ends.later in
    let w = c.loop-stage.invariant.1 documents calls follows told in
    let v = subst (λ (again : Bool). Went (g.C.Servers.may_follow c.bring-in-loop-stage.new.servers) job slot w.now (AfterAttempts functions honest job slot (suc stage) (stage_prompt slot sources stage again ∷ []) (Rose b d) c.bring-in-loop-stage.result w.now)) (sym (at_later stage c.args.fresh (omega arith)))
    (c.bring-in-loop-stage.ensures.went documents w.now w.follows (λ e. w.holds.0)) in
    let went = attempts_then functions honest job stage (suc stage) (stage_prompts slot sources c.args.fresh stage) (stage_prompt slot sources stage (at_first stage c.args.fresh) ∷ []) (Rose a b) (Rose b d) (Rose a d) c.bring-in-loop-stage.result (Rose-wider a a b d (omega arith) late) (Rose-wider a b d d early (omega arith)) w v in
    let done = subst (λ (r : Result (Unit {0}) PoolFault). Went (g.C.Servers.may_follow c.bring-in-loop-stage.new.servers) job slot calls (AfterAttempts functions honest job slot (suc stage) (stage_prompts slot sources c.args.fresh (suc stage)) (Rose a d) r calls)) c.in-Err-bring.is went in
    refused_attempts functions honest job c.args.fresh (suc stage) (length sources + 1) (omega arith) (Rose a d) c.in-Err-bring.fault done

pub loop-stage-preserved : goal.loop-stage-preserved
loop-stage-preserved g c = (
  omega (arith, c.loop-stage.invariant.0, c.bring-in-loop-stage.ensures.ends.later),
  λ documents calls follows told.
      let functions = g.C.Servers.functions in
      let honest = g.C.Servers.honest in
      let slot = c.args.slot in
      let sources = c.args.sources.now in
      let path = c.args.path.now in
      let job = job_of path sources documents in
      let stage = c.loop-stage.stage in
      let a = g.C.Servers.faults c.args.servers.now in
      let b = g.C.Servers.faults c.loop-stage.servers in
      let d = g.C.Servers.faults c.bring-in-loop-stage.new.servers in
      let early : a ≤ b = c.loop-stage.invariant.0 in
      let late : b ≤ d = c.bring-in-loop-stage.ensures.ends.later in
      let w = c.loop-stage.invariant.1 documents calls follows told in
      let v = subst (λ (again : Bool). Went (g.C.Servers.may_follow c.bring-in-loop-stage.new.servers) job slot w.now (AfterAttempts functions honest job slot (suc stage) (stage_prompt slot sources stage again ∷ []) (Rose b d) c.bring-in-loop-stage.result w.now)) (sym (at_later stage c.args.fresh (omega arith)))
      (c.bring-in-loop-stage.ensures.went documents w.now w.follows (λ e. w.holds.0)) in
      let went = attempts_then functions honest job stage (suc stage) (stage_prompts slot sources c.args.fresh stage) (stage_prompt slot sources stage (at_first stage c.args.fresh) ∷ []) (Rose a b) (Rose b d) (Rose a d) c.bring-in-loop-stage.result (Rose-wider a a b d (omega arith) late) (Rose-wider a b d d early (omega arith)) w v in
      let done = subst (λ (r : Result (Unit {0}) PoolFault). Went (g.C.Servers.may_follow c.bring-in-loop-stage.new.servers) job slot calls (AfterAttempts functions honest job slot (suc stage) (stage_prompts slot sources c.args.fresh (suc stage)) (Rose a d) r calls)) c.in-Ok-bring.is went in
      subst (λ (n : ℕ). Went (g.C.Servers.may_follow c.bring-in-loop-stage.new.servers) job slot calls (AfterAttempts functions honest job slot n (stage_prompts slot sources c.args.fresh n) (Rose a d) (Ok tt) calls)) (sym (add-one stage)) done,
)

pub returns-clause-went : goal.returns-clause-went
returns-clause-went g c = λ documents calls follows told.
    let slot = c.args.slot in
    let sources = c.args.sources.now in
    let path = c.args.path.now in
    let job = job_of path sources documents in
    let all : c.loop-stage.stage ≡ length sources + 1 = omega arith in
    subst (λ (n : ℕ). Went (g.C.Servers.may_follow c.loop-stage.servers) job slot calls (AfterAttempts g.C.Servers.functions g.C.Servers.honest job slot n (stage_prompts slot sources c.args.fresh n) (Rose (g.C.Servers.faults c.args.servers.now) (g.C.Servers.faults c.loop-stage.servers)) (Ok tt) calls)) all (c.loop-stage.invariant.1 documents calls follows told)

pub returns-in-Err-clause-went : goal.returns-in-Err-clause-went
returns-in-Err-clause-went g c = λ documents calls follows told.
    let functions = g.C.Servers.functions in
    let honest = g.C.Servers.honest in
    let slot = c.args.slot in
    let sources = c.args.sources.now in
    let path = c.args.path.now in
    let job = job_of path sources documents in
    let rose = Rose (g.C.Servers.faults c.args.servers.now) (g.C.Servers.faults c.bring.new.servers) in
    let w = subst (λ (r : Result (Unit {0}) PoolFault). Went (g.C.Servers.may_follow c.bring.new.servers) job slot calls (AfterAttempts functions honest job slot 1 (stage_prompts slot sources c.args.fresh 1) rose r calls)) c.in-Err.is (c.bring.ensures.went documents calls follows told) in
    refused_attempts functions honest job c.args.fresh 1 (length sources + 1) (omega arith) rose c.in-Err.fault w
