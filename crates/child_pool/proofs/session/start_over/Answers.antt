-- The child is started, and then the stages are gone through.
use Rattle.std.proofs.Common.{◌≡◌, ◌∙◌, ◌<◌, ◌∷◌, ℕ, suc, List, [], Bool, true, false, Result, Ok, Err, refl, sym, ap, subst, arith, add-one}
use Rattle.view_ports.specs.Calls.{start}
use Rattle.view_ports.specs.declared.command.Command.TheVariants.{Reset}
use Rattle.child_pool.specs.declared.pool_fault.PoolFault.{PoolFault}
use Rattle.child_pool.specs.declared.pool_fault.PoolFault.TheVariants.{NoMemory}
use Rattle.child_pool.specs.Histories.{Went, starts}
use Rattle.child_pool.specs.Jobs.{job_of}
use Rattle.child_pool.specs.Stages.{AfterStages, stage_command, anew, told_turns}
use Rattle.child_pool.specs.Talk.{Due, start_child, say, hear, asks}
use Rattle.child_pool.specs.Tries.{HasFailedIn}
use Rattle.child_pool.proofs.Asking.{started_child}
use Rattle.child_pool.proofs.Attempts.{anew_front, failed_stages, refused_stages, stages_then}
use Rattle.child_pool.proofs.Cutting.{cut_done}
use Rattle.child_pool.proofs.Going.{Went-call}
use Rattle.child_pool.proofs.session.start_over.Goals as goal

-- the start itself failed
failed_at_start : (slot : ℕ) (sources : List (List ℕ)) (stages : ℕ) (path : List ℕ) → 0 < stages → HasFailedIn (anew slot sources stages) (start slot path false ∷ [])
failed_at_start slot sources stages path some =
    let front = anew_front slot sources stages 1 (omega arith) in
    subst (λ (d : List Due). HasFailedIn d (start slot path false ∷ [])) (sym front.1) (record {
      done = start_child slot ∷ [];
      next = say slot Reset;
      left = hear slot Reset 0 ∷ front.0;
      all = refl;
      turns = starts slot ∷ [];
      are = (refl, tt);
      fails = record { last = start slot path false; earlier = []; is = refl; failed = refl; went = refl };
    })

pub returns-in-Err-Failed-clause-went : goal.returns-in-Err-Failed-clause-went
returns-in-Err-Failed-clause-went g c = λ documents calls follows.
    let slot = c.args.slot in
    let sources = c.args.sources.now in
    let path = c.args.path.now in
    let job = job_of path sources documents in
    Went-call (start slot c.args.path.now false) c.in-Err-Failed.ensures.told follows refl refl (AfterStages g.C.Servers.functions g.C.Servers.honest job slot c.args.stages (anew slot sources c.args.stages) (Ok false) calls)
    (failed_at_start slot sources c.args.stages path c.requires.some)

pub returns-in-Err-NoMemory-clause-went : goal.returns-in-Err-NoMemory-clause-went
returns-in-Err-NoMemory-clause-went g c = λ documents calls follows.
    let slot = c.args.slot in
    let sources = c.args.sources.now in
    let path = c.args.path.now in
    let job = job_of path sources documents in
    Went-call (start slot c.args.path.now false) c.in-Err-NoMemory.ensures.told follows refl refl (AfterStages g.C.Servers.functions g.C.Servers.honest job slot c.args.stages (anew slot sources c.args.stages) (Err NoMemory) calls)
    (record { caused = tt; cut = cut_done slot (start_child slot ∷ []) (told_turns slot sources c.args.stages) (starts slot ∷ []) (refl, tt) })

pub loop-stage-init : goal.loop-stage-init
loop-stage-init g c = (
  omega (arith, c.in-Ok.ensures.cause.later),
  λ documents calls follows.
      let slot = c.args.slot in
      let sources = c.args.sources.now in
      let path = c.args.path.now in
      let job = job_of path sources documents in
      Went-call (start slot path true) c.in-Ok.ensures.told follows refl refl (AfterStages g.C.Servers.functions g.C.Servers.honest job slot 0 (anew slot sources 0) (Ok true) calls) (([], started_child path slot calls), (refl, tt)),
)

pub returns-in-Ok-false-clause-went : goal.returns-in-Ok-false-clause-went
returns-in-Ok-false-clause-went g c = λ documents calls follows.
    let functions = g.C.Servers.functions in
    let honest = g.C.Servers.honest in
    let slot = c.args.slot in
    let sources = c.args.sources.now in
    let path = c.args.path.now in
    let job = job_of path sources documents in
    let stage = c.loop-stage.stage in
    let w = c.loop-stage.invariant.1 documents calls follows in
    let v = c.tell.ensures.went path documents w.now w.follows w.holds.0 in
    let went = stages_then functions honest job stage (suc stage) (anew slot sources stage) (asks slot (stage_command sources stage) 0) c.tell.result w v in
    let failed = subst (λ (r : Result Bool PoolFault). Went (g.C.Servers.may_follow c.tell.new.servers) job slot calls (AfterStages functions honest job slot (suc stage) (anew slot sources (suc stage)) r calls)) (c.in-Ok-false.is ∙ ap Ok c.in-Ok-false.field-0-test) went in
    failed_stages functions honest job (suc stage) c.args.stages (omega arith) failed

pub returns-in-Err-clause-went : goal.returns-in-Err-clause-went
returns-in-Err-clause-went g c = λ documents calls follows.
    let functions = g.C.Servers.functions in
    let honest = g.C.Servers.honest in
    let slot = c.args.slot in
    let sources = c.args.sources.now in
    let path = c.args.path.now in
    let job = job_of path sources documents in
    let stage = c.loop-stage.stage in
    let w = c.loop-stage.invariant.1 documents calls follows in
    let v = c.tell.ensures.went path documents w.now w.follows w.holds.0 in
    let went = stages_then functions honest job stage (suc stage) (anew slot sources stage) (asks slot (stage_command sources stage) 0) c.tell.result w v in
    let refused = subst (λ (r : Result Bool PoolFault). Went (g.C.Servers.may_follow c.tell.new.servers) job slot calls (AfterStages functions honest job slot (suc stage) (anew slot sources (suc stage)) r calls)) c.in-Err.is went in
    refused_stages functions honest job (suc stage) c.args.stages (omega arith) c.in-Err.fault refused

pub loop-stage-preserved : goal.loop-stage-preserved
loop-stage-preserved g c = (
  omega (arith, c.loop-stage.invariant.0, c.tell.ensures.ends.later),
  λ documents calls follows.
      let functions = g.C.Servers.functions in
      let honest = g.C.Servers.honest in
      let slot = c.args.slot in
      let sources = c.args.sources.now in
      let path = c.args.path.now in
      let job = job_of path sources documents in
      let stage = c.loop-stage.stage in
      let w = c.loop-stage.invariant.1 documents calls follows in
      let v = c.tell.ensures.went path documents w.now w.follows w.holds.0 in
      let went = stages_then functions honest job stage (suc stage) (anew slot sources stage) (asks slot (stage_command sources stage) 0) c.tell.result w v in
      let done = subst (λ (r : Result Bool PoolFault). Went (g.C.Servers.may_follow c.tell.new.servers) job slot calls (AfterStages functions honest job slot (suc stage) (anew slot sources (suc stage)) r calls)) (c.in-Ok-true.is ∙ ap Ok c.in-Ok-true.field-0-test) went in
      subst (λ (n : ℕ). Went (g.C.Servers.may_follow c.tell.new.servers) job slot calls (AfterStages functions honest job slot n (anew slot sources n) (Ok true) calls)) (sym (add-one stage)) done,
)

pub returns-clause-went : goal.returns-clause-went
returns-clause-went g c = λ documents calls follows.
    let slot = c.args.slot in
    let sources = c.args.sources.now in
    let path = c.args.path.now in
    let job = job_of path sources documents in
    let all : c.loop-stage.stage ≡ c.args.stages = omega arith in
    subst (λ (n : ℕ). Went (g.C.Servers.may_follow c.loop-stage.servers) job slot calls (AfterStages g.C.Servers.functions g.C.Servers.honest job slot n (anew slot sources n) (Ok true) calls)) all (c.loop-stage.invariant.1 documents calls follows)
