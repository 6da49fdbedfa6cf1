-- The first attempt failed, the child was stopped, and the second attempt was made.
use Rattle.std.proofs.Common.{◌≡◌, ◌∙◌, ◌∷◌, ℕ, suc, [], Bool, Result, Ok, Err, refl, ap, subst, arith, add-one}
use Rattle.view_ports.specs.Faults.{Rose}
use Rattle.child_pool.specs.declared.pool_fault.PoolFault.{PoolFault}
use Rattle.child_pool.specs.Histories.{Went}
use Rattle.child_pool.specs.Jobs.{job_of}
use Rattle.child_pool.specs.Prompts.{stage_prompt}
use Rattle.child_pool.specs.Stages.{AfterAttempts, AfterStages, anew}
use Rattle.child_pool.specs.Tries.{IsTriedAgain}
use Rattle.child_pool.proofs.Attempts.{first_result, first_told, second_attempt, second_result, stopped_after}
use Rattle.child_pool.proofs.session.bring.Goals as goal

pub returns-in-Ok-true-start_over-clause-went : goal.returns-in-Ok-true-start_over-clause-went
returns-in-Ok-true-start_over-clause-went g c = λ documents calls follows told.
    let functions = g.C.Servers.functions in
    let honest = g.C.Servers.honest in
    let slot = c.args.slot in
    let sources = c.args.sources.now in
    let path = c.args.path.now in
    let job = job_of path sources documents in
    let stage = c.args.stage in
    let prompt = stage_prompt slot sources stage c.args.fresh in
    let before = g.C.Servers.faults c.args.servers.now in
    let now = g.C.Servers.faults c.start_over.new.servers in
    let failed : Rose before (g.C.Servers.faults c.first_attempt.new.servers) = c.first_attempt.ensures.ends.failed (c.in-Ok-false.is ∙ ap Ok c.in-Ok-false.field-0-test) in
    let rose : Rose before now = omega (arith, failed, c.stop.ensures.cause, c.start_over.ensures.ends.later) in
    let w = subst (λ (r : Result Bool PoolFault). Went (g.C.Servers.may_follow c.first_attempt.new.servers) job slot calls (AfterStages functions honest job slot (suc stage) prompt.once r calls)) (c.in-Ok-false.is ∙ ap Ok c.in-Ok-false.field-0-test) (c.first_attempt.ensures.went documents calls follows told) in
    let s : Went (g.C.Servers.may_follow c.stop.new.self) job slot calls (λ added now. IsTriedAgain prompt (λ second. second ≡ []) added) = stopped_after job prompt w c.stop.ensures.told refl w.holds in
    let v = subst (λ (n : ℕ). Went (g.C.Servers.may_follow c.start_over.new.servers) job slot s.now (AfterStages functions honest job slot n (anew slot sources n) c.start_over.result s.now)) (add-one stage) (c.start_over.ensures.went documents s.now s.follows) in
    let went = second_attempt functions honest job (suc stage) prompt (Rose before now) c.start_over.result refl rose c.start_over.ensures.ends.no_fault s v in
    subst (λ (r : Result (Unit {0}) PoolFault). Went (g.C.Servers.may_follow c.start_over.new.servers) job slot calls (AfterAttempts functions honest job slot (suc stage) (prompt ∷ []) (Rose before now) r calls)) (ap second_result (c.in-Ok-true-start_over.is ∙ ap Ok c.in-Ok-true-start_over.field-0-test)) went

pub returns-in-Ok-false-start_over-clause-went : goal.returns-in-Ok-false-start_over-clause-went
returns-in-Ok-false-start_over-clause-went g c = λ documents calls follows told.
    let functions = g.C.Servers.functions in
    let honest = g.C.Servers.honest in
    let slot = c.args.slot in
    let sources = c.args.sources.now in
    let path = c.args.path.now in
    let job = job_of path sources documents in
    let stage = c.args.stage in
    let prompt = stage_prompt slot sources stage c.args.fresh in
    let before = g.C.Servers.faults c.args.servers.now in
    let now = g.C.Servers.faults c.start_over.new.servers in
    let failed : Rose before (g.C.Servers.faults c.first_attempt.new.servers) = c.first_attempt.ensures.ends.failed (c.in-Ok-false.is ∙ ap Ok c.in-Ok-false.field-0-test) in
    let rose : Rose before now = omega (arith, failed, c.stop.ensures.cause, c.start_over.ensures.ends.later) in
    let w = subst (λ (r : Result Bool PoolFault). Went (g.C.Servers.may_follow c.first_attempt.new.servers) job slot calls (AfterStages functions honest job slot (suc stage) prompt.once r calls)) (c.in-Ok-false.is ∙ ap Ok c.in-Ok-false.field-0-test) (c.first_attempt.ensures.went documents calls follows told) in
    let s : Went (g.C.Servers.may_follow c.stop.new.self) job slot calls (λ added now. IsTriedAgain prompt (λ second. second ≡ []) added) = stopped_after job prompt w c.stop.ensures.told refl w.holds in
    let v = subst (λ (n : ℕ). Went (g.C.Servers.may_follow c.start_over.new.servers) job slot s.now (AfterStages functions honest job slot n (anew slot sources n) c.start_over.result s.now)) (add-one stage) (c.start_over.ensures.went documents s.now s.follows) in
    let went = second_attempt functions honest job (suc stage) prompt (Rose before now) c.start_over.result refl rose c.start_over.ensures.ends.no_fault s v in
    subst (λ (r : Result (Unit {0}) PoolFault). Went (g.C.Servers.may_follow c.start_over.new.servers) job slot calls (AfterAttempts functions honest job slot (suc stage) (prompt ∷ []) (Rose before now) r calls)) (ap second_result (c.in-Ok-false-start_over.is ∙ ap Ok c.in-Ok-false-start_over.field-0-test)) went

pub returns-in-Err-start_over-clause-went : goal.returns-in-Err-start_over-clause-went
returns-in-Err-start_over-clause-went g c = λ documents calls follows told.
    let functions = g.C.Servers.functions in
    let honest = g.C.Servers.honest in
    let slot = c.args.slot in
    let sources = c.args.sources.now in
    let path = c.args.path.now in
    let job = job_of path sources documents in
    let stage = c.args.stage in
    let prompt = stage_prompt slot sources stage c.args.fresh in
    let before = g.C.Servers.faults c.args.servers.now in
    let now = g.C.Servers.faults c.start_over.new.servers in
    let failed : Rose before (g.C.Servers.faults c.first_attempt.new.servers) = c.first_attempt.ensures.ends.failed (c.in-Ok-false.is ∙ ap Ok c.in-Ok-false.field-0-test) in
    let rose : Rose before now = omega (arith, failed, c.stop.ensures.cause, c.start_over.ensures.ends.later) in
    let w = subst (λ (r : Result Bool PoolFault). Went (g.C.Servers.may_follow c.first_attempt.new.servers) job slot calls (AfterStages functions honest job slot (suc stage) prompt.once r calls)) (c.in-Ok-false.is ∙ ap Ok c.in-Ok-false.field-0-test) (c.first_attempt.ensures.went documents calls follows told) in
    let s : Went (g.C.Servers.may_follow c.stop.new.self) job slot calls (λ added now. IsTriedAgain prompt (λ second. second ≡ []) added) = stopped_after job prompt w c.stop.ensures.told refl w.holds in
    let v = subst (λ (n : ℕ). Went (g.C.Servers.may_follow c.start_over.new.servers) job slot s.now (AfterStages functions honest job slot n (anew slot sources n) c.start_over.result s.now)) (add-one stage) (c.start_over.ensures.went documents s.now s.follows) in
    let went = second_attempt functions honest job (suc stage) prompt (Rose before now) c.start_over.result refl rose c.start_over.ensures.ends.no_fault s v in
    subst (λ (r : Result (Unit {0}) PoolFault). Went (g.C.Servers.may_follow c.start_over.new.servers) job slot calls (AfterAttempts functions honest job slot (suc stage) (prompt ∷ []) (Rose before now) r calls)) (ap second_result c.in-Err-start_over.is) went

pub returns-in-Err-clause-went : goal.returns-in-Err-clause-went
returns-in-Err-clause-went g c = λ documents calls follows told.
    let functions = g.C.Servers.functions in
    let honest = g.C.Servers.honest in
    let slot = c.args.slot in
    let sources = c.args.sources.now in
    let path = c.args.path.now in
    let job = job_of path sources documents in
    let stage = c.args.stage in
    let prompt = stage_prompt slot sources stage c.args.fresh in
    let rose = Rose (g.C.Servers.faults c.args.servers.now) (g.C.Servers.faults c.first_attempt.new.servers) in
    let w = subst (λ (r : Result Bool PoolFault). Went (g.C.Servers.may_follow c.first_attempt.new.servers) job slot calls (AfterStages functions honest job slot (suc stage) prompt.once r calls)) c.in-Err.is (c.first_attempt.ensures.went documents calls follows told) in
    first_result functions honest job (suc stage) prompt rose c.in-Err.fault refl (λ e. c.first_attempt.ensures.ends.no_fault (c.in-Err.is ∙ ap Err e)) w

pub returns-in-Ok-true-clause-went : goal.returns-in-Ok-true-clause-went
returns-in-Ok-true-clause-went g c = λ documents calls follows told.
    let functions = g.C.Servers.functions in
    let honest = g.C.Servers.honest in
    let slot = c.args.slot in
    let sources = c.args.sources.now in
    let path = c.args.path.now in
    let job = job_of path sources documents in
    let stage = c.args.stage in
    let prompt = stage_prompt slot sources stage c.args.fresh in
    let rose = Rose (g.C.Servers.faults c.args.servers.now) (g.C.Servers.faults c.first_attempt.new.servers) in
    let w = subst (λ (r : Result Bool PoolFault). Went (g.C.Servers.may_follow c.first_attempt.new.servers) job slot calls (AfterStages functions honest job slot (suc stage) prompt.once r calls)) (c.in-Ok-true.is ∙ ap Ok c.in-Ok-true.field-0-test) (c.first_attempt.ensures.went documents calls follows told) in
    first_told functions honest job (suc stage) prompt rose w
