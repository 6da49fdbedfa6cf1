-- The prompt is sent, and then its answer is received.
use Rattle.std.proofs.Common.{◌∙◌, [], ◌∷◌, false, Ok, Err, Result, Bool, ap, subst}
use Rattle.child_pool.specs.declared.pool_fault.PoolFault.{PoolFault}
use Rattle.child_pool.specs.Histories.{Went, says}
use Rattle.child_pool.specs.Outcomes.{AfterSend}
use Rattle.child_pool.proofs.Prompts.{not_sent, prompt_later}
use Rattle.child_pool.proofs.prompt.ask.Goals as goal

pub returns-in-Ok-true-clause-went : goal.returns-in-Ok-true-clause-went
returns-in-Ok-true-clause-went g c = λ job sources calls follows is of asked idle.
    let slot = c.args.slot in
    let line = c.args.line.now in
    let w = subst (λ (r : Result Bool PoolFault). Went (g.C.Servers.may_follow c.send_prompt.new.servers) job slot calls (AfterSend job sources line slot r))
    (c.in-Ok-true.is ∙ ap Ok c.in-Ok-true.field-0-test) (c.send_prompt.ensures.went job sources calls follows of idle) in
    prompt_later g.C.Servers.functions g.C.Servers.honest job sources line (says slot line ∷ []) c.receive_reply.result w w.holds.0
    (c.receive_reply.ensures.went job sources line w.now w.follows is asked w.holds.1)

pub returns-in-Ok-false-clause-went : goal.returns-in-Ok-false-clause-went
returns-in-Ok-false-clause-went g c = λ job sources calls follows is of asked idle.
    let slot = c.args.slot in
    let line = c.args.line.now in
    let w = subst (λ (r : Result Bool PoolFault). Went (g.C.Servers.may_follow c.send_prompt.new.servers) job slot calls (AfterSend job sources line slot r))
    (c.in-Ok-false.is ∙ ap Ok c.in-Ok-false.field-0-test) (c.send_prompt.ensures.went job sources calls follows of idle) in
    not_sent g.C.Servers.functions g.C.Servers.honest job sources line (Ok false) (λ e. cc) w

pub returns-in-Err-clause-went : goal.returns-in-Err-clause-went
returns-in-Err-clause-went g c = λ job sources calls follows is of asked idle.
    not_sent g.C.Servers.functions g.C.Servers.honest job sources c.args.line.now (Err c.in-Err.fault) (λ e. cc) (c.in-Err.ensures.went job sources calls follows of idle)
