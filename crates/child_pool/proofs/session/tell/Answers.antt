-- The stage's prompt is asked.
use Rattle.std.proofs.Common.{◌≡◌, ◌∙◌, length, suc, Ok, Err, Result, Bool, sym, ap, subst}
use Rattle.view_ports.specs.declared.command.Command.{Command}
use Rattle.view_ports.specs.Commands.{command}
use Rattle.query_protocol.specs.CommandLines.{command_line}
use Rattle.child_pool.specs.declared.pool_fault.PoolFault.{PoolFault}
use Rattle.child_pool.specs.declared.pool_fault.PoolFault.TheVariants.{NoMemory}
use Rattle.child_pool.specs.Causes.{kind_of}
use Rattle.child_pool.specs.Histories.{Went}
use Rattle.child_pool.specs.Jobs.{IsPromptOf, job_of}
use Rattle.child_pool.specs.Stages.{AfterStages, stage_command}
use Rattle.child_pool.specs.Talk.{asks}
use Rattle.child_pool.proofs.Attempts.{is_stage_prompt, stage_of_job}
use Rattle.child_pool.proofs.Cutting.{cut_at_once}
use Rattle.child_pool.proofs.Going.{Went-none}
use Rattle.child_pool.proofs.Stagings.{tell_went, told_result}
use Rattle.child_pool.proofs.session.tell.Goals as goal

pub returns-in-Ok-Some-clause-went : goal.returns-in-Ok-Some-clause-went
returns-in-Ok-Some-clause-went g c = λ path documents calls follows told.
    let functions = g.C.Servers.functions in
    let honest = g.C.Servers.honest in
    let slot = c.args.slot in
    let sources = c.args.sources.now in
    let job = job_of path sources documents in
    let stage = c.args.stage in
    let line = c.as_slice.result.now in
    let due = stage_command sources stage in
    let spelled : line ≡ command_line due = c.as_slice.ensures.value ∙ c.in-Ok.ensures.line in
    let is : command line ≡ due = ap command c.as_slice.ensures.value ∙ c.in-Ok.ensures.reads in
    let went = tell_went functions honest job line stage c.ask.result c.requires.stage told is spelled (λ srcs idle. c.ask.ensures.went job srcs calls follows (c.stage_kind.ensures sources (length srcs) ∙ ap (λ (asked : Command). kind_of asked (length srcs)) (sym is)) (due, stage_of_job job stage c.requires.stage, spelled) (subst (IsPromptOf job srcs) (sym is) (is_stage_prompt job srcs stage c.requires.stage)) idle) in
    subst (λ (r : Result Bool PoolFault). Went (g.C.Servers.may_follow c.ask.new.servers) job slot calls (AfterStages functions honest job slot (suc stage) (asks slot due 0) r calls)) (ap told_result (c.in-Ok-Some.is ∙ ap Ok c.in-Ok-Some.field-0-is) ∙ sym c.told.ensures) went

pub returns-in-Ok-None-clause-went : goal.returns-in-Ok-None-clause-went
returns-in-Ok-None-clause-went g c = λ path documents calls follows told.
    let functions = g.C.Servers.functions in
    let honest = g.C.Servers.honest in
    let slot = c.args.slot in
    let sources = c.args.sources.now in
    let job = job_of path sources documents in
    let stage = c.args.stage in
    let line = c.as_slice.result.now in
    let due = stage_command sources stage in
    let spelled : line ≡ command_line due = c.as_slice.ensures.value ∙ c.in-Ok.ensures.line in
    let is : command line ≡ due = ap command c.as_slice.ensures.value ∙ c.in-Ok.ensures.reads in
    let went = tell_went functions honest job line stage c.ask.result c.requires.stage told is spelled (λ srcs idle. c.ask.ensures.went job srcs calls follows (c.stage_kind.ensures sources (length srcs) ∙ ap (λ (asked : Command). kind_of asked (length srcs)) (sym is)) (due, stage_of_job job stage c.requires.stage, spelled) (subst (IsPromptOf job srcs) (sym is) (is_stage_prompt job srcs stage c.requires.stage)) idle) in
    subst (λ (r : Result Bool PoolFault). Went (g.C.Servers.may_follow c.ask.new.servers) job slot calls (AfterStages functions honest job slot (suc stage) (asks slot due 0) r calls)) (ap told_result (c.in-Ok-None.is ∙ ap Ok c.in-Ok-None.field-0-is)) went

pub returns-clause-went : goal.returns-clause-went
returns-clause-went g c = λ path documents calls follows told.
    let functions = g.C.Servers.functions in
    let honest = g.C.Servers.honest in
    let slot = c.args.slot in
    let sources = c.args.sources.now in
    let job = job_of path sources documents in
    let stage = c.args.stage in
    let line = c.as_slice.result.now in
    let due = stage_command sources stage in
    let spelled : line ≡ command_line due = c.as_slice.ensures.value ∙ c.in-Ok.ensures.line in
    let is : command line ≡ due = ap command c.as_slice.ensures.value ∙ c.in-Ok.ensures.reads in
    let went = tell_went functions honest job line stage c.ask.result c.requires.stage told is spelled (λ srcs idle. c.ask.ensures.went job srcs calls follows (c.stage_kind.ensures sources (length srcs) ∙ ap (λ (asked : Command). kind_of asked (length srcs)) (sym is)) (due, stage_of_job job stage c.requires.stage, spelled) (subst (IsPromptOf job srcs) (sym is) (is_stage_prompt job srcs stage c.requires.stage)) idle) in
    subst (λ (r : Result Bool PoolFault). Went (g.C.Servers.may_follow c.ask.new.servers) job slot calls (AfterStages functions honest job slot (suc stage) (asks slot due 0) r calls)) (ap told_result c.in-Err-ask.is) went

pub returns-in-Err-clause-went : goal.returns-in-Err-clause-went
returns-in-Err-clause-went g c = λ path documents calls follows told.
    let functions = g.C.Servers.functions in
    let honest = g.C.Servers.honest in
    let slot = c.args.slot in
    let sources = c.args.sources.now in
    let job = job_of path sources documents in
    let stage = c.args.stage in
    let dues = asks slot (stage_command sources stage) 0 in
    Went-none follows (AfterStages functions honest job slot (suc stage) dues (Err NoMemory) calls) (record { caused = tt; cut = cut_at_once slot dues })
