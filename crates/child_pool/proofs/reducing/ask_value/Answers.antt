-- A value is asked for, once.
use Rattle.std.proofs.Common.{◌≡◌, ◌∙◌, [], Ok, Err, Some, None, Option, Result, sym, ap, subst}
use Rattle.json_terms.specs.Seen.{json}
use Rattle.json_terms.specs.Terms.{IsTerm}
use Rattle.json_terms.specs.declared.term.Term.{Term}
use Rattle.view_ports.specs.declared.command.Command.{Command}
use Rattle.child_pool.specs.declared.pool_fault.PoolFault.{PoolFault}
use Rattle.child_pool.specs.Causes.{kind_of}
use Rattle.child_pool.specs.Jobs.{IsPromptOf, reduce_job}
use Rattle.child_pool.proofs.Reduced.{reduce_command, reduce_prompted, some_value, value_kind, value_result, value_went_to}
use Rattle.child_pool.proofs.reducing.ask_value.Goals as goal

pub returns-in-Ok-clause-went : goal.returns-in-Ok-clause-went
returns-in-Ok-clause-went g c = λ path reduces source asked calls follows is by among told.
    let functions = g.C.Servers.functions in
    let honest = g.C.Servers.honest in
    let slot = c.args.slot in
    let line = c.args.line.now in
    let job = reduce_job path reduces in
    let w = c.ask.ensures.went job [] calls follows (value_kind source asked 0 by ∙ ap (λ (a : Command). kind_of a 0) (sym is.1)) (asked, reduce_command job source asked by among, is.0) (subst (IsPromptOf job []) (sym is.1) (reduce_prompted job [] source asked by among)) told.idle in
    let given : Result (Option Term) PoolFault = Ok (Some c.in-Ok.value) in
    let same : value_result c.ask.result ≡ given = ap value_result (c.in-Ok-Some.is ∙ ap Ok c.in-Ok-Some.field-0-is) ∙ ap some_value (sym c.value_in.ensures.said ∙ c.in-Ok.is) in
    value_went_to functions honest path reduces source asked (g.C.Servers.may_follow c.ask.new.servers) slot calls line is.1 is.0 by among c.ask.result given same (λ value e. let mine : c.in-Ok.value ≡ value = cc in subst (λ (t : Term). IsTerm (json t)) mine c.in-Ok.ensures.valid) w

pub returns-in-Err-value_in-clause-went : goal.returns-in-Err-value_in-clause-went
returns-in-Err-value_in-clause-went g c = λ path reduces source asked calls follows is by among told.
    let functions = g.C.Servers.functions in
    let honest = g.C.Servers.honest in
    let slot = c.args.slot in
    let line = c.args.line.now in
    let job = reduce_job path reduces in
    let w = c.ask.ensures.went job [] calls follows (value_kind source asked 0 by ∙ ap (λ (a : Command). kind_of a 0) (sym is.1)) (asked, reduce_command job source asked by among, is.0) (subst (IsPromptOf job []) (sym is.1) (reduce_prompted job [] source asked by among)) told.idle in
    let given : Result (Option Term) PoolFault = Err c.in-Err-value_in.fault in
    let same : value_result c.ask.result ≡ given = ap value_result (c.in-Ok-Some.is ∙ ap Ok c.in-Ok-Some.field-0-is) ∙ ap some_value (sym c.value_in.ensures.said ∙ c.in-Err-value_in.is) in
    value_went_to functions honest path reduces source asked (g.C.Servers.may_follow c.ask.new.servers) slot calls line is.1 is.0 by among c.ask.result given same (λ value e. absurd cc) w

pub returns-in-Ok-None-clause-went : goal.returns-in-Ok-None-clause-went
returns-in-Ok-None-clause-went g c = λ path reduces source asked calls follows is by among told.
    let functions = g.C.Servers.functions in
    let honest = g.C.Servers.honest in
    let slot = c.args.slot in
    let line = c.args.line.now in
    let job = reduce_job path reduces in
    let w = c.ask.ensures.went job [] calls follows (value_kind source asked 0 by ∙ ap (λ (a : Command). kind_of a 0) (sym is.1)) (asked, reduce_command job source asked by among, is.0) (subst (IsPromptOf job []) (sym is.1) (reduce_prompted job [] source asked by among)) told.idle in
    let given : Result (Option Term) PoolFault = Ok None in
    value_went_to functions honest path reduces source asked (g.C.Servers.may_follow c.ask.new.servers) slot calls line is.1 is.0 by among c.ask.result given (ap value_result (c.in-Ok-None.is ∙ ap Ok c.in-Ok-None.field-0-is)) (λ value e. absurd cc) w

pub returns-in-Err-clause-went : goal.returns-in-Err-clause-went
returns-in-Err-clause-went g c = λ path reduces source asked calls follows is by among told.
    let functions = g.C.Servers.functions in
    let honest = g.C.Servers.honest in
    let slot = c.args.slot in
    let line = c.args.line.now in
    let job = reduce_job path reduces in
    let w = c.ask.ensures.went job [] calls follows (value_kind source asked 0 by ∙ ap (λ (a : Command). kind_of a 0) (sym is.1)) (asked, reduce_command job source asked by among, is.0) (subst (IsPromptOf job []) (sym is.1) (reduce_prompted job [] source asked by among)) told.idle in
    let given : Result (Option Term) PoolFault = Err c.in-Err.fault in
    value_went_to functions honest path reduces source asked (g.C.Servers.may_follow c.ask.new.servers) slot calls line is.1 is.0 by among c.ask.result given (ap value_result c.in-Err.is) (λ value e. absurd cc) w
