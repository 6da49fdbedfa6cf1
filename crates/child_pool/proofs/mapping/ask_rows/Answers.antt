-- A document's rows are asked for, once.
use Rattle.std.proofs.Common.{◌≡◌, ◌∙◌, length, Ok, Err, Some, Result, Option, refl, sym, ap, subst}
use Rattle.json_terms.specs.declared.rows.RowLists.{RowLists}
use Rattle.view_ports.specs.declared.command.Command.{Command}
use Rattle.view_ports.specs.declared.command.Command.TheVariants.{MapDoc}
use Rattle.view_ports.specs.Commands.{command}
use Rattle.query_protocol.specs.CommandLines.{command_line}
use Rattle.child_pool.specs.declared.pool_fault.PoolFault.{PoolFault}
use Rattle.child_pool.specs.declared.pool_fault.PoolFault.TheVariants.{NoMemory}
use Rattle.child_pool.specs.Causes.{kind_of}
use Rattle.child_pool.specs.Histories.{Went}
use Rattle.child_pool.specs.Jobs.{IsPromptOf, job_of}
use Rattle.child_pool.specs.Mapping.{AfterAnswer}
use Rattle.child_pool.specs.Talk.{asks}
use Rattle.child_pool.proofs.Cutting.{cut_at_once}
use Rattle.child_pool.proofs.Going.{Went-none}
use Rattle.child_pool.proofs.Mapped.{map_went, map_result}
use Rattle.child_pool.proofs.mapping.ask_rows.Goals as goal

pub returns-in-Ok-Some-clause-went : goal.returns-in-Ok-Some-clause-went
returns-in-Ok-Some-clause-went g c = λ path documents calls follows among told.
    let functions = g.C.Servers.functions in
    let honest = g.C.Servers.honest in
    let slot = c.args.slot in
    let sources = c.args.sources.now in
    let job = job_of path sources documents in
    let document = c.args.document.now in
    let line = c.as_slice.result.now in
    let spelled : line ≡ command_line (MapDoc document) = c.as_slice.ensures.value ∙ c.in-Ok.ensures.line in
    let is : command line ≡ MapDoc document = ap command c.as_slice.ensures.value ∙ c.in-Ok.ensures.reads in
    let asked = c.ask.ensures.went job sources calls follows (ap (λ (a : Command). kind_of a (length sources)) (sym is)) (MapDoc document, among, spelled) (subst (IsPromptOf job sources) (sym is) (among, refl)) told.idle in
    let went = map_went functions honest job line document c.ask.result told is spelled asked in
    subst (λ (r : Result (Option RowLists) PoolFault). Went (g.C.Servers.may_follow c.ask.new.servers) job slot calls (AfterAnswer functions honest job slot document (asks slot (MapDoc document) (length sources)) r calls)) (ap map_result (c.in-Ok-Some.is ∙ ap Ok c.in-Ok-Some.field-0-is) ∙ ap (λ rows. Ok (Some rows)) (sym c.rows_in.ensures)) went

pub returns-in-Ok-None-clause-went : goal.returns-in-Ok-None-clause-went
returns-in-Ok-None-clause-went g c = λ path documents calls follows among told.
    let functions = g.C.Servers.functions in
    let honest = g.C.Servers.honest in
    let slot = c.args.slot in
    let sources = c.args.sources.now in
    let job = job_of path sources documents in
    let document = c.args.document.now in
    let line = c.as_slice.result.now in
    let spelled : line ≡ command_line (MapDoc document) = c.as_slice.ensures.value ∙ c.in-Ok.ensures.line in
    let is : command line ≡ MapDoc document = ap command c.as_slice.ensures.value ∙ c.in-Ok.ensures.reads in
    let asked = c.ask.ensures.went job sources calls follows (ap (λ (a : Command). kind_of a (length sources)) (sym is)) (MapDoc document, among, spelled) (subst (IsPromptOf job sources) (sym is) (among, refl)) told.idle in
    let went = map_went functions honest job line document c.ask.result told is spelled asked in
    subst (λ (r : Result (Option RowLists) PoolFault). Went (g.C.Servers.may_follow c.ask.new.servers) job slot calls (AfterAnswer functions honest job slot document (asks slot (MapDoc document) (length sources)) r calls)) (ap map_result (c.in-Ok-None.is ∙ ap Ok c.in-Ok-None.field-0-is)) went

pub returns-clause-went : goal.returns-clause-went
returns-clause-went g c = λ path documents calls follows among told.
    let functions = g.C.Servers.functions in
    let honest = g.C.Servers.honest in
    let slot = c.args.slot in
    let sources = c.args.sources.now in
    let job = job_of path sources documents in
    let document = c.args.document.now in
    let line = c.as_slice.result.now in
    let spelled : line ≡ command_line (MapDoc document) = c.as_slice.ensures.value ∙ c.in-Ok.ensures.line in
    let is : command line ≡ MapDoc document = ap command c.as_slice.ensures.value ∙ c.in-Ok.ensures.reads in
    let asked = c.ask.ensures.went job sources calls follows (ap (λ (a : Command). kind_of a (length sources)) (sym is)) (MapDoc document, among, spelled) (subst (IsPromptOf job sources) (sym is) (among, refl)) told.idle in
    let went = map_went functions honest job line document c.ask.result told is spelled asked in
    subst (λ (r : Result (Option RowLists) PoolFault). Went (g.C.Servers.may_follow c.ask.new.servers) job slot calls (AfterAnswer functions honest job slot document (asks slot (MapDoc document) (length sources)) r calls)) (ap map_result c.in-Err-ask.is) went

pub returns-in-Err-clause-went : goal.returns-in-Err-clause-went
returns-in-Err-clause-went g c = λ path documents calls follows among told.
    let functions = g.C.Servers.functions in
    let honest = g.C.Servers.honest in
    let slot = c.args.slot in
    let sources = c.args.sources.now in
    let job = job_of path sources documents in
    let document = c.args.document.now in
    let dues = asks slot (MapDoc document) (length sources) in
    Went-none follows (AfterAnswer functions honest job slot document dues (Err NoMemory) calls) (record { caused = tt; cut = cut_at_once slot dues })
