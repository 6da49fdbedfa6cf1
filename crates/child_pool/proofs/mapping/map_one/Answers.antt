-- A document is mapped at once, or in a second attempt with a fresh child.
use Rattle.std.proofs.Common.{◌≡◌, ◌∙◌, [], Bool, true, Option, Result, Ok, Err, refl, sym, ap, subst, arith}
use Rattle.json_terms.specs.declared.rows.RowLists.{RowLists}
use Rattle.view_ports.specs.Faults.{Rose}
use Rattle.child_pool.specs.Histories.{Went}
use Rattle.child_pool.specs.Jobs.{job_of}
use Rattle.child_pool.specs.Mapping.{AfterAnswer}
use Rattle.child_pool.specs.Prompts.{document_prompt}
use Rattle.child_pool.specs.Tries.{IsTriedAgain}
use Rattle.child_pool.specs.declared.pool_fault.PoolFault.{PoolFault}
use Rattle.child_pool.specs.declared.pool_fault.PoolFault.TheVariants.{ServerFault}
use Rattle.child_pool.proofs.Attempts.{stopped_after}
use Rattle.child_pool.proofs.Mapped.{failed_result, failed_start, first_rows, last_of, once_more, started_over}
use Rattle.child_pool.proofs.mapping.map_one.Goals as goal

-- a result has one value
not_ready : {result last : Result Bool PoolFault} → result ≡ last → result ≡ Ok true → last ≡ Ok true
not_ready is e = sym is ∙ e

pub returns-in-Ok-Some-clause-went : goal.returns-in-Ok-Some-clause-went
returns-in-Ok-Some-clause-went g c = λ documents calls follows among told.
    let functions = g.C.Servers.functions in
    let honest = g.C.Servers.honest in
    let slot = c.args.slot in
    let sources = c.args.sources.now in
    let path = c.args.path.now in
    let job = job_of path sources documents in
    let document = c.args.document.now in
    let prompt = document_prompt slot sources document in
    let before = g.C.Servers.faults c.args.servers.now in
    let rose = Rose before (g.C.Servers.faults c.ask_rows.new.servers) in
    first_rows functions honest job document prompt rose c.ask_rows.result (Ok c.in-Ok-Some.rows) (c.in-Ok-Some.is ∙ ap Ok c.in-Ok-Some.field-0-is) refl c.ask_rows.ensures.ends.no_fault (c.ask_rows.ensures.went path documents calls follows among told)

pub returns-in-Err-clause-went : goal.returns-in-Err-clause-went
returns-in-Err-clause-went g c = λ documents calls follows among told.
    let functions = g.C.Servers.functions in
    let honest = g.C.Servers.honest in
    let slot = c.args.slot in
    let sources = c.args.sources.now in
    let path = c.args.path.now in
    let job = job_of path sources documents in
    let document = c.args.document.now in
    let prompt = document_prompt slot sources document in
    let before = g.C.Servers.faults c.args.servers.now in
    let rose = Rose before (g.C.Servers.faults c.ask_rows.new.servers) in
    first_rows functions honest job document prompt rose c.ask_rows.result (Err c.in-Err.fault) c.in-Err.is refl c.ask_rows.ensures.ends.no_fault (c.ask_rows.ensures.went path documents calls follows among told)

pub returns-in-Ok-false-clause-went : goal.returns-in-Ok-false-clause-went
returns-in-Ok-false-clause-went g c = λ documents calls follows among told.
    let functions = g.C.Servers.functions in
    let honest = g.C.Servers.honest in
    let slot = c.args.slot in
    let sources = c.args.sources.now in
    let path = c.args.path.now in
    let job = job_of path sources documents in
    let document = c.args.document.now in
    let prompt = document_prompt slot sources document in
    let before = g.C.Servers.faults c.args.servers.now in
    let rose = Rose before (g.C.Servers.faults c.start_over.new.servers) in
    let failed : Rose before (g.C.Servers.faults c.ask_rows.new.servers) = c.ask_rows.ensures.ends.failed (c.in-Ok-None.is ∙ ap Ok c.in-Ok-None.field-0-is) in
    let counted : rose = omega (arith, failed, c.stop.ensures.cause, c.start_over.ensures.ends.later) in
    let w = subst (λ (r : Result (Option RowLists) PoolFault). Went (g.C.Servers.may_follow c.ask_rows.new.servers) job slot calls (AfterAnswer functions honest job slot document prompt.once r calls)) (c.in-Ok-None.is ∙ ap Ok c.in-Ok-None.field-0-is) (c.ask_rows.ensures.went path documents calls follows among told) in
    let s : Went (g.C.Servers.may_follow c.stop.new.self) job slot calls (λ added now. IsTriedAgain prompt (λ second. second ≡ []) added) = stopped_after job prompt w c.stop.ensures.told refl w.holds in
    let v = c.start_over.ensures.went documents s.now s.follows in
    failed_start functions honest job document rose counted s c.start_over.result (Err ServerFault) (ap failed_result (c.in-Ok-false.is ∙ ap Ok c.in-Ok-false.field-0-test)) (λ e. let never = not_ready (c.in-Ok-false.is ∙ ap Ok c.in-Ok-false.field-0-test) e in cc) c.start_over.ensures.ends.no_fault v

pub returns-in-Err-start_over-clause-went : goal.returns-in-Err-start_over-clause-went
returns-in-Err-start_over-clause-went g c = λ documents calls follows among told.
    let functions = g.C.Servers.functions in
    let honest = g.C.Servers.honest in
    let slot = c.args.slot in
    let sources = c.args.sources.now in
    let path = c.args.path.now in
    let job = job_of path sources documents in
    let document = c.args.document.now in
    let prompt = document_prompt slot sources document in
    let before = g.C.Servers.faults c.args.servers.now in
    let rose = Rose before (g.C.Servers.faults c.start_over.new.servers) in
    let failed : Rose before (g.C.Servers.faults c.ask_rows.new.servers) = c.ask_rows.ensures.ends.failed (c.in-Ok-None.is ∙ ap Ok c.in-Ok-None.field-0-is) in
    let counted : rose = omega (arith, failed, c.stop.ensures.cause, c.start_over.ensures.ends.later) in
    let w = subst (λ (r : Result (Option RowLists) PoolFault). Went (g.C.Servers.may_follow c.ask_rows.new.servers) job slot calls (AfterAnswer functions honest job slot document prompt.once r calls)) (c.in-Ok-None.is ∙ ap Ok c.in-Ok-None.field-0-is) (c.ask_rows.ensures.went path documents calls follows among told) in
    let s : Went (g.C.Servers.may_follow c.stop.new.self) job slot calls (λ added now. IsTriedAgain prompt (λ second. second ≡ []) added) = stopped_after job prompt w c.stop.ensures.told refl w.holds in
    let v = c.start_over.ensures.went documents s.now s.follows in
    failed_start functions honest job document rose counted s c.start_over.result (Err c.in-Err-start_over.fault) (ap failed_result c.in-Err-start_over.is) (λ e. let never = not_ready c.in-Err-start_over.is e in cc) c.start_over.ensures.ends.no_fault v

pub returns-in-Ok-Some-ask_rows-clause-went : goal.returns-in-Ok-Some-ask_rows-clause-went
returns-in-Ok-Some-ask_rows-clause-went g c = λ documents calls follows among told.
    let functions = g.C.Servers.functions in
    let honest = g.C.Servers.honest in
    let slot = c.args.slot in
    let sources = c.args.sources.now in
    let path = c.args.path.now in
    let job = job_of path sources documents in
    let document = c.args.document.now in
    let prompt = document_prompt slot sources document in
    let before = g.C.Servers.faults c.args.servers.now in
    let now = g.C.Servers.faults c.ask_rows-2.new.servers in
    let failed : Rose before (g.C.Servers.faults c.ask_rows.new.servers) = c.ask_rows.ensures.ends.failed (c.in-Ok-None.is ∙ ap Ok c.in-Ok-None.field-0-is) in
    let rose : Rose before now = omega (arith, failed, c.stop.ensures.cause, c.start_over.ensures.ends.later, c.ask_rows-2.ensures.ends.later) in
    let w = subst (λ (r : Result (Option RowLists) PoolFault). Went (g.C.Servers.may_follow c.ask_rows.new.servers) job slot calls (AfterAnswer functions honest job slot document prompt.once r calls)) (c.in-Ok-None.is ∙ ap Ok c.in-Ok-None.field-0-is) (c.ask_rows.ensures.went path documents calls follows among told) in
    let s : Went (g.C.Servers.may_follow c.stop.new.self) job slot calls (λ added now. IsTriedAgain prompt (λ second. second ≡ []) added) = stopped_after job prompt w c.stop.ensures.told refl w.holds in
    let v = c.start_over.ensures.went documents s.now s.follows in
    let ready = started_over functions honest job document (Rose before now) rose s c.start_over.result (c.in-Ok-true.is ∙ ap Ok c.in-Ok-true.field-0-test) v in
    let again = c.ask_rows-2.ensures.went path documents ready.now ready.follows among ready.holds.0 in
    once_more functions honest job document (Rose before now) rose s ready c.ask_rows-2.result (Ok c.in-Ok-Some-ask_rows.rows) (ap last_of (c.in-Ok-Some-ask_rows.is ∙ ap Ok c.in-Ok-Some-ask_rows.field-0-is)) c.ask_rows-2.ensures.ends.no_fault again

pub returns-in-Ok-None-ask_rows-clause-went : goal.returns-in-Ok-None-ask_rows-clause-went
returns-in-Ok-None-ask_rows-clause-went g c = λ documents calls follows among told.
    let functions = g.C.Servers.functions in
    let honest = g.C.Servers.honest in
    let slot = c.args.slot in
    let sources = c.args.sources.now in
    let path = c.args.path.now in
    let job = job_of path sources documents in
    let document = c.args.document.now in
    let prompt = document_prompt slot sources document in
    let before = g.C.Servers.faults c.args.servers.now in
    let now = g.C.Servers.faults c.ask_rows-2.new.servers in
    let failed : Rose before (g.C.Servers.faults c.ask_rows.new.servers) = c.ask_rows.ensures.ends.failed (c.in-Ok-None.is ∙ ap Ok c.in-Ok-None.field-0-is) in
    let rose : Rose before now = omega (arith, failed, c.stop.ensures.cause, c.start_over.ensures.ends.later, c.ask_rows-2.ensures.ends.later) in
    let w = subst (λ (r : Result (Option RowLists) PoolFault). Went (g.C.Servers.may_follow c.ask_rows.new.servers) job slot calls (AfterAnswer functions honest job slot document prompt.once r calls)) (c.in-Ok-None.is ∙ ap Ok c.in-Ok-None.field-0-is) (c.ask_rows.ensures.went path documents calls follows among told) in
    let s : Went (g.C.Servers.may_follow c.stop.new.self) job slot calls (λ added now. IsTriedAgain prompt (λ second. second ≡ []) added) = stopped_after job prompt w c.stop.ensures.told refl w.holds in
    let v = c.start_over.ensures.went documents s.now s.follows in
    let ready = started_over functions honest job document (Rose before now) rose s c.start_over.result (c.in-Ok-true.is ∙ ap Ok c.in-Ok-true.field-0-test) v in
    let again = c.ask_rows-2.ensures.went path documents ready.now ready.follows among ready.holds.0 in
    once_more functions honest job document (Rose before now) rose s ready c.ask_rows-2.result (Err ServerFault) (ap last_of (c.in-Ok-None-ask_rows.is ∙ ap Ok c.in-Ok-None-ask_rows.field-0-is)) c.ask_rows-2.ensures.ends.no_fault again

pub returns-in-Err-ask_rows-clause-went : goal.returns-in-Err-ask_rows-clause-went
returns-in-Err-ask_rows-clause-went g c = λ documents calls follows among told.
    let functions = g.C.Servers.functions in
    let honest = g.C.Servers.honest in
    let slot = c.args.slot in
    let sources = c.args.sources.now in
    let path = c.args.path.now in
    let job = job_of path sources documents in
    let document = c.args.document.now in
    let prompt = document_prompt slot sources document in
    let before = g.C.Servers.faults c.args.servers.now in
    let now = g.C.Servers.faults c.ask_rows-2.new.servers in
    let failed : Rose before (g.C.Servers.faults c.ask_rows.new.servers) = c.ask_rows.ensures.ends.failed (c.in-Ok-None.is ∙ ap Ok c.in-Ok-None.field-0-is) in
    let rose : Rose before now = omega (arith, failed, c.stop.ensures.cause, c.start_over.ensures.ends.later, c.ask_rows-2.ensures.ends.later) in
    let w = subst (λ (r : Result (Option RowLists) PoolFault). Went (g.C.Servers.may_follow c.ask_rows.new.servers) job slot calls (AfterAnswer functions honest job slot document prompt.once r calls)) (c.in-Ok-None.is ∙ ap Ok c.in-Ok-None.field-0-is) (c.ask_rows.ensures.went path documents calls follows among told) in
    let s : Went (g.C.Servers.may_follow c.stop.new.self) job slot calls (λ added now. IsTriedAgain prompt (λ second. second ≡ []) added) = stopped_after job prompt w c.stop.ensures.told refl w.holds in
    let v = c.start_over.ensures.went documents s.now s.follows in
    let ready = started_over functions honest job document (Rose before now) rose s c.start_over.result (c.in-Ok-true.is ∙ ap Ok c.in-Ok-true.field-0-test) v in
    let again = c.ask_rows-2.ensures.went path documents ready.now ready.follows among ready.holds.0 in
    once_more functions honest job document (Rose before now) rose s ready c.ask_rows-2.result (Err c.in-Err-ask_rows.fault) (ap last_of c.in-Err-ask_rows.is) c.ask_rows-2.ensures.ends.no_fault again
