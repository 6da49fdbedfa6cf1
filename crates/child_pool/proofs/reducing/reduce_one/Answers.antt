-- A value is given at once, or in a second attempt with a fresh child.
use Rattle.std.proofs.Common.{◌≡◌, ◌∙◌, [], Bool, true, Option, Result, Ok, Err, refl, sym, ap, subst, arith}
use Rattle.json_terms.specs.declared.term.Term.{Term}
use Rattle.view_ports.specs.Faults.{Rose}
use Rattle.child_pool.specs.Histories.{Went}
use Rattle.child_pool.specs.Jobs.{reduce_job}
use Rattle.child_pool.specs.Reducing.{AfterValue, reduce_prompt}
use Rattle.child_pool.specs.Stages.{anew}
use Rattle.child_pool.specs.Talk.{asks}
use Rattle.child_pool.specs.Tries.{IsTriedAgain}
use Rattle.child_pool.specs.declared.pool_fault.PoolFault.{PoolFault}
use Rattle.child_pool.specs.declared.pool_fault.PoolFault.TheVariants.{ServerFault}
use Rattle.child_pool.proofs.Attempts.{stopped_after}
use Rattle.child_pool.proofs.Reduced.{failed_reset, failed_value, first_value, last_value, value_again, was_reset}
use Rattle.child_pool.proofs.Widened.{reset_wider}
use Rattle.child_pool.proofs.reducing.reduce_one.Goals as goal

-- a result has one value
not_ready : {result last : Result Bool PoolFault} → result ≡ last → result ≡ Ok true → last ≡ Ok true
not_ready is e = sym is ∙ e

pub returns-in-Ok-Some-clause-went : goal.returns-in-Ok-Some-clause-went
returns-in-Ok-Some-clause-went g c = λ reduces source asked calls follows is by among told.
    let functions = g.C.Servers.functions in
    let honest = g.C.Servers.honest in
    let slot = c.args.slot in
    let path = c.args.path.now in
    let job = reduce_job path reduces in
    let before = g.C.Servers.faults c.args.servers.now in
    let rose = Rose before (g.C.Servers.faults c.ask_value.new.servers) in
    first_value functions honest path reduces source asked rose c.ask_value.result (Ok c.in-Ok-Some.value) (c.in-Ok-Some.is ∙ ap Ok c.in-Ok-Some.field-0-is) c.ask_value.ensures.ends.no_fault (c.ask_value.ensures.went path reduces source asked calls follows is by among told)

pub returns-in-Err-clause-went : goal.returns-in-Err-clause-went
returns-in-Err-clause-went g c = λ reduces source asked calls follows is by among told.
    let functions = g.C.Servers.functions in
    let honest = g.C.Servers.honest in
    let slot = c.args.slot in
    let path = c.args.path.now in
    let job = reduce_job path reduces in
    let before = g.C.Servers.faults c.args.servers.now in
    let rose = Rose before (g.C.Servers.faults c.ask_value.new.servers) in
    first_value functions honest path reduces source asked rose c.ask_value.result (Err c.in-Err.fault) (c.in-Err.is) c.ask_value.ensures.ends.no_fault (c.ask_value.ensures.went path reduces source asked calls follows is by among told)

pub returns-in-Ok-false-clause-went : goal.returns-in-Ok-false-clause-went
returns-in-Ok-false-clause-went g c = λ reduces source asked calls follows is by among told.
    let functions = g.C.Servers.functions in
    let honest = g.C.Servers.honest in
    let slot = c.args.slot in
    let path = c.args.path.now in
    let job = reduce_job path reduces in
    let before = g.C.Servers.faults c.args.servers.now in
    let rose = Rose before (g.C.Servers.faults c.start_over.new.servers) in
    let failed : Rose before (g.C.Servers.faults c.ask_value.new.servers) = c.ask_value.ensures.ends.failed (c.in-Ok-None.is ∙ ap Ok c.in-Ok-None.field-0-is) in
    let counted : rose = omega (arith, failed, c.stop.ensures.cause, c.start_over.ensures.ends.later) in
    let w = subst (λ (r : Result (Option Term) PoolFault). Went (g.C.Servers.may_follow c.ask_value.new.servers) job slot calls (AfterValue functions honest job slot source asked (asks slot asked 0) r calls)) (c.in-Ok-None.is ∙ ap Ok c.in-Ok-None.field-0-is) (c.ask_value.ensures.went path reduces source asked calls follows is by among told) in
    let s : Went (g.C.Servers.may_follow c.stop.new.self) job slot calls (λ added now. IsTriedAgain (reduce_prompt slot asked) (λ second. second ≡ []) added) = stopped_after job (reduce_prompt slot asked) w c.stop.ensures.told refl w.holds in
    let v = reset_wider path [] reduces (λ source none. absurd none) functions honest (anew slot [] 1) c.start_over.result (c.start_over.ensures.went [] s.now s.follows) in
    failed_reset functions honest path reduces source asked rose counted s c.start_over.result (Err ServerFault) (ap failed_value (c.in-Ok-false.is ∙ ap Ok c.in-Ok-false.field-0-test)) (λ e. let never = not_ready (c.in-Ok-false.is ∙ ap Ok c.in-Ok-false.field-0-test) e in cc) c.start_over.ensures.ends.no_fault v

pub returns-in-Err-start_over-clause-went : goal.returns-in-Err-start_over-clause-went
returns-in-Err-start_over-clause-went g c = λ reduces source asked calls follows is by among told.
    let functions = g.C.Servers.functions in
    let honest = g.C.Servers.honest in
    let slot = c.args.slot in
    let path = c.args.path.now in
    let job = reduce_job path reduces in
    let before = g.C.Servers.faults c.args.servers.now in
    let rose = Rose before (g.C.Servers.faults c.start_over.new.servers) in
    let failed : Rose before (g.C.Servers.faults c.ask_value.new.servers) = c.ask_value.ensures.ends.failed (c.in-Ok-None.is ∙ ap Ok c.in-Ok-None.field-0-is) in
    let counted : rose = omega (arith, failed, c.stop.ensures.cause, c.start_over.ensures.ends.later) in
    let w = subst (λ (r : Result (Option Term) PoolFault). Went (g.C.Servers.may_follow c.ask_value.new.servers) job slot calls (AfterValue functions honest job slot source asked (asks slot asked 0) r calls)) (c.in-Ok-None.is ∙ ap Ok c.in-Ok-None.field-0-is) (c.ask_value.ensures.went path reduces source asked calls follows is by among told) in
    let s : Went (g.C.Servers.may_follow c.stop.new.self) job slot calls (λ added now. IsTriedAgain (reduce_prompt slot asked) (λ second. second ≡ []) added) = stopped_after job (reduce_prompt slot asked) w c.stop.ensures.told refl w.holds in
    let v = reset_wider path [] reduces (λ source none. absurd none) functions honest (anew slot [] 1) c.start_over.result (c.start_over.ensures.went [] s.now s.follows) in
    failed_reset functions honest path reduces source asked rose counted s c.start_over.result (Err c.in-Err-start_over.fault) (ap failed_value c.in-Err-start_over.is) (λ e. let never = not_ready c.in-Err-start_over.is e in cc) c.start_over.ensures.ends.no_fault v

pub returns-in-Ok-Some-ask_value-clause-went : goal.returns-in-Ok-Some-ask_value-clause-went
returns-in-Ok-Some-ask_value-clause-went g c = λ reduces source asked calls follows is by among told.
    let functions = g.C.Servers.functions in
    let honest = g.C.Servers.honest in
    let slot = c.args.slot in
    let path = c.args.path.now in
    let job = reduce_job path reduces in
    let before = g.C.Servers.faults c.args.servers.now in
    let now = g.C.Servers.faults c.ask_value-2.new.servers in
    let failed : Rose before (g.C.Servers.faults c.ask_value.new.servers) = c.ask_value.ensures.ends.failed (c.in-Ok-None.is ∙ ap Ok c.in-Ok-None.field-0-is) in
    let rose : Rose before now = omega (arith, failed, c.stop.ensures.cause, c.start_over.ensures.ends.later, c.ask_value-2.ensures.ends.later) in
    let w = subst (λ (r : Result (Option Term) PoolFault). Went (g.C.Servers.may_follow c.ask_value.new.servers) job slot calls (AfterValue functions honest job slot source asked (asks slot asked 0) r calls)) (c.in-Ok-None.is ∙ ap Ok c.in-Ok-None.field-0-is) (c.ask_value.ensures.went path reduces source asked calls follows is by among told) in
    let s : Went (g.C.Servers.may_follow c.stop.new.self) job slot calls (λ added now. IsTriedAgain (reduce_prompt slot asked) (λ second. second ≡ []) added) = stopped_after job (reduce_prompt slot asked) w c.stop.ensures.told refl w.holds in
    let v = reset_wider path [] reduces (λ source none. absurd none) functions honest (anew slot [] 1) c.start_over.result (c.start_over.ensures.went [] s.now s.follows) in
    let ready = was_reset functions honest path reduces source asked (Rose before now) rose s c.start_over.result (c.in-Ok-true.is ∙ ap Ok c.in-Ok-true.field-0-test) v in
    let again = c.ask_value-2.ensures.went path reduces source asked ready.now ready.follows is by among ready.holds.0 in
    value_again functions honest path reduces source asked (Rose before now) rose s ready c.ask_value-2.result (Ok c.in-Ok-Some-ask_value.value) (ap last_value (c.in-Ok-Some-ask_value.is ∙ ap Ok c.in-Ok-Some-ask_value.field-0-is)) c.ask_value-2.ensures.ends.no_fault again

pub returns-in-Ok-None-ask_value-clause-went : goal.returns-in-Ok-None-ask_value-clause-went
returns-in-Ok-None-ask_value-clause-went g c = λ reduces source asked calls follows is by among told.
    let functions = g.C.Servers.functions in
    let honest = g.C.Servers.honest in
    let slot = c.args.slot in
    let path = c.args.path.now in
    let job = reduce_job path reduces in
    let before = g.C.Servers.faults c.args.servers.now in
    let now = g.C.Servers.faults c.ask_value-2.new.servers in
    let failed : Rose before (g.C.Servers.faults c.ask_value.new.servers) = c.ask_value.ensures.ends.failed (c.in-Ok-None.is ∙ ap Ok c.in-Ok-None.field-0-is) in
    let rose : Rose before now = omega (arith, failed, c.stop.ensures.cause, c.start_over.ensures.ends.later, c.ask_value-2.ensures.ends.later) in
    let w = subst (λ (r : Result (Option Term) PoolFault). Went (g.C.Servers.may_follow c.ask_value.new.servers) job slot calls (AfterValue functions honest job slot source asked (asks slot asked 0) r calls)) (c.in-Ok-None.is ∙ ap Ok c.in-Ok-None.field-0-is) (c.ask_value.ensures.went path reduces source asked calls follows is by among told) in
    let s : Went (g.C.Servers.may_follow c.stop.new.self) job slot calls (λ added now. IsTriedAgain (reduce_prompt slot asked) (λ second. second ≡ []) added) = stopped_after job (reduce_prompt slot asked) w c.stop.ensures.told refl w.holds in
    let v = reset_wider path [] reduces (λ source none. absurd none) functions honest (anew slot [] 1) c.start_over.result (c.start_over.ensures.went [] s.now s.follows) in
    let ready = was_reset functions honest path reduces source asked (Rose before now) rose s c.start_over.result (c.in-Ok-true.is ∙ ap Ok c.in-Ok-true.field-0-test) v in
    let again = c.ask_value-2.ensures.went path reduces source asked ready.now ready.follows is by among ready.holds.0 in
    value_again functions honest path reduces source asked (Rose before now) rose s ready c.ask_value-2.result (Err ServerFault) (ap last_value (c.in-Ok-None-ask_value.is ∙ ap Ok c.in-Ok-None-ask_value.field-0-is)) c.ask_value-2.ensures.ends.no_fault again

pub returns-in-Err-ask_value-clause-went : goal.returns-in-Err-ask_value-clause-went
returns-in-Err-ask_value-clause-went g c = λ reduces source asked calls follows is by among told.
    let functions = g.C.Servers.functions in
    let honest = g.C.Servers.honest in
    let slot = c.args.slot in
    let path = c.args.path.now in
    let job = reduce_job path reduces in
    let before = g.C.Servers.faults c.args.servers.now in
    let now = g.C.Servers.faults c.ask_value-2.new.servers in
    let failed : Rose before (g.C.Servers.faults c.ask_value.new.servers) = c.ask_value.ensures.ends.failed (c.in-Ok-None.is ∙ ap Ok c.in-Ok-None.field-0-is) in
    let rose : Rose before now = omega (arith, failed, c.stop.ensures.cause, c.start_over.ensures.ends.later, c.ask_value-2.ensures.ends.later) in
    let w = subst (λ (r : Result (Option Term) PoolFault). Went (g.C.Servers.may_follow c.ask_value.new.servers) job slot calls (AfterValue functions honest job slot source asked (asks slot asked 0) r calls)) (c.in-Ok-None.is ∙ ap Ok c.in-Ok-None.field-0-is) (c.ask_value.ensures.went path reduces source asked calls follows is by among told) in
    let s : Went (g.C.Servers.may_follow c.stop.new.self) job slot calls (λ added now. IsTriedAgain (reduce_prompt slot asked) (λ second. second ≡ []) added) = stopped_after job (reduce_prompt slot asked) w c.stop.ensures.told refl w.holds in
    let v = reset_wider path [] reduces (λ source none. absurd none) functions honest (anew slot [] 1) c.start_over.result (c.start_over.ensures.went [] s.now s.follows) in
    let ready = was_reset functions honest path reduces source asked (Rose before now) rose s c.start_over.result (c.in-Ok-true.is ∙ ap Ok c.in-Ok-true.field-0-test) v in
    let again = c.ask_value-2.ensures.went path reduces source asked ready.now ready.follows is by among ready.holds.0 in
    value_again functions honest path reduces source asked (Rose before now) rose s ready c.ask_value-2.result (Err c.in-Err-ask_value.fault) (ap last_value c.in-Err-ask_value.is) c.ask_value-2.ensures.ends.no_fault again
