-- The line is sent, or not.
use Rattle.std.proofs.Common.{◌≤◌, ◌∙◌, length, [], true, false, Ok, Err, refl, sym}
use Rattle.std.proofs.lemmas.Bool.{leb-true}
use Rattle.view_ports.specs.Calls.{send}
use Rattle.view_ports.specs.Functions.{line_limit}
use Rattle.child_pool.specs.declared.pool_fault.PoolFault.TheVariants.{NoMemory}
use Rattle.child_pool.specs.Outcomes.{AfterSend}
use Rattle.child_pool.proofs.Going.{Went-call, Went-none}
use Rattle.child_pool.proofs.Asking.{asked_child, idle_has_child}
use Rattle.child_pool.proofs.prompt.send_prompt.Goals as goal

pub returns-then-not-is_sendable-clause-went : goal.returns-then-not-is_sendable-clause-went
returns-then-not-is_sendable-clause-went g c = λ job sources calls follows of idle.
    Went-none follows (AfterSend job sources c.args.line.now c.args.slot (Err NoMemory)) (refl, refl)

pub returns-in-Ok-clause-went : goal.returns-in-Ok-clause-went
returns-in-Ok-clause-went g c = λ job sources calls follows of idle.
    let slot = c.args.slot in
    let line = c.args.line.now in
    let short : length line ≤ line_limit = leb-true (length line) line_limit (sym c.is_sendable.ensures ∙ c.if-not-is_sendable.false) in
    Went-call (send slot line true) c.in-Ok.ensures.told follows refl (of, short, idle_has_child job.path sources slot calls idle)
    (AfterSend job sources line slot (Ok true)) (refl, asked_child job.path sources slot calls line short idle)

pub returns-in-Err-Failed-clause-went : goal.returns-in-Err-Failed-clause-went
returns-in-Err-Failed-clause-went g c = λ job sources calls follows of idle.
    let slot = c.args.slot in
    let line = c.args.line.now in
    let short : length line ≤ line_limit = leb-true (length line) line_limit (sym c.is_sendable.ensures ∙ c.if-not-is_sendable.false) in
    Went-call (send slot line false) c.in-Err-Failed.ensures.told follows refl (of, short, idle_has_child job.path sources slot calls idle)
    (AfterSend job sources line slot (Ok false)) (record { last = send slot line false; earlier = []; is = refl; failed = refl; went = refl })

pub returns-in-Err-NoMemory-clause-went : goal.returns-in-Err-NoMemory-clause-went
returns-in-Err-NoMemory-clause-went g c = λ job sources calls follows of idle.
    let slot = c.args.slot in
    let line = c.args.line.now in
    let short : length line ≤ line_limit = leb-true (length line) line_limit (sym c.is_sendable.ensures ∙ c.if-not-is_sendable.false) in
    Went-call (send slot line false) c.in-Err-NoMemory.ensures.told follows refl (of, short, idle_has_child job.path sources slot calls idle)
    (AfterSend job sources line slot (Err NoMemory)) (refl, refl)
