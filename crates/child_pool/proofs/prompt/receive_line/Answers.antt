-- One line is received, or none.
use Rattle.std.proofs.Common.{ℕ, List, [], Some, None, Ok, Err, refl, subst, inl}
use Rattle.view_ports.specs.Calls.{receive}
use Rattle.child_pool.specs.declared.heard.Heard.TheVariants.{Failed}
use Rattle.child_pool.specs.declared.pool_fault.PoolFault.TheVariants.{NoMemory}
use Rattle.child_pool.specs.Hearing.{IsHeard}
use Rattle.child_pool.specs.Outcomes.{AfterLine}
use Rattle.child_pool.proofs.Going.{Went-call}
use Rattle.child_pool.proofs.Lines.{at_asked, after_line}
use Rattle.child_pool.proofs.RowReplies.{heard_bounded}
use Rattle.child_pool.proofs.prompt.receive_line.Goals as goal

pub returns-in-Err-Failed-clause-went : goal.returns-in-Err-Failed-clause-went
returns-in-Err-Failed-clause-went g c = λ job sources prompt calls follows is of at.
    let slot = c.args.slot in
    Went-call (receive slot None) c.in-Err-Failed.ensures.told follows refl (at_asked job.path sources prompt c.args.logs slot calls c.requires.few at) (AfterLine g.C.Servers.functions g.C.Servers.honest job sources prompt c.args.logs slot (Ok Failed) calls) (record { last = receive slot None; earlier = []; is = refl; failed = refl; went = refl })

pub returns-in-Err-NoMemory-clause-went : goal.returns-in-Err-NoMemory-clause-went
returns-in-Err-NoMemory-clause-went g c = λ job sources prompt calls follows is of at.
    let slot = c.args.slot in
    Went-call (receive slot None) c.in-Err-NoMemory.ensures.told follows refl (at_asked job.path sources prompt c.args.logs slot calls c.requires.few at) (AfterLine g.C.Servers.functions g.C.Servers.honest job sources prompt c.args.logs slot (Err NoMemory) calls) (tt, inl refl)

pub returns-clause-went : goal.returns-clause-went
returns-clause-went g c = λ job sources prompt calls follows is of at.
    let slot = c.args.slot in
    let line = c.in-Ok.line.items in
    let functions = g.C.Servers.functions in
    let honest = g.C.Servers.honest in
    let P : List ℕ → Type 0 = λ bytes. IsHeard c.args.kind c.args.logs bytes c.heard_line.result in
    Went-call (receive slot (Some line)) c.in-Ok.ensures.told follows refl (at_asked job.path sources prompt c.args.logs slot calls c.requires.few at) (AfterLine functions honest job sources prompt c.args.logs slot c.heard_line.result calls) (after_line functions honest job sources prompt c.args.logs slot calls line of at (c.in-Ok.ensures.answers calls follows) c.args.kind c.heard_line.result is (subst P c.as_slice.ensures.value c.heard_line.ensures))

pub returns-clause-bounded : goal.returns-clause-bounded
returns-clause-bounded g c = heard_bounded c.args.kind c.args.logs c.as_slice.result.now c.heard_line.result c.heard_line.ensures
