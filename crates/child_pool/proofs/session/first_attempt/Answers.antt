-- A fresh child begins at the first stage.
use Rattle.std.proofs.Common.{◌∷◌, ◌++◌, ℕ, suc, Bool, sym, subst}
use Rattle.child_pool.specs.Histories.{Went}
use Rattle.child_pool.specs.Jobs.{job_of}
use Rattle.child_pool.specs.Prompts.{begun}
use Rattle.child_pool.specs.Stages.{AfterStages, stage_command}
use Rattle.child_pool.specs.Talk.{start_child, asks}
use Rattle.child_pool.proofs.session.first_attempt.Goals as goal

pub returns-then-fresh-clause-went : goal.returns-then-fresh-clause-went
returns-then-fresh-clause-went g c = λ documents calls follows told.
    let slot = c.args.slot in
    let sources = c.args.sources.now in
    let path = c.args.path.now in
    let job = job_of path sources documents in
    subst (λ (fresh : Bool). Went (g.C.Servers.may_follow c.start_over.new.servers) job slot calls (AfterStages g.C.Servers.functions g.C.Servers.honest job slot (suc c.args.stage) (begun fresh slot ++ asks slot (stage_command sources c.args.stage) 0) c.start_over.result calls)) (sym c.if-fresh.true)
    (subst (λ (n : ℕ). Went (g.C.Servers.may_follow c.start_over.new.servers) job slot calls (AfterStages g.C.Servers.functions g.C.Servers.honest job slot (suc n) (start_child slot ∷ asks slot (stage_command sources n) 0) c.start_over.result calls)) (sym (c.requires.stage.1 c.if-fresh.true)) (c.start_over.ensures.went documents calls follows))

pub returns-clause-went : goal.returns-clause-went
returns-clause-went g c = λ documents calls follows told.
    let slot = c.args.slot in
    let sources = c.args.sources.now in
    let job = job_of c.args.path.now sources documents in
    subst (λ (fresh : Bool). Went (g.C.Servers.may_follow c.tell.new.servers) job slot calls (AfterStages g.C.Servers.functions g.C.Servers.honest job slot (suc c.args.stage) (begun fresh slot ++ asks slot (stage_command sources c.args.stage) 0) c.tell.result calls)) (sym c.if-fresh.false)
    (c.tell.ensures.went c.args.path.now documents calls follows (told c.if-fresh.false))
