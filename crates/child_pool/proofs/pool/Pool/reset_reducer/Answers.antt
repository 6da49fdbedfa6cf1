-- The child that reduces is reset, or there is a refusal.
use Rattle.std.specs.Prelude.{bytes_eq, not}
use Rattle.std.proofs.Common.{◌≡◌, ◌∙◌, ℕ, List, [], Bool, Some, Ok, Err, refl, sym, ap, subst}
use Rattle.view_ports.specs.Faults.{Rose}
use Rattle.child_pool.specs.declared.pool_fault.PoolFault.TheVariants.{NoMemory}
use Rattle.child_pool.specs.Histories.{Went}
use Rattle.child_pool.specs.Jobs.{job_of}
use Rattle.child_pool.specs.Pools.{is_reducer}
use Rattle.child_pool.specs.Preparing.{AfterPrepare}
use Rattle.child_pool.specs.ReduceSlot.{AfterReset, is_fresh, reset_prompts}
use Rattle.child_pool.proofs.Going.{Went-none}
use Rattle.child_pool.proofs.Resets.{kept_at, reset_pool}
use Rattle.child_pool.proofs.Trying.{stops_first}
use Rattle.child_pool.proofs.Widened.{prepare_wider}
use Rattle.child_pool.proofs.pool.Pool.reset_reducer.Goals as goal
use Rattle.child_pool.proofs.pool.Pool.reset_reducer.Goals.{in-Some, in-None}

pub returns-in-Err-clause-went : goal.returns-in-Err-clause-went
returns-in-Err-clause-went g c = λ reduces calls follows stands.
    let rose = Rose (g.C.Servers.faults c.args.servers.now) (g.C.Servers.faults c.args.servers.now) in
    Went-none follows (AfterReset g.C.Servers.functions g.C.Servers.honest c.args.path.now reduces c.args.self.now rose c.args.self.now (Err NoMemory) calls)
    (record { caused = tt; stops = stops_first rose (reset_prompts c.args.self.now.width (is_fresh c.args.path.now c.args.self.now)) })

pub returns-in-Ok-prepare_slot-clause-went : goal.returns-in-Ok-prepare_slot-clause-went
returns-in-Ok-prepare_slot-clause-went g c = λ reduces calls follows stands.
    let functions = g.C.Servers.functions in
    let honest = g.C.Servers.honest in
    let old = c.args.self.now in
    let path = c.args.path.now in
    let rose = Rose (g.C.Servers.faults c.args.servers.now) (g.C.Servers.faults c.prepare_slot.new.servers) in
    let same : c.match-self.kept ≡ is_reducer path old.reducer = elim c.match-self.branch [
      | in-Some w ↦ w.kept-is ∙ w.eq-kept.ensures ∙ ap (λ (p : List ℕ). bytes_eq p path) w.as_str.ensures ∙ sym (ap (is_reducer path) w.in-Some.is)
      | in-None w ↦ w.kept-is ∙ sym (ap (is_reducer path) w.in-None.is)
    ] in
    let fresh : not c.match-self.kept ≡ is_fresh path old = ap not same in
    let w = subst (λ (b : Bool). Went (g.C.Servers.may_follow c.prepare_slot.new.servers) (job_of path [] []) old.width calls (AfterPrepare functions honest (job_of path [] []) old.width (reset_prompts old.width b) rose (Ok tt) calls)) fresh
    (c.in-Ok-prepare_slot.ensures.went [] calls follows (λ is. kept_at old path calls (sym fresh ∙ is) stands)) in
    reset_pool functions honest path reduces old _ rose refl refl (ap Some c.in-Ok.ensures) stands w

pub returns-in-Err-prepare_slot-clause-went : goal.returns-in-Err-prepare_slot-clause-went
returns-in-Err-prepare_slot-clause-went g c = λ reduces calls follows stands.
    let functions = g.C.Servers.functions in
    let honest = g.C.Servers.honest in
    let old = c.args.self.now in
    let path = c.args.path.now in
    let rose = Rose (g.C.Servers.faults c.args.servers.now) (g.C.Servers.faults c.prepare_slot.new.servers) in
    let fault = c.in-Err-prepare_slot.fault in
    let same : c.match-self.kept ≡ is_reducer path old.reducer = elim c.match-self.branch [
      | in-Some w ↦ w.kept-is ∙ w.eq-kept.ensures ∙ ap (λ (p : List ℕ). bytes_eq p path) w.as_str.ensures ∙ sym (ap (is_reducer path) w.in-Some.is)
      | in-None w ↦ w.kept-is ∙ sym (ap (is_reducer path) w.in-None.is)
    ] in
    let fresh : not c.match-self.kept ≡ is_fresh path old = ap not same in
    let w = subst (λ (b : Bool). Went (g.C.Servers.may_follow c.prepare_slot.new.servers) (job_of path [] []) old.width calls (AfterPrepare functions honest (job_of path [] []) old.width (reset_prompts old.width b) rose (Err fault) calls)) fresh
    (c.in-Err-prepare_slot.ensures.went [] calls follows (λ is. kept_at old path calls (sym fresh ∙ is) stands)) in
    prepare_wider path [] reduces (λ source none. absurd none) functions honest (reset_prompts old.width (is_fresh path old)) rose (Err fault) w
