-- Each slot is stopped.
use Rattle.std.proofs.Common.{◌≡◌, ◌<◌, ◌≤◌, ◌+◌, ◌∙◌, ℕ, List, ◌∷◌, None, refl, sym, subst, inl, inr, arith}
use Rattle.std.proofs.Math.Nat.{eq-or-lt_of_le}
use Rattle.view_ports.specs.Calls.{Call, child, stop}
use Rattle.child_pool.specs.Histories.{AllStops}
use Rattle.child_pool.proofs.Asking.{stopped_child}
use Rattle.child_pool.proofs.Slots.{child_elsewhere, map_in, none_in, stop_in}
use Rattle.child_pool.proofs.pool.Pool.stop_all.Goals as goal

-- the slots up to this one have no child now
one_more_stopped : (slot other : ℕ) (calls : List Call) → ((k : ℕ) → k < slot → child k calls ≡ None) → other < slot + 1 → child other (stop slot ∷ calls) ≡ None
one_more_stopped slot other calls none less =
    let most : other ≤ slot = omega arith in
    elim (eq-or-lt_of_le most) [
      | inl here ↦ subst (λ (k : ℕ). child k (stop slot ∷ calls) ≡ None) (sym here) (stopped_child slot calls)
      | inr lower ↦ child_elsewhere (stop slot) other calls (λ same. omega arith) ∙ none other lower
    ]

pub loop-slot-init : goal.loop-slot-init
loop-slot-init g c = (
  refl,
  λ job calls follows. none_in follows (λ added now. ((other : ℕ) → other < 0 → child other now ≡ None) × AllStops added) (λ other never. absurd (omega arith), tt),
)

pub loop-slot-preserved : goal.loop-slot-preserved
loop-slot-preserved g c = (
  c.stop.ensures.cause ∙ c.loop-slot.invariant.0,
  λ job calls follows.
      let slot = c.loop-slot.slot in
      let within : slot ≤ c.args.self.now.width = omega arith in
      let w = c.loop-slot.invariant.1 job calls follows in
      stop_in slot within w c.stop.ensures.told (λ added now. ((other : ℕ) → other < slot + 1 → child other now ≡ None) × AllStops added)
      (λ other less. one_more_stopped slot other w.now w.holds.0 less, (tt, w.holds.1)),
)

pub returns-clause-went : goal.returns-clause-went
returns-clause-went g c = λ job calls follows.
    let w = c.loop-slot.invariant.1 job calls follows in
    map_in w _
    (record { forgotten = refl; reducer = refl; stopped = λ other less. w.holds.0 other (omega arith) }, w.holds.1)
