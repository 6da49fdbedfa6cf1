-- the slots so far have no child
use Rattle.std.proofs.Common.{◌≡◌, ◌<◌, ℕ, List, None}
use Rattle.view_ports.specs.Calls.{Call, child}
use Rattle.child_pool.specs.Histories.{WentIn, AllStops}
use Rattle.child_pool.specs.Jobs.{Job}
use Rattle.child_pool.proofs.pool.Pool.stop_all.Given as goal

abbrev pub invariant-loop-slot : goal.invariant-loop-slot
invariant-loop-slot g l =
    (g.C.Servers.faults l.servers ≡ g.C.Servers.faults l.initial.servers)
    × ((job : Job) (calls : List Call) → g.C.Servers.may_follow l.initial.servers calls
    → WentIn (g.C.Servers.may_follow l.servers) job l.self.width calls (λ added now. ((other : ℕ) → other < l.slot → child other now ≡ None) × AllStops added))
