-- the slots so far are ready
use Rattle.std.proofs.Common.{◌≤◌, ℕ, List}
use Rattle.json_terms.specs.Json.{Json}
use Rattle.view_ports.specs.Calls.{Call}
use Rattle.child_pool.specs.Ends.{HasRisen}
use Rattle.child_pool.specs.Histories.{WentIn}
use Rattle.child_pool.specs.Jobs.{job_of}
use Rattle.child_pool.specs.Pools.{AreThere}
use Rattle.child_pool.proofs.Readied.{HasReadied}
use Rattle.child_pool.proofs.preparing.prepare_slots.Given as goal

abbrev pub invariant-loop-slot : goal.invariant-loop-slot
invariant-loop-slot g l =
    (g.C.Servers.faults l.initial.servers ≤ g.C.Servers.faults l.servers)
    × ((width : ℕ) (documents : List (List (List ℕ × Json))) (calls : List Call) → l.slots ≤ width → g.C.Servers.may_follow l.initial.servers calls
    → AreThere l.path l.kept calls
    → WentIn (g.C.Servers.may_follow l.servers) (job_of l.path l.sources documents) width calls
    (HasReadied g.C.Servers.functions g.C.Servers.honest (job_of l.path l.sources documents) l.kept l.slots l.slot (HasRisen g.C.Servers l.initial.servers l.servers) calls))
