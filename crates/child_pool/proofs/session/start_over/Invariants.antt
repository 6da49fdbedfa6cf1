-- the stages so far are done
use Rattle.std.proofs.Common.{◌≤◌, ℕ, List, Ok, true}
use Rattle.json_terms.specs.Json.{Json}
use Rattle.view_ports.specs.Calls.{Call}
use Rattle.child_pool.specs.Histories.{Went}
use Rattle.child_pool.specs.Jobs.{job_of}
use Rattle.child_pool.specs.Stages.{AfterStages, anew}
use Rattle.child_pool.proofs.session.start_over.Given as goal

abbrev pub invariant-loop-stage : goal.invariant-loop-stage
invariant-loop-stage g l =
    (g.C.Servers.faults l.fn.servers ≤ g.C.Servers.faults l.servers)
    × ((documents : List (List (List ℕ × Json))) (calls : List Call) → g.C.Servers.may_follow l.fn.servers calls
    → Went (g.C.Servers.may_follow l.servers) (job_of l.path l.sources documents) l.slot calls (AfterStages g.C.Servers.functions g.C.Servers.honest (job_of l.path l.sources documents) l.slot l.stage (anew l.slot l.sources l.stage) (Ok true) calls))
