-- the stages so far are done, in two attempts each at most
use Rattle.std.proofs.Common.{◌≡◌, ◌≤◌, ℕ, List, Ok, false}
use Rattle.json_terms.specs.Json.{Json}
use Rattle.view_ports.specs.Calls.{Call}
use Rattle.view_ports.specs.Faults.{Rose}
use Rattle.child_pool.specs.Histories.{Went}
use Rattle.child_pool.specs.Jobs.{job_of}
use Rattle.child_pool.specs.Prompts.{stage_prompts}
use Rattle.child_pool.specs.Sessions.{IsTold}
use Rattle.child_pool.specs.Stages.{AfterAttempts}
use Rattle.child_pool.proofs.session.tell_all.Given as goal

abbrev pub invariant-loop-stage : goal.invariant-loop-stage
invariant-loop-stage g l =
    (g.C.Servers.faults l.fn.servers ≤ g.C.Servers.faults l.servers)
    × ((documents : List (List (List ℕ × Json))) (calls : List Call) → g.C.Servers.may_follow l.fn.servers calls
    → (l.fresh ≡ false → IsTold g.C.Servers.functions g.C.Servers.honest l.path l.sources 0 l.slot calls)
    → Went (g.C.Servers.may_follow l.servers) (job_of l.path l.sources documents) l.slot calls (AfterAttempts g.C.Servers.functions g.C.Servers.honest (job_of l.path l.sources documents) l.slot l.stage (stage_prompts l.slot l.sources l.fresh l.stage) (Rose (g.C.Servers.faults l.fn.servers) (g.C.Servers.faults l.servers)) (Ok tt) calls))
