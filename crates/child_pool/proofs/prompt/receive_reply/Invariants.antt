-- so many log lines came, and nothing else
use Rattle.std.proofs.Common.{◌≡◌, ◌≤◌, ℕ, List, [], ◌∷◌, length}
use Rattle.view_ports.specs.Calls.{Call}
use Rattle.view_ports.specs.Commands.{command}
use Rattle.child_pool.specs.Causes.{kind_of}
use Rattle.child_pool.specs.Histories.{Went}
use Rattle.child_pool.specs.Jobs.{Job, IsPromptOf}
use Rattle.child_pool.specs.Outcomes.{OnlyLogged}
use Rattle.child_pool.specs.Sessions.{IsInSession}
use Rattle.child_pool.proofs.prompt.receive_reply.Given as goal

abbrev pub invariant-loop-logs : goal.invariant-loop-logs
invariant-loop-logs g l =
    (g.C.Servers.faults l.initial.servers ≤ g.C.Servers.faults l.servers)
    × ((job : Job) (sources : List (List ℕ)) (prompt : List ℕ) (calls : List Call) → g.C.Servers.may_follow l.initial.servers calls
    → l.kind ≡ kind_of (command prompt) (length sources) → IsPromptOf job sources (command prompt) → IsInSession job.path sources (prompt ∷ []) 0 l.slot calls
    → Went (g.C.Servers.may_follow l.servers) job l.slot calls (OnlyLogged job.path sources prompt l.logs l.slot))
