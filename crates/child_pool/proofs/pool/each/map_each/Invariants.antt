-- the documents so far are mapped
use Rattle.std.proofs.Common.{◌≤◌, ℕ, List, length, min, take}
use Rattle.std.specs.List.{AllByRecursion}
use Rattle.json_terms.specs.Json.{Json}
use Rattle.view_ports.specs.Calls.{Call}
use Rattle.view_ports.specs.Faults.{Rose}
use Rattle.child_pool.specs.Histories.{Went}
use Rattle.child_pool.specs.Jobs.{IsAmong, job_of}
use Rattle.child_pool.specs.Mapping.{AreBounded}
use Rattle.child_pool.specs.Pools.{HasMappedEach, StandReady}
use Rattle.child_pool.proofs.pool.each.map_each.Given as goal

abbrev pub invariant-loop-document : goal.invariant-loop-document
invariant-loop-document g l =
    (g.C.Servers.faults l.initial.servers ≤ g.C.Servers.faults l.servers)
    × ((all : List (List (List ℕ × Json))) (slots kept : ℕ) (calls : List Call) → g.C.Servers.may_follow l.initial.servers calls → AllByRecursion (IsAmong all) l.documents
    → slots ≤ 1 → kept ≤ 1 → min 1 (length l.documents) ≤ slots → StandReady g.C.Servers.functions g.C.Servers.honest (job_of l.path l.sources all) slots kept calls
    → Went (g.C.Servers.may_follow l.servers) (job_of l.path l.sources all) 0 calls
    (HasMappedEach g.C.Servers.functions g.C.Servers.honest (job_of l.path l.sources all) slots kept (take l.document-index l.documents) (Rose (g.C.Servers.faults l.initial.servers) (g.C.Servers.faults l.servers)) l.lists))
    × AreBounded (length l.sources) l.document-index l.lists
