-- A view is its stages: its design document is read, its index had, and its rows shown.
use Rattle.std.proofs.Common.{◌≡◌, ◌≢◌, ◌∙◌, ℕ, List, Some, Result, Ok, Err, inr, refl, sym, ap, subst}
use Rattle.json_terms.specs.declared.term.Row.{Row}
use Rattle.gate_file.specs.declared.fault.GateFault.TheVariants.{DiskFault as DiskFaultOfGate}
use Rattle.tree_index.specs.declared.fault.IndexFault.{IndexFault}
use Rattle.tree_index.specs.declared.fault.IndexFault.TheVariants.{Store}
use Rattle.std.specs.Prelude.{slice_get}
use Rattle.view_ports.specs.Disk.{MovesNone}
use Rattle.view_ports.specs.declared.folder.Folder.{Ghosts as Folders}
use Rattle.view_ports.specs.declared.servers.Servers.{Ghosts as Servers}
use Rattle.view_ports.proofs.DiskRuns.{none_refl}
use Rattle.view_ports.proofs.Told.{told_refl}
use Rattle.design_docs.specs.declared.design.Design.{Design}
use Rattle.query_args.specs.declared.query.Query.{Query}
use Rattle.tree_index.specs.declared.index.Index.{Index}
use Rattle.tree_groups.specs.declared.groups.Groups.{Groups}
use Rattle.tree_groups.specs.Groups.{open_of, IsGroup}
use Rattle.view_engine.specs.declared.halt.Halt.{Halt}
use Rattle.view_engine.specs.declared.halt.Halt.TheVariants.{Stopped}
use Rattle.view_engine.specs.declared.halt.StepFault.TheVariants.{DiskFault, NoMemory}
use Rattle.view_engine.specs.declared.refusal.Refusal.{Refusal}
use Rattle.view_engine.specs.declared.refusal.Refusal.TheVariants as refusal
use Rattle.view_engine.specs.declared.request.Request.{Request}
use Rattle.view_engine.specs.declared.request.Request.TheVariants.{View}
use Rattle.view_engine.specs.Answering.{EndsReading, Lent, ShowsView}
use Rattle.view_engine.specs.Calls.{Scene}
use Rattle.view_engine.specs.Disks.{IfStopped, IsReadReason}
use Rattle.view_engine.specs.Halts.{halted_by}
use Rattle.view_engine.specs.Viewed.{IsTurnedAway, ViewsFor}
use Rattle.view_engine.proofs.Sparing.{disk_met_by_index}

-- the index in a place is one
pub one_group : (groups : Groups) (slot : ℕ) (sig : List ℕ) (views : ℕ) (found index : Index) → slice_get (open_of groups) slot ≡ Some found → IsGroup groups slot sig views index → IsGroup groups slot sig views found
one_group groups slot sig views found index is there =
    let same : Some index ≡ Some found = sym there.there ∙ is in
    subst (IsGroup groups slot sig views) (let one : index ≡ found = cc in one) there

module _ {F C : Type 0} (f : Folders F) (s : Servers C) (old new : Lent F C) (design : Design) (place : ℕ) (query : Query) (out out' : List ℕ) (result : Result (Unit {0}) Halt) where
  -- it is shown under its id
  pub shown_from : (groups : Groups) (slot : ℕ) (sig : List ℕ) (views : ℕ) (found index : Index) (id own : List ℕ) → slice_get (open_of groups) slot ≡ Some found → IsGroup groups slot sig views index → id ≡ own
      → ShowsView f s old new design place query found id out out' result
      → (index : Index) × IsGroup groups slot sig views index × ShowsView f s old new design place query index own out out' result
  shown_from groups slot sig views found index id own is there named shows =
      (found, one_group groups slot sig views found index is there, subst (λ (i : List ℕ). ShowsView f s old new design place query found i out out' result) named shows)

-- no fault of the folder is counted by it, unless that ended it
module _ {F C : Type 0} (f : Folders F) (s : Servers C) (old new : Lent F C) (design : Design) (place : ℕ) (query : Query) (index : Index) (id out out' : List ℕ) where
  pub shown_spares : (result : Result (Unit {0}) Halt) → ShowsView f s old new design place query index id out out' result → result ≢ Err (Stopped DiskFault) → f.faults new.folder ≡ f.faults old.folder
  shown_spares result shows other = by_read shows.read shows.reads.cause.still shows.ends
    where
      by_read : (read : Result (List Row) IndexFault) → ((read ≢ Err (Store DiskFaultOfGate)) → f.faults new.folder ≡ f.faults old.folder) → EndsReading f s old new design place query index id out out' read result → f.faults new.folder ≡ f.faults old.folder
      by_read (Ok rows) still ends = still (λ is. let no : ⊥ = cc in no)
      by_read (Err fault) still ends = still (λ is. other (ends.0 ∙ ap Err (disk_met_by_index id fault (let same : fault ≡ Store DiskFaultOfGate = cc in same))))

-- ---- a line whose request isn't performed

module _ {F C : Type 0} (f : Folders F) (s : Servers C) (now : Scene F C) (out : List ℕ) where
  views_none : (request : Result Request Refusal) (halt : Halt) → IsTurnedAway (Err halt) → IfStopped (IsReadReason f now.engine.docs now.folder now.folder) halt → ViewsFor f s now now out out request (Err halt)
  views_none (Ok (View view query)) halt turned why = inr (record {
    unasked = record { servers = refl; pool = refl; cache = refl; groups = refl; files = told_refl (f.disk now.folder) MovesNone none_refl };
    turned = turned;
    silent = refl;
    why = why;
  })
  views_none other halt turned why = tt

  pub views_unread : (request : Result Request Refusal) (met : Refusal) → (met ≢ refusal.NoMemory → request ≡ Err met) → ViewsFor f s now now out out request (Err (halted_by met))
  views_unread request refusal.NoMemory is = views_none request (Stopped NoMemory) tt tt
  views_unread request other is = subst (λ (r : Result Request Refusal). ViewsFor f s now now out out r (Err (halted_by other))) (sym (is (λ same. cc))) tt
