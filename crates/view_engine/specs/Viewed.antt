-- What a view does beside its reply: its index is opened or brought up to date, and shown, whatever the folder tells.
use Rattle.std.specs.Prelude.{◌≡◌, ◌⊎◌, ◌<◌, ℕ, List, true, false, length, Result, Ok, Err, IfErr}
use Rattle.view_ports.specs.Disk.{MovesNone, Tells}
use Rattle.view_ports.specs.declared.folder.Folder.{Ghosts as Folders}
use Rattle.view_ports.specs.declared.servers.Servers.{Ghosts as Servers}
use Rattle.design_docs.specs.declared.design.Design.{Design}
use Rattle.query_args.specs.declared.query.Query.{Query}
use Rattle.view_engine.specs.declared.engine.Engine.{Engine}
use Rattle.tree_index.specs.declared.fault.IndexFault.{IndexFault}
use Rattle.tree_index.specs.declared.index.Index.{Index}
use Rattle.tree_updater.specs.declared.fault.UpdateFault.{UpdateFault}
use Rattle.tree_updater.specs.Faults.{by_index}
use Rattle.tree_groups.specs.Brings.{Brings}
use Rattle.tree_groups.specs.Groups.{IsGroup}
use Rattle.tree_groups.specs.Openings.{OpensDesign}
use Rattle.tree_groups.specs.Reached.{sig_of, views_in}
use Rattle.tree_groups.specs.Sides.{side}
use Rattle.view_engine.specs.declared.halt.Halt.{Halt}
use Rattle.view_engine.specs.declared.halt.Halt.TheVariants.{Refused}
use Rattle.view_engine.specs.declared.halt.StepFault.{StepFault}
use Rattle.view_engine.specs.declared.refusal.Refusal.{Refusal}
use Rattle.view_engine.specs.declared.refusal.Refusal.TheVariants.{CompilationError, ServerFault, ServerReply}
use Rattle.view_engine.specs.declared.request.Request.{Request}
use Rattle.view_engine.specs.declared.request.Request.TheVariants.{View}
use Rattle.view_engine.specs.Answering.{lent, Lent, ShowsView}
use Rattle.view_engine.specs.Calls.{IsToldAs, IsUnasked, Scene}
use Rattle.view_engine.specs.Disks.{IfStopped, IsReadReason}
use Rattle.view_engine.specs.Planning.{IsReadOf}
use Rattle.view_engine.specs.View.{design_id}
use Rattle.view_engine.specs.ViewPlan.{met_by, ShowsRows}
use Rattle.view_engine.specs.ViewQuery.{query_for, view_query, ViewQuery}

-- it ends before its index is looked for: it isn't done, nor refused by what its query servers tell
abbrev pub IsTurnedAway : Result (Unit {0}) Halt → Type 0
IsTurnedAway (Ok done) = ⊥
IsTurnedAway (Err (Refused (CompilationError id))) = ⊥
IsTurnedAway (Err (Refused ServerFault)) = ⊥
IsTurnedAway (Err (Refused (ServerReply line))) = ⊥
IsTurnedAway (Err other) = Unit {0}

-- an index that can't be opened is met as one that can't be brought up to date
abbrev pub by_opening : Result ℕ IndexFault → Result ℕ UpdateFault
by_opening (Ok slot) = Ok slot
by_opening (Err fault) = Err (by_index fault)

-- a request that is done is answered with what it printed, and one that isn't is told
abbrev pub IsEndTold : Result (Unit {0}) Halt → List ℕ → List ℕ → Result (Unit {0}) StepFault → Type 0
IsEndTold (Ok done) printed out' result = (result ≡ Ok tt) × (out' ≡ printed)
IsEndTold (Err halt) printed out' result = IsToldAs halt printed out' result

-- the index of a design is brought up to date by an engine, in some steps
pub record BringsSomehow {F C : Type 0} (f : Folders F) (s : Servers C) (old new : Engine) (design : Design) (folder folder' : F) (servers servers' : C) (result : Result ℕ UpdateFault) : Type 0 where
  pub steps : ℕ
  pub brings : Brings f s old.docs design (side folder servers old.pool old.groups old.cache 0) (side folder' servers' new.pool new.groups new.cache steps) result

module _ {F C : Type 0} (f : Folders F) (s : Servers C) (old new : Scene F C) (name : ViewQuery) (out out' : List ℕ) where
  -- what the view is about: the design of its document, its place there, and its query
  pub record IsAbout (design : Design) (place : ℕ) (query : Query) : Type 0 where
    pub of_document : IsReadOf f old.engine.docs old.folder name design
    pub within : place < length design.views
    pub named : ShowsRows design.views name.view place
    pub is_query : query ≡ query_for design.views name

  -- where its index is had, in a place, the reply is printed from it; else the view ends as that did
  abbrev pub EndsAfter : Design → ℕ → Query → Lent F C → Result ℕ UpdateFault → Result (Unit {0}) Halt → Type 0
  EndsAfter design place query between (Ok slot) result =
      (index : Index) × IsGroup new.engine.groups slot (sig_of design) (views_in design) index
      × ShowsView f s between (lent new.folder new.servers new.engine.pool new.engine.cache) design place query index (design_id name.design) out out' result
  EndsAfter design place query between (Err fault) result =
      (result ≡ Err (met_by (design_id name.design) fault)) × (lent new.folder new.servers new.engine.pool new.engine.cache ≡ between) × (out' ≡ out)

  -- the index is brought up to date, behind the reading of the design document, and then shown
  pub record IsUpdated (result : Result (Unit {0}) Halt) (read : F) (design : Design) (place : ℕ) (query : Query) : Type 0 where
    pub between : Lent F C
    pub steps : ℕ
    pub brought : Result ℕ UpdateFault
    pub brings : Brings f s old.engine.docs design (side read old.servers old.engine.pool old.engine.groups old.engine.cache 0)
        (side between.folder between.servers between.pool new.engine.groups between.cache steps) brought
    pub ends : EndsAfter design place query between brought result

  -- or it is opened as it stands, and then shown
  pub record IsKept (result : Result (Unit {0}) Halt) (read : F) (design : Design) (place : ℕ) (query : Query) : Type 0 where
    pub folder : F
    pub opened : Result ℕ IndexFault
    pub opens : OpensDesign f old.engine.docs design old.engine.groups new.engine.groups read folder opened
    pub ends : EndsAfter design place query (lent folder old.servers old.engine.pool old.engine.cache) (by_opening opened) result

  -- by whether the query brings it up to date
  pub record IsViewed (result : Result (Unit {0}) Halt) : Type 0 where
    pub design : Design
    pub place : ℕ
    pub query : Query
    pub about : IsAbout design place query
    pub read : F
    pub same : Tells (f.disk old.folder) (f.disk read) MovesNone
    pub counted : f.faults read ≡ f.faults old.folder
    pub updated : query.update ≡ true → IsUpdated result read design place query
    pub kept : query.update ≡ false → IsKept result read design place query

  -- it ends before that: nothing is asked, written or printed, and a fault is one of reading the design document
  pub record EndsBefore (result : Result (Unit {0}) Halt) : Type 0 where
    pub unasked : IsUnasked f s old new
    pub turned : IsTurnedAway result
    pub silent : out' ≡ out
    pub why : IfErr result (IfStopped (IsReadReason f old.engine.docs old.folder new.folder))

  -- a view has its index opened or brought up to date, and then shown, unless it ends before
  abbrev pub Views : Result (Unit {0}) Halt → Type 0
  Views result = IsViewed result ⊎ EndsBefore result

-- of a request that is no view nothing is said here
abbrev pub ViewsFor : {F C : Type 0} → Folders F → Servers C → Scene F C → Scene F C → List ℕ → List ℕ → Result Request Refusal → Result (Unit {0}) Halt → Type 0
ViewsFor f s old new out out' (Ok (View view query)) result = Views f s old new (view_query view query) out out' result
ViewsFor f s old new out out' other result = Unit {0}

-- the same of a line, as its request's end is told
pub record ViewsLine {F C : Type 0} (f : Folders F) (s : Servers C) (old new : Scene F C) (out out' : List ℕ) (request : Result Request Refusal) (result : Result (Unit {0}) StepFault) : Type 0 where
  pub printed : List ℕ
  pub ended : Result (Unit {0}) Halt
  pub views : ViewsFor f s old new out printed request ended
  pub told : IsEndTold ended printed out' result
