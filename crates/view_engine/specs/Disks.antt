-- What a request promises of the files and their disk, and why it meets a fault.
use Rattle.std.specs.Prelude.{◌≡◌, ◌≢◌, ◌⊎◌, ◌≤◌, ℕ, List, [], length, true, false, Option, None, Some, Result, Ok, Err, IfErr}
use Rattle.json_terms.specs.Json.{Json}
use Rattle.design_docs.specs.Design.{views_of}
use Rattle.gate_file.specs.Open.{IsFirstDamage}
use Rattle.view_signature.specs.Signature.{signature_of}
use Rattle.view_ports.specs.Disk.{Disk, IfTold, LeavesOnly, Moves, MovesNone, Tells}
use Rattle.view_ports.specs.Faults.{Rose}
use Rattle.view_ports.specs.declared.file_name.FileName.{FileName}
use Rattle.view_ports.specs.declared.folder.Folder.{Ghosts as Folders}
use Rattle.doc_file.specs.declared.docs.Docs.{Docs}
use Rattle.doc_file.specs.Docs.{bytes_in, last_of, seq_of as update_seq, IsAt as AreAt, IsLive, IsOpen}
use Rattle.view_engine.specs.declared.halt.Halt.{Halt}
use Rattle.view_engine.specs.declared.halt.Halt.TheVariants.{Refused, Stopped}
use Rattle.view_engine.specs.declared.halt.StepFault.{StepFault}
use Rattle.view_engine.specs.declared.halt.StepFault.TheVariants.{DiskFault, Damaged, Full, NoMemory}
use Rattle.view_engine.specs.declared.refusal.Refusal.{Refusal}
use Rattle.view_engine.specs.declared.request.Request.{Request}
use Rattle.view_engine.specs.View.{design_id, view_refusal}
use Rattle.child_pool.specs.Pools.{languages_of}
use Rattle.view_engine.specs.Cleanup.{IsLiveSignature}
use Rattle.view_engine.specs.HeldDesigns.{AreDesignsWhole, IsHeldSignature, IsUnheld}
use Rattle.design_docs.specs.History.{Write}
use Rattle.view_engine.specs.declared.request.Request.TheVariants.{Cleanup, Get, View as ViewRequest}
use Rattle.view_ports.specs.File.{File}
use Rattle.view_ports.specs.declared.file_name.Stem.TheVariants.{View}
use Rattle.gate_file.specs.declared.fault.GateFault.TheVariants as gate
use Rattle.gate_file.specs.Calls.{too_long, used_up}
use Rattle.gate_file.specs.GateFile.{name_of}
use Rattle.tree_laws.specs.Reaching.{IsReached, IsUnfit}
use Rattle.tree_laws.specs.Stores.{Places}
use Rattle.node_file.specs.Records.{node_at}
use Rattle.index_trees.specs.Exchanges.{IsFaultyIn}
use Rattle.index_trees.specs.Trees.{row_items}
use Rattle.design_docs.specs.declared.design.View.{View as DesignView}
use Rattle.tree_index.specs.declared.index.Index.{Index}
use Rattle.tree_index.specs.Calls.{IsOpen as IsIndexOpenOver}
use Rattle.tree_index.specs.Held.{IsDamagedAt, IsFileOf}
use Rattle.tree_index.specs.Index.{file_of, last_of as last_commit, seq_of}
use Rattle.tree_index.specs.RowsRead.{tree_of}
use Rattle.view_engine.specs.declared.engine.Engine.{Engine}
use Rattle.tree_groups.specs.declared.groups.Groups.{Groups}
use Rattle.tree_groups.specs.Cleans.{IsIndexFile}
use Rattle.tree_groups.specs.Groups.{IsGroup}
use Rattle.view_engine.specs.Updating.{AreFit}
use Rattle.view_engine.specs.Worlds.{IsAtWorld, IsOpen as IsEngineOpen}
use Rattle.view_engine.specs.Halts.{DocumentsStandAround, FitsFor, GoesOn, IsDamage, IsFullFor, IsStill, LeavesFiles, MovesDocuments, WouldWrite, Writes}
use Rattle.view_engine.specs.World.{World, of_history}
use Rattle.view_engine.specs.ViewQuery.{ViewQuery, parameters_in, parameters_of, view_query}
use Rattle.query_args.specs.Query.{is_updated}

-- ---- how a request ends

-- it was refused, or ended by a fault that isn't one of the disk
abbrev pub HasGivenUp : {T : Type 0} → Result T Halt → Type 0
HasGivenUp (Ok done) = ⊥
HasGivenUp (Err halt) = LeavesFiles halt

-- the engine may go on
abbrev pub MayGoOn : {T : Type 0} → Result T Halt → Type 0
MayGoOn (Ok done) = Unit {0}
MayGoOn (Err halt) = GoesOn halt

-- it was done or refused, so that there is a reply
abbrev pub HasReply : Result (Unit {0}) Halt → Type 0
HasReply (Ok done) = Unit {0}
HasReply (Err (Refused refusal)) = Unit {0}
HasReply (Err (Stopped fault)) = ⊥

-- it was refused, or memory ran out, so that the reply may be that
abbrev pub MayWant : Result (Unit {0}) Halt → Type 0
MayWant (Ok done) = ⊥
MayWant (Err (Refused refusal)) = Unit {0}
MayWant (Err (Stopped NoMemory)) = Unit {0}
MayWant (Err (Stopped other)) = ⊥

-- what is said of its fault, where it is stopped by one
abbrev pub IfStopped : (StepFault → Type 0) → Halt → Type 0
IfStopped P (Refused refusal) = Unit {0}
IfStopped P (Stopped fault) = P fault

-- a request that reads documents from their file
abbrev pub ReadsDocuments : Result Request Refusal → Type 0
ReadsDocuments (Ok (Get id)) = Unit {0}
ReadsDocuments (Ok (ViewRequest view query)) = Unit {0}
ReadsDocuments (Ok Cleanup) = Unit {0}
ReadsDocuments other = ⊥

-- a view, which may open the index of its design and bring it up to date
abbrev pub IsView : Result Request Refusal → Type 0
IsView (Ok (ViewRequest view query)) = Unit {0}
IsView other = ⊥

-- a request that may change files of indexes: a view, or a cleanup
abbrev pub IsOnIndexes : Result Request Refusal → Type 0
IsOnIndexes (Ok (ViewRequest view query)) = Unit {0}
IsOnIndexes (Ok Cleanup) = Unit {0}
IsOnIndexes other = ⊥

-- a request that may change files
abbrev pub ChangesFiles : Result Request Refusal → Type 0
ChangesFiles request = Writes request ⊎ IsOnIndexes request

-- the design document that a view asks for is live in the documents' file, and is this one
abbrev pub IsAskedFor : Docs → (FileName → File) → ViewQuery → Json → Type 0
IsAskedFor docs files name document = IsLive (design_id name.design) (bytes_in docs files) (last_of docs (design_id name.design)) document

-- the index of a design is open
abbrev pub IsIndexOpen : Engine → Json → Type 0
IsIndexOpen engine document = (place : ℕ) × (index : Index) × IsGroup engine.groups place (signature_of document) (length (views_of document)) index

-- and nothing was written since
abbrev pub IsCurrent : Engine → Json → Type 0
IsCurrent engine document =
    (place : ℕ) × (index : Index) × IsGroup engine.groups place (signature_of document) (length (views_of document)) index × (seq_of index ≡ update_seq engine.docs)

-- at this place a file of the index of the design that a view asks for is damaged, as it is opened with so many views as the design has
pub record HasIndexDamage (docs : Docs) (files : FileName → File) (view : ViewQuery) (name : FileName) (at : ℕ) : Type 0 where
  pub document : Json
  pub asked : IsAskedFor docs files view document
  pub own : IsFileOf (View (signature_of document)) name
  pub damage : IsDamagedAt (View (signature_of document)) (length (views_of document)) files name at

-- No node stands at this place, or one that fits none of the index's trees there. Where none stands and nothing is brought up to date, a tree
-- of rows leads there.
abbrev pub IsNoNode : Places → List DesignView → Index → Type 0 → ℕ → Type 0
IsNoNode there views index Updates at =
    ((there at ≡ None) × (Updates ⊎ ((view : ℕ) × IsReached row_items there (tree_of index view) at)))
    ⊎ IsFaultyIn there views (last_commit index) at
    ⊎ ((view : ℕ) × IsUnfit row_items there (tree_of index view) at)

-- the index of the design that a view asks for is open now, and so it is at this place of its file, at which a node was to stand
pub record HasNodeDamage (docs : Docs) (groups : Groups) (old new : FileName → File) (view : ViewQuery) (name : FileName) (at : ℕ) : Type 0 where
  pub document : Json
  pub asked : IsAskedFor docs old view document
  pub place : ℕ
  pub index : Index
  pub group : IsGroup groups place (signature_of document) (length (views_of document)) index
  pub is_open : IsIndexOpenOver index new
  pub own : name ≡ name_of (file_of index)
  pub bad : IsNoNode (node_at (new name).seen) (views_of document) index (is_updated (parameters_of view) ≡ true) at

-- each live design document can be read, and at this place a slot of an index is damaged that none of them has: a cleanup opens it to remove
-- it
pub record HasSlotDamage (docs : Docs) (files : FileName → File) (name : FileName) (at : ℕ) : Type 0 where
  pub sig : List ℕ
  pub damage : IsFirstDamage (View sig) files name at
  pub whole : AreDesignsWhole docs (bytes_in docs files)
  pub unheld : IsHeldSignature docs (bytes_in docs files) sig → ⊥

-- a file of an index that no live design of a history has
abbrev pub IsOfNone : List Write → FileName → Type 0
IsOfNone history name = (sig : List ℕ) × (name.stem ≡ View sig) × (IsLiveSignature history sig → ⊥)

-- what a request may meet as damaged of an index, which is open then with these others, of the files before and after
abbrev pub MeetsIndexDamage : Docs → Groups → (FileName → File) → (FileName → File) → Result Request Refusal → FileName → ℕ → Type 0
MeetsIndexDamage docs groups old new (Ok (ViewRequest view query)) name at =
    HasIndexDamage docs old (view_query view query) name at ⊎ HasNodeDamage docs groups old new (view_query view query) name at
MeetsIndexDamage docs groups old new (Ok Cleanup) name at = HasSlotDamage docs old name at
MeetsIndexDamage docs groups old new other name at = ⊥

-- a view that brings the index of its design up to date
abbrev pub IsUpdate : Result Request Refusal → Type 0
IsUpdate (Ok (ViewRequest view query)) = is_updated (parameters_in query) ≡ true
IsUpdate other = ⊥

-- the file is one of an index, which the request may have written
abbrev pub IsOfSomeIndex : Result Request Refusal → FileName → Type 0
IsOfSomeIndex request name = IsUpdate request × IsIndexFile name

-- the file is one of the index of the design that a view asks for
abbrev pub IsOfAskedIndex : Docs → (FileName → File) → Result Request Refusal → FileName → Type 0
IsOfAskedIndex docs files (Ok (ViewRequest view query)) name = (document : Json) × IsAskedFor docs files (view_query view query) document × IsFileOf (View (signature_of document)) name
IsOfAskedIndex docs files other name = ⊥

-- The file is one of the index of the design that a view asks for, which is open then: it would be longer than a file may be, or it has all of
-- its commits.
pub record HasFullIndex (docs : Docs) (groups : Groups) (old new : FileName → File) (view : ViewQuery) (name : FileName) (size : Option ℕ) : Type 0 where
  pub document : Json
  pub asked : IsAskedFor docs old view document
  pub place : ℕ
  pub index : Index
  pub group : IsGroup groups place (signature_of document) (length (views_of document)) index
  pub is_open : IsIndexOpenOver index new
  pub limit : (gate.Full name size ≡ too_long (file_of index)) ⊎ (gate.Full name size ≡ used_up (file_of index))

-- what a request may meet as a full file of an index, of the files before and after
abbrev pub MeetsFullIndex : Docs → Groups → (FileName → File) → (FileName → File) → Result Request Refusal → FileName → Option ℕ → Type 0
MeetsFullIndex docs groups old new (Ok (ViewRequest view query)) name size = HasFullIndex docs groups old new (view_query view query) name size
MeetsFullIndex docs groups old new other name size = ⊥

-- an engine that is open over the files meets it
pub record MeetsFullIndexIn (old new : FileName → File) (request : Result Request Refusal) (name : FileName) (size : Option ℕ) : Type 0 where
  pub docs : Docs
  pub groups : Groups
  pub is_open : IsOpen docs old
  pub full : MeetsFullIndex docs groups old new request name size

-- to an engine that is open over the files it is of that index, and the view brings this up to date
pub record IsOfIndex (files : FileName → File) (request : Result Request Refusal) (name : FileName) : Type 0 where
  pub docs : Docs
  pub is_open : IsOpen docs files
  pub updates : IsUpdate request
  pub own : IsOfAskedIndex docs files request name

-- an engine that is open over the files meets it at this place
pub record MeetsIndexDamageIn (old new : FileName → File) (request : Result Request Refusal) (name : FileName) (at : ℕ) : Type 0 where
  pub docs : Docs
  pub groups : Groups
  pub is_open : IsOpen docs old
  pub damage : MeetsIndexDamage docs groups old new request name at

-- what is supposed of the designs of a world where a view is asked for: those that differ have different signatures. Of other requests
-- nothing is
abbrev pub IsFitFor : Result Request Refusal → World → Type 0
IsFitFor (Ok (ViewRequest view query)) world = AreFit world.history
IsFitFor other world = Unit {0}

-- A view changes no file, or only those of the index of the design that it asks for; none where this is open and nothing was written
-- since, or is read as it stands; and none where it is refused before any server is asked.
pub record MovesIndexOf (engine : Engine) (name : ViewQuery) (old new : Disk FileName) : Type 0 where
  pub files : MovesNone old new
      ⊎ ((document : Json) × IsAskedFor engine.docs old.now name document × Moves (IsFileOf (View (signature_of document))) (λ image. Unit {0}) (λ files. Unit {0}) old new)
  pub current : ((document : Json) → IsAskedFor engine.docs old.now name document → IsCurrent engine document) → MovesNone old new
  pub kept : is_updated (parameters_of name) ≡ false → ((document : Json) → IsAskedFor engine.docs old.now name document → IsIndexOpen engine document) → MovesNone old new
  pub refused : (history : List Write) (refusal : Refusal) → AreAt engine.docs old.now history → view_refusal (languages_of engine.pool) (of_history history) name ≡ Some refusal → MovesNone old new

module _ {F : Type 0} (f : Folders F) where
  -- for each world that the documents and the disk, where it is told, are at
  abbrev pub OverWorld : Docs → F → (World → Type 0) → Type 0
  OverWorld docs folder P = (world : World) → IfTold (f.disk folder) (λ d. AreAt docs d.now world.history) → P world

  abbrev pub AreOpen : Docs → F → Type 0
  AreOpen docs folder = IfTold (f.disk folder) (λ d. IsOpen docs d.now)

  -- a crash at any moment of the call leaves only what has P
  abbrev pub CrashLeaves : F → F → ((FileName → List ℕ) → Type 0) → Type 0
  CrashLeaves old new P = Tells (f.disk old) (f.disk new) (LeavesOnly P)

  -- what the documents' files may hold at each moment of a request, and where the documents are after it
  pub record KeepsDocuments (docs docs' : Docs) (old new : F) (request : Result Request Refusal) (HasGivenUp GoesOn : Type 0) : Type 0 where
    -- a crash leaves the documents before the request, or those with the write that it makes, and no other file changes
    pub moved : OverWorld docs old (λ world. Tells (f.disk old) (f.disk new) (MovesDocuments (DocumentsStandAround world request)))
    -- whatever the folder holds, no other file changes; a request that writes no document changes none, nor does one that is given up
    pub own : Tells (f.disk old) (f.disk new) (MovesDocuments (λ image. Unit {0}))
    pub read : (Writes request → ⊥) → Tells (f.disk old) (f.disk new) MovesNone
    pub unmoved : HasGivenUp → Tells (f.disk old) (f.disk new) MovesNone
    -- only a write that is accepted changes a file
    pub still : IsStill docs (f.disk old) (f.disk new) request
    -- where the engine may go on, its documents are open
    pub is_open : GoesOn → AreOpen docs' new

  abbrev pub LiesOpen : Engine → F → Type 0
  LiesOpen engine folder = IfTold (f.disk folder) (λ d. IsEngineOpen engine d.now)

  -- which files of indexes a request changes: a view those of its design alone, if any, and a cleanup those of any index
  abbrev pub MovesIndexes : Engine → F → F → Result Request Refusal → Type 0
  MovesIndexes engine old new (Ok (ViewRequest view query)) = Tells (f.disk old) (f.disk new) (MovesIndexOf engine (view_query view query))
  MovesIndexes engine old new (Ok Cleanup) = Tells (f.disk old) (f.disk new) (Moves IsIndexFile (λ image. Unit {0}) (λ files. Unit {0}))
  MovesIndexes engine old new other = Unit {0}

  -- Whatever history the documents have: a cleanup changes files only where each live design document can be read, and only those of indexes
  -- that none of them has. Where it is done each of them can be, and none of these files has bytes.
  pub record ClearsUnheld (docs : Docs) (old new : F) (Done : Type 0) : Type 0 where
    pub alone : Tells (f.disk old) (f.disk new) (λ a b. Moves (IsUnheld docs a.now) (λ image. Unit {0}) (λ files. Unit {0}) a b)
    pub gone : Done → Tells (f.disk old) (f.disk new) (λ a b. (name : FileName) → IsUnheld docs a.now name → (b.now name).seen ≡ [])
    pub whole : Done → IfTold (f.disk old) (λ d. AreDesignsWhole docs (bytes_in docs d.now))

  -- What a cleanup does with files, whatever those of indexes hold. Over documents at a history only those change of indexes that no live
  -- design has, and where it is done none of these has bytes. For want of memory none changes.
  pub record ClearsIndexes (docs : Docs) (old new : F) (Done Wants : Type 0) : Type 0 where
    pub held : ClearsUnheld docs old new Done
    pub spared : (history : List Write) → IfTold (f.disk old) (λ d. AreAt docs d.now history) → Tells (f.disk old) (f.disk new) (Moves (IsOfNone history) (λ image. Unit {0}) (λ files. Unit {0}))
    pub empty : Done → (history : List Write) → IfTold (f.disk old) (λ d. AreAt docs d.now history) → IfTold (f.disk new) (λ d. (name : FileName) → IsOfNone history name → (d.now name).seen ≡ [])
    pub unmoved : Wants → Tells (f.disk old) (f.disk new) MovesNone

  -- the same where the request is one
  abbrev pub Clears : Docs → F → F → Result Request Refusal → Type 0 → Type 0 → Type 0
  Clears docs old new (Ok Cleanup) Done Wants = ClearsIndexes docs old new Done Wants
  Clears docs old new other Done Wants = Unit {0}

  -- which files a request changes, whatever the folder holds, and where the engine is after it
  pub record KeepsDisk (engine engine' : Engine) (old new : F) (request : Result Request Refusal) (HasGivenUp GoesOn : Type 0) : Type 0 where
    -- a request that is no view and no cleanup changes the documents alone, and these change only files of indexes
    pub documents : (IsOnIndexes request → ⊥) → KeepsDocuments engine.docs engine'.docs old new request HasGivenUp GoesOn
    pub indexes : MovesIndexes engine old new request
    -- where the engine may go on, it lies open
    pub is_open : GoesOn → LiesOpen engine' new

  -- the cause of a fault of a call that only reads: the folder's, or a damaged place, which there is in no world
  abbrev pub IsReadReason : Docs → F → F → StepFault → Type 0
  IsReadReason docs old new DiskFault = Rose (f.faults old) (f.faults new)
  IsReadReason docs old new (Damaged name at) =
      IfTold (f.disk old) (λ d. IsDamage docs d.now name at)
      × ((world : World) → IfTold (f.disk old) (λ d. AreAt docs d.now world.history → ⊥))
  IsReadReason docs old new (Full name length) = ⊥
  IsReadReason docs old new NoMemory = Unit {0}

  -- the same of a request, which meets a damaged place only where it reads documents, and a full file only by a write
  -- that is accepted and passes the file's limits, where no fault of the disk comes in its place
  abbrev pub IsReason : Docs → F → F → Result Request Refusal → StepFault → Type 0
  IsReason docs old new request (Full name length) = IsFullFor docs request name length × WouldWrite docs (f.disk old) request
  IsReason docs old new request DiskFault = IsReadReason docs old new DiskFault × FitsFor docs request
  IsReason docs old new request (Damaged name at) = ReadsDocuments request × IsReadReason docs old new (Damaged name at)
  IsReason docs old new request NoMemory = Unit {0}

  -- the same of a view or a cleanup, which meet it in a file of an index: it is full, or damaged, and this in no world that is fit
  abbrev pub IsIndexReason : Engine → Engine → F → F → Result Request Refusal → StepFault → Type 0
  IsIndexReason engine engine' old new request (Full name size) =
      IsOfSomeIndex request name × Tells (f.disk old) (f.disk new) (λ a b. MeetsFullIndex engine.docs engine'.groups a.now b.now request name size)
  IsIndexReason engine engine' old new request (Damaged name at) =
      IsOnIndexes request
      × Tells (f.disk old) (f.disk new) (λ a b. MeetsIndexDamage engine.docs engine'.groups a.now b.now request name at)
      × ((world : World) → IfTold (f.disk old) (λ d. IsAtWorld engine d.now world → IsFitFor request world → ⊥))
  IsIndexReason engine engine' old new request other = ⊥

  -- of the documents or of an index
  abbrev pub IsReasonOf : Engine → Engine → F → F → Result Request Refusal → StepFault → Type 0
  IsReasonOf engine engine' old new request fault = IsReason engine.docs old new request fault ⊎ IsIndexReason engine engine' old new request fault

  -- a request that isn't ended by a fault of the disk counts none
  abbrev pub Spares : {T : Type 0} → F → F → Result T Halt → Type 0
  Spares old new result = result ≢ Err (Stopped DiskFault) → f.faults new ≡ f.faults old

  -- the same of a step
  abbrev pub SparesStep : F → F → Result (Unit {0}) StepFault → Type 0
  SparesStep old new result = result ≢ Err DiskFault → f.faults new ≡ f.faults old

  -- a call that only reads
  pub record Reads {T : Type 0} (docs : Docs) (old new : F) (result : Result T Halt) : Type 0 where
    pub disk : Tells (f.disk old) (f.disk new) MovesNone
    pub why : IfErr result (IfStopped (IsReadReason docs old new))
    pub later : f.faults old ≤ f.faults new

  -- the same of an engine's documents
  abbrev pub IsReadReasonOf : Engine → F → F → StepFault → Type 0
  IsReadReasonOf engine = IsReadReason engine.docs
