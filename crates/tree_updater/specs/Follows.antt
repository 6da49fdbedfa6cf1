-- What an update comes to, whatever each of its two parts did: what was asked, what is damaged or full, and what is left.
use Rattle.std.specs.Prelude.{◌≡◌, ◌≢◌, ◌⊎◌, ◌≤◌, ℕ, List, length, None, Option, Result, Ok, Err, IfErr, OnOk}
use Rattle.json_terms.specs.Json.{Json}
use Rattle.view_ports.specs.Disk.{Disk, IfTold, Moves, Tells}
use Rattle.view_ports.specs.Faults.{Rose, RoseBy}
use Rattle.view_ports.specs.Functions.{Functions}
use Rattle.view_ports.specs.declared.file_name.FileName.{FileName}
use Rattle.view_ports.specs.declared.folder.Folder.{Ghosts as Folders}
use Rattle.view_ports.specs.declared.servers.Servers.{Ghosts as Servers}
use Rattle.gate_file.specs.declared.fault.GateFault.TheVariants.{Damaged, DiskFault, Full}
use Rattle.gate_file.specs.GateFile.{name_of}
use Rattle.design_docs.specs.declared.design.Design.{Design}
use Rattle.design_docs.specs.History.{Write}
use Rattle.doc_file.specs.declared.docs.Docs.{Docs}
use Rattle.doc_file.specs.Docs.{seq_of as written, IsAt as AreAt, IsLoaded as AreLoaded}
use Rattle.child_pool.specs.declared.pool_fault.PoolFault.TheVariants.{ServerFault, UnknownLanguage}
use Rattle.child_pool.specs.PoolCalls.{path_for, StaysAsMade}
use Rattle.node_file.specs.Records.{node_at}
use Rattle.view_model.specs.Picture.{Picture}
use Rattle.index_trees.specs.Exchanges.{IsFaultyIn}
use Rattle.change_mapper.specs.Written.{documents_since, IsBodyDamaged}
use Rattle.tree_index.specs.declared.fault.IndexFault.TheVariants.{Store}
use Rattle.tree_index.specs.declared.index.Index.{Index}
use Rattle.tree_index.specs.Calls.{IsOpen}
use Rattle.tree_index.specs.Held.{or_empty, IsFileOf}
use Rattle.tree_index.specs.Index.{file_of, last_of, seq_of, stem_of}
use Rattle.tree_updater.specs.declared.fault.UpdateFault.{UpdateFault}
use Rattle.tree_updater.specs.declared.fault.UpdateFault.TheVariants.{Docs as OfDocuments, Index as OfIndex, Pool as OfPool}
use Rattle.tree_updater.specs.Asking.{HasAskedFor}
use Rattle.tree_updater.specs.Filled.{IsFilled, WasDue}
use Rattle.tree_updater.specs.Made.{IsMapped}
use Rattle.tree_updater.specs.Paths.{IsPathOf}
use Rattle.tree_updater.specs.Sides.{Side}
use Rattle.tree_updater.specs.Updates.{IsReached}

-- the disk failed, in reading the documents or in a file of the index
abbrev pub IsOfDisk : UpdateFault → Type 0
IsOfDisk fault = (fault ≡ OfDocuments DiskFault) ⊎ (fault ≡ OfIndex (Store DiskFault))

-- that isn't answered
abbrev pub IsSpared : {T : Type 0} → Result T UpdateFault → Type 0
IsSpared (Ok done) = Unit {0}
IsSpared (Err fault) = IsOfDisk fault → ⊥

-- a fault of the index is one of its file: the disk failed, the file is full or damaged; a fault of the documents comes of a read: the
-- disk failed, or their file is damaged
abbrev pub IsFileFault : UpdateFault → Type 0
IsFileFault (OfIndex (Store DiskFault)) = Unit {0}
IsFileFault (OfIndex (Store (Full name length))) = Unit {0}
IsFileFault (OfIndex (Store (Damaged name at))) = Unit {0}
IsFileFault (OfIndex other) = ⊥
IsFileFault (OfDocuments DiskFault) = Unit {0}
IsFileFault (OfDocuments (Damaged name at)) = Unit {0}
IsFileFault (OfDocuments other) = ⊥
IsFileFault other = Unit {0}

-- nothing is damaged
abbrev pub FindsNone : {T : Type 0} → Result T UpdateFault → Type 0
FindsNone result = (name : FileName) (at : ℕ) → (result ≢ Err (OfDocuments (Damaged name at))) × (result ≢ Err (OfIndex (Store (Damaged name at))))

-- at the place in the index's own file no node stands, or one that fits none of its trees there
pub record IsBadNodeOf (design : Design) (index : Index) (d : Disk FileName) (name : FileName) (at : ℕ) : Type 0 where
  pub own : name ≡ name_of (file_of index)
  pub bad : (node_at (d.now name).seen at ≡ None) ⊎ IsFaultyIn (node_at (d.now name).seen) design.views (last_of index) at

module _ {F C : Type 0} (f : Folders F) (s : Servers C) (docs : Docs) (design : Design) (old new : Side F C) where
  abbrev pub HasAsked : List (List (List ℕ × Json)) → Result (Unit {0}) UpdateFault → Type 0
  HasAsked documents result = HasAskedFor s old.servers new.servers old.pool new.pool design documents result

  -- where something was written since the index's sequence, its documents are asked for; where nothing was, nothing is
  abbrev pub AsksSince : List Write → Result (Unit {0}) UpdateFault → Type 0
  AsksSince history result =
      ((seq_of old.index ≡ length history) × (new ≡ old) × (result ≡ Ok tt))
      ⊎ ((seq_of old.index ≢ length history) × HasAsked (documents_since (seq_of old.index) history) result)

  -- a picture that documents make which were mapped, whether or not its reduces can be had
  abbrev pub IsMappedTo : List Write → Option Picture → Picture → Type 0
  IsMappedTo history picture next =
      (path : List ℕ) → IsPathOf s old.servers old.pool design path → IsMapped s.functions s.honest design path history (or_empty (length design.views) picture) next

  pub record Follows (result : Result (Unit {0}) UpdateFault) : Type 0 where
    -- over documents at a history those are asked for that were written since, and no others; whatever is told, some are, or nothing is
    pub asks : (history : List Write) → IfTold (f.disk old.folder) (λ d. AreAt docs d.now history → AsksSince history result)
    pub asked : ((new ≡ old) × (result ≡ Ok tt)) ⊎ ((documents : List (List (List ℕ × Json))) × HasAsked documents result)
    -- only files of the index change, and what it keeps of them is what the folder holds, unless the disk failed in them
    pub moves : Tells (f.disk old.folder) (f.disk new.folder) (Moves (IsFileOf (stem_of old.index)) (λ image. Unit {0}) (λ files. Unit {0}))
    pub is_open : IfTold (f.disk old.folder) (λ d. IsOpen old.index d.now)
        → IfTold (f.disk new.folder) (λ d. result ≢ Err (OfIndex (Store DiskFault)) → IsOpen new.index d.now)
    -- whatever is held, after Ok it is of the newest write
    pub newest : OnOk result (seq_of new.index ≡ written docs)
    pub file : IfErr result IsFileFault
    -- nothing is damaged where the index is at a picture, nor are documents that are at a history
    pub sound : (functions : Option Functions) (history : List Write) (picture : Option Picture)
        → IfTold (f.disk old.folder) (λ d. IsReached f s docs design old new functions history picture d.now → FindsNone result)
    pub read : (history : List Write) → IfTold (f.disk old.folder) (λ d. AreAt docs d.now history → (name : FileName) (at : ℕ) → result ≢ Err (OfDocuments (Damaged name at)))
    -- what is damaged is the body of a last write, or a node of the index
    pub body : IfTold (f.disk old.folder) (λ d. AreLoaded docs d.now → (name : FileName) (at : ℕ) → result ≡ Err (OfDocuments (Damaged name at)) → IsBodyDamaged docs d.now name at)
    pub node : IfTold (f.disk new.folder) (λ d. (name : FileName) (at : ℕ) → result ≡ Err (OfIndex (Store (Damaged name at))) → IsBadNodeOf design new.index d name at)
    -- the file of the index is full by what was to be written, and then it was due
    pub full : (name : FileName) (size : Option ℕ) → result ≡ Err (OfIndex (Store (Full name size))) → IsFilled (length design.views) new.index old.cache new.cache name size
    pub filled : (name : FileName) (size : Option ℕ) → result ≡ Err (OfIndex (Store (Full name size))) → (functions : Option Functions) (history : List Write) (picture : Option Picture)
        → IfTold (f.disk old.folder) (λ d. IsReached f s docs design old new functions history picture d.now → WasDue (IsMappedTo history picture) old.cache new.cache history (or_empty (length design.views) picture))
    -- a fault of the disk comes only where the folder counted one, and it counted none for any other answer
    pub cause : IfErr result (λ fault. IsOfDisk fault → Rose (f.faults old.folder) (f.faults new.folder))
    pub still : IsSpared result → f.faults new.folder ≡ f.faults old.folder
    pub later : (f.faults old.folder ≤ f.faults new.folder) × (s.faults old.servers ≤ s.faults new.servers)
    -- the pool's languages and width never change; servers are blamed only where two faults were counted, and a language is unknown only
    -- where it has no path
    pub keeps : StaysAsMade old.pool new.pool
    pub blames : result ≡ Err (OfPool ServerFault) → RoseBy 2 (s.faults old.servers) (s.faults new.servers)
    pub unknown : result ≡ Err (OfPool UnknownLanguage) → path_for old.pool design ≡ None
