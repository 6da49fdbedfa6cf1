-- What bringing the index of a design up to date comes to, whether or not it was open: what was asked, what is damaged or full, and what is
-- left.
use Rattle.std.specs.Prelude.{◌≡◌, ◌≢◌, ◌⊎◌, ◌≤◌, ℕ, List, length, None, Option, Result, Ok, Err, IfErr, IfOk}
use Rattle.json_terms.specs.Json.{Json}
use Rattle.view_ports.specs.Disk.{Disk, IfTold, Moves, Tells}
use Rattle.view_ports.specs.Faults.{Rose, RoseBy}
use Rattle.view_ports.specs.declared.file_name.FileName.{FileName}
use Rattle.view_ports.specs.declared.file_name.Stem.TheVariants.{View}
use Rattle.view_ports.specs.declared.folder.Folder.{Ghosts as Folders}
use Rattle.view_ports.specs.declared.servers.Servers.{Ghosts as Servers}
use Rattle.gate_file.specs.declared.fault.GateFault.TheVariants.{Damaged, DiskFault, Full}
use Rattle.gate_file.specs.GateFile.{name_of}
use Rattle.design_docs.specs.declared.design.Design.{Design}
use Rattle.design_docs.specs.History.{Write}
use Rattle.doc_file.specs.declared.docs.Docs.{Docs}
use Rattle.doc_file.specs.Docs.{file_of, seq_of as written, IsAt as AreDocumentsAt, IsDocsFile, IsLoaded as AreLoaded}
use Rattle.child_pool.specs.declared.pool_fault.PoolFault.TheVariants.{ServerFault, UnknownLanguage}
use Rattle.child_pool.specs.PoolCalls.{path_for, StaysAsMade}
use Rattle.view_model.specs.Picture.{Picture}
use Rattle.change_mapper.specs.Written.{documents_since, IsBodyDamaged}
use Rattle.tree_index.specs.declared.fault.IndexFault.TheVariants.{Store}
use Rattle.tree_index.specs.declared.index.Index.{Index}
use Rattle.tree_index.specs.Held.{IsDamagedAt, IsFileOf}
use Rattle.tree_index.specs.Index.{seq_of}
use Rattle.tree_updater.specs.declared.fault.UpdateFault.{UpdateFault}
use Rattle.tree_updater.specs.declared.fault.UpdateFault.TheVariants.{Docs as OfDocuments, Index as OfIndex, NoMemory, Pool as OfPool}
use Rattle.tree_updater.specs.Asking.{HasAskedFor}
use Rattle.tree_updater.specs.Filled.{IsFilled, WasDue}
use Rattle.tree_updater.specs.Follows.{FindsNone, IsBadNodeOf, IsFileFault, IsOfDisk, IsSpared}
use Rattle.tree_updater.specs.Made.{IsMapped}
use Rattle.tree_updater.specs.Paths.{IsPathOf}
use Rattle.tree_groups.specs.Groups.{AreOpen, IsGroup, OpensOnly, StayOpen}
use Rattle.tree_groups.specs.Pictures.{Kinds, Pictures}
use Rattle.tree_groups.specs.Reached.{picture_for, sig_of, views_in, IsReached}
use Rattle.tree_groups.specs.Sides.{Side}

-- how an update may end before anything was asked
abbrev pub IsIdleEnd : Result ℕ UpdateFault → Type 0
IsIdleEnd (Ok place) = Unit {0}
IsIdleEnd (Err NoMemory) = Unit {0}
IsIdleEnd (Err (OfIndex fault)) = Unit {0}
IsIdleEnd (Err other) = ⊥

module _ {F C : Type 0} (f : Folders F) (s : Servers C) (docs : Docs) (design : Design) (old new : Side F C) where
  -- nothing was asked
  abbrev pub IsUnasked : Type 0
  IsUnasked = (new.servers ≡ old.servers) × (new.pool ≡ old.pool)

  abbrev pub HasAsked : List (List (List ℕ × Json)) → Result ℕ UpdateFault → Type 0
  HasAsked documents result = HasAskedFor s old.servers new.servers old.pool new.pool design documents result

  -- an open index of the design is the one that is left
  abbrev pub IsLeft : Index → Type 0
  IsLeft index = (place : ℕ) × IsGroup new.groups place (sig_of design) (views_in design) index

  -- where something was written since the picture, its documents are asked for; where nothing was, nothing is
  abbrev pub AsksSince : List Write → Pictures → Result ℕ UpdateFault → Type 0
  AsksSince history pictures result =
      (IsUnasked × IsIdleEnd result × IfOk result (λ place. (picture_for design pictures).seq ≡ length history))
      ⊎ (((picture_for design pictures).seq ≢ length history) × HasAsked (documents_since (picture_for design pictures).seq history) result)

  -- a picture that documents make which were mapped, whether or not its reduces can be had
  abbrev pub IsMappedTo : List Write → Pictures → Picture → Type 0
  IsMappedTo history pictures next =
      (path : List ℕ) → IsPathOf s old.servers old.pool design path → IsMapped s.functions s.honest design path history (picture_for design pictures) next

  -- over documents and pictures
  abbrev pub Over : Kinds → List Write → Pictures → Disk FileName → Type 0
  Over kinds history pictures d = IsReached s old.servers old.pool docs kinds old.groups design history pictures d.now

  -- at this place a file of the index is damaged as it is opened, or a node of it that an update got
  abbrev pub IsDamaged : Disk FileName → Disk FileName → FileName → ℕ → Type 0
  IsDamaged a b name at =
      IsDamagedAt (View (sig_of design)) (views_in design) a.now name at ⊎ ((index : Index) × IsLeft index × IsBadNodeOf design index b name at)

  pub record Follows (result : Result ℕ UpdateFault) : Type 0 where
    -- the documents that were written since the picture are asked for, and no others; whatever is told, some are, or nothing is
    pub asks : (kinds : Kinds) (history : List Write) (pictures : Pictures) → IfTold (f.disk old.folder) (λ d. Over kinds history pictures d → AsksSince history pictures result)
    pub asked : (IsUnasked × IsIdleEnd result) ⊎ ((documents : List (List (List ℕ × Json))) × HasAsked documents result)
    -- the other open indexes stay open, whether or not it was open, and no other is opened
    pub beside : StayOpen (View (sig_of design)) old.groups new.groups
    pub only : OpensOnly (View (sig_of design)) old.groups new.groups
    -- where it was and nothing was written since, nothing is done
    pub idle : (place : ℕ) (index : Index) → IsGroup old.groups place (sig_of design) (views_in design) index → seq_of index ≡ written docs
        → ((result ≡ Ok place) ⊎ (result ≡ Err NoMemory)) × (new ≡ old)
    -- only files of the index change, and the open indexes are as the folder has them, unless the disk failed in them
    pub moves : Tells (f.disk old.folder) (f.disk new.folder) (Moves (IsFileOf (View (sig_of design))) (λ image. Unit {0}) (λ files. Unit {0}))
    pub is_open : IfTold (f.disk old.folder) (λ d. AreOpen old.groups d.now)
        → IfTold (f.disk new.folder) (λ d. result ≢ Err (OfIndex (Store DiskFault)) → AreOpen new.groups d.now)
    -- whatever is held, after Ok it is of the newest write
    pub newest : IfOk result (λ place. (index : Index) × IsGroup new.groups place (sig_of design) (views_in design) index × (seq_of index ≡ written docs))
    pub file : IfErr result IsFileFault
    -- nothing is damaged over pictures, nor are documents that are at a history, whatever the indexes are
    pub sound : (kinds : Kinds) (history : List Write) (pictures : Pictures) → IfTold (f.disk old.folder) (λ d. Over kinds history pictures d → FindsNone result)
    pub read : (history : List Write) → IfTold (f.disk old.folder) (λ d. AreDocumentsAt docs d.now history → (name : FileName) (at : ℕ) → result ≢ Err (OfDocuments (Damaged name at)))
    -- where the documents' file is one of documents, what is damaged is the body of a last write; or it is a file of the index
    pub body : IfTold (f.disk old.folder) (λ d. IsDocsFile (name_of (file_of docs)) → AreLoaded docs d.now
        → (name : FileName) (at : ℕ) → result ≡ Err (OfDocuments (Damaged name at)) → IsBodyDamaged docs d.now name at)
    pub damaged : Tells (f.disk old.folder) (f.disk new.folder) (λ a b. (name : FileName) (at : ℕ) → result ≡ Err (OfIndex (Store (Damaged name at))) → IsFileOf (View (sig_of design)) name × IsDamaged a b name at)
    -- the file of the index is full by what was to be written, and then it was due
    pub full : (name : FileName) (size : Option ℕ) → result ≡ Err (OfIndex (Store (Full name size)))
        → IsFileOf (View (sig_of design)) name × ((index : Index) × IsLeft index × IsFilled (views_in design) index old.cache new.cache name size)
    pub filled : (name : FileName) (size : Option ℕ) → result ≡ Err (OfIndex (Store (Full name size))) → (kinds : Kinds) (history : List Write) (pictures : Pictures)
        → IfTold (f.disk old.folder) (λ d. Over kinds history pictures d → WasDue (IsMappedTo history pictures) old.cache new.cache history (picture_for design pictures))
    -- a fault of the disk comes only where the folder counted one, and it counted none for any other answer
    pub cause : IfErr result (λ fault. IsOfDisk fault → Rose (f.faults old.folder) (f.faults new.folder))
    pub still : IsSpared result → f.faults new.folder ≡ f.faults old.folder
    pub later : (f.faults old.folder ≤ f.faults new.folder) × (s.faults old.servers ≤ s.faults new.servers)
    -- the pool's languages and width never change; servers are blamed only where two faults were counted, and a language is unknown only
    -- where it has no path
    pub keeps : StaysAsMade old.pool new.pool
    pub blames : result ≡ Err (OfPool ServerFault) → RoseBy 2 (s.faults old.servers) (s.faults new.servers)
    pub unknown : result ≡ Err (OfPool UnknownLanguage) → path_for old.pool design ≡ None
