-- What bringing an index up to date promises.
use Rattle.std.specs.Prelude.{◌≡◌, ◌≢◌, ◌⊎◌, ℕ, List, length, Result, Ok, Err, OnOk, Option, Some}
use Rattle.view_ports.specs.Disk.{IfTold, Moves, Tells}
use Rattle.view_ports.specs.Functions.{Functions}
use Rattle.view_ports.specs.File.{File}
use Rattle.view_ports.specs.declared.file_name.FileName.{FileName}
use Rattle.view_ports.specs.declared.folder.Folder.{Ghosts as Folders}
use Rattle.view_ports.specs.declared.servers.Servers.{Ghosts as Servers}
use Rattle.gate_file.specs.declared.fault.GateFault.TheVariants.{DiskFault}
use Rattle.design_docs.specs.declared.design.Design.{Design}
use Rattle.design_docs.specs.History.{Write}
use Rattle.doc_file.specs.declared.docs.Docs.{Docs}
use Rattle.doc_file.specs.Docs.{seq_of as written, IsAt as AreAt}
use Rattle.child_pool.specs.declared.pool_fault.PoolFault.TheVariants.{Compile}
use Rattle.view_model.specs.Picture.{Picture}
use Rattle.row_exchange.specs.declared.doc_rows.DocRows.{DocRows}
use Rattle.change_mapper.specs.declared.fault.MappingFault.{MappingFault}
use Rattle.change_mapper.specs.Mapped.{MapsChanges, Outer}
use Rattle.tree_index.specs.declared.fault.IndexFault.{IndexFault}
use Rattle.tree_index.specs.declared.fault.IndexFault.TheVariants.{Store}
use Rattle.tree_index.specs.declared.index.Index.{Index}
use Rattle.tree_index.specs.Calls.{IsAt}
use Rattle.tree_index.specs.Held.{or_empty, IsFileOf, Stands}
use Rattle.tree_index.specs.Index.{picture_of, seq_of, stem_of}
use Rattle.tree_updater.specs.declared.fault.UpdateFault.{UpdateFault}
use Rattle.tree_updater.specs.declared.fault.UpdateFault.TheVariants.{Index as OfIndex, Pool as OfPool}
use Rattle.tree_updater.specs.Faults.{by_index, by_mapping}
use Rattle.tree_updater.specs.Made.{IsMade, IsRefused, IsUpdatedFreely}
use Rattle.tree_updater.specs.Paths.{AreFunctionsBy, IsPathOf}
use Rattle.tree_updater.specs.Sides.{behind, outer_of, IsRolledBack, Side}
use Rattle.tree_updater.specs.Writes.{Writes}

-- what became of the writing is what became of the update
abbrev pub by_writing : Result (Unit {0}) IndexFault → Result (Unit {0}) UpdateFault
by_writing (Ok done) = Ok done
by_writing (Err fault) = Err (by_index fault)

module _ {F C : Type 0} (f : Folders F) (s : Servers C) (docs : Docs) (design : Design) (old new : Side F C) where
  -- where they were mapped, their rows are written at the number of the newest write; and else nothing is
  abbrev pub ThenWrites : Outer F C → Index → Result (List DocRows) MappingFault → Result (Unit {0}) UpdateFault → Type 0
  ThenWrites between rolled (Ok rows) result = (done : Result (Unit {0}) IndexFault) × Writes f s design rows (written docs) (behind between rolled old) new done × (result ≡ by_writing done)
  ThenWrites between rolled (Err fault) result = (result ≡ Err (by_mapping fault)) × (new ≡ behind between rolled old)

  -- the exchanges since the index's last commit are taken back, the documents that were written since are mapped, and then their rows written
  pub record MapsThenWrites (result : Result (Unit {0}) UpdateFault) : Type 0 where
    pub rolled : Index
    pub back : IsRolledBack old.index rolled
    pub between : Outer F C
    pub mapped : Result (List DocRows) MappingFault
    pub maps : MapsChanges f s docs design (seq_of old.index) (outer_of old) between mapped
    pub writes : ThenWrites between rolled mapped result

  -- the documents are at a history, and the index is at a picture, or at none, by the functions of the design's path where they are known
  pub record IsReached (functions : Option Functions) (history : List Write) (picture : Option Picture) (files : FileName → File) : Type 0 where
    pub by : AreFunctionsBy s old.servers old.pool design functions
    pub documents : AreAt docs files history
    pub at : IsAt functions design.views old.index files picture

  module _ (history : List Write) (picture : Option Picture) where
    -- the picture that is brought up to date
    abbrev pub last : Picture
    last = or_empty (length design.views) picture

    -- a picture that the update makes, whatever path the design's language has
    abbrev pub IsNext : Picture → Type 0
    IsNext next = (path : List ℕ) → IsPathOf s old.servers old.pool design path → IsMade s.functions s.honest design path history last next

    -- the picture that is made is that of the index after Ok, and else it is there only where the disk failed in its commit
    abbrev pub MayBeLeft : Result (Unit {0}) UpdateFault → Picture → Type 0
    MayBeLeft (Ok done) next = next ≡ picture_of new.index
    MayBeLeft (Err fault) next = fault ≡ OfIndex (Store DiskFault)

    module _ (functions : Option Functions) where
      -- an image stands for the picture, or for the one that the update makes
      abbrev pub StandsAround : Result (Unit {0}) UpdateFault → (FileName → List ℕ) → Type 0
      StandsAround result image =
          Stands functions design.views (stem_of old.index) image picture
          ⊎ ((next : Picture) × IsNext next × MayBeLeft result next × Stands functions design.views (stem_of old.index) image (Some next))

      -- it was updated, or, unless the disk failed in it, it is as at its last commit
      abbrev pub EndsAt : Result (Unit {0}) UpdateFault → (FileName → File) → Type 0
      EndsAt (Ok done) files = (next : Option Picture) × IsAt functions design.views new.index files next × IsNext (or_empty (length design.views) next)
      EndsAt (Err fault) files = fault ≢ OfIndex (Store DiskFault) → IsAt functions design.views new.index files picture

    -- a complaint of an honest path is right
    abbrev pub IsRefusedRightly : Type 0
    IsRefusedRightly = (path : List ℕ) → IsPathOf s old.servers old.pool design path → s.honest path → IsRefused s.functions s.honest design path history last

  pub record Updates (result : Result (Unit {0}) UpdateFault) : Type 0 where
    -- where nothing was written since, nothing is done
    pub idle : seq_of old.index ≡ written docs → (result ≡ Ok tt) × (new ≡ old)
    -- where something was, it is mapped and written, whatever the folder tells
    pub due : seq_of old.index ≢ written docs → MapsThenWrites result
    -- a crash leaves the picture or an updated one, and after Ok the index is at that; the documents' files are as they were
    pub stands : (functions : Option Functions) (history : List Write) (picture : Option Picture) → IfTold (f.disk old.folder) (λ d. IsReached functions history picture d.now)
        → Tells (f.disk old.folder) (f.disk new.folder) (Moves (IsFileOf (stem_of old.index)) (StandsAround history picture functions result) (EndsAt history picture functions result))
    -- whatever the path is, what is there after Ok is of the whole history
    pub freely : (functions : Option Functions) (history : List Write) (picture : Option Picture) → IfTold (f.disk old.folder) (λ d. IsReached functions history picture d.now
        → OnOk result (IsUpdatedFreely design.views history (last history picture) (picture_of new.index)))
    -- it is refused for a source that doesn't compile only where one is wanted that doesn't
    pub spoils : result ≡ Err (OfPool Compile) → (functions : Option Functions) (history : List Write) (picture : Option Picture)
        → IfTold (f.disk old.folder) (λ d. IsReached functions history picture d.now → IsRefusedRightly history picture)
