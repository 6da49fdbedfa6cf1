-- Bringing the index of a design up to date, which is opened where it isn't open yet.
use Rattle.std.specs.Prelude.{◌≡◌, ◌⊎◌, ℕ, List, Result, Ok, Err, IfOk, Option}
use Rattle.view_ports.specs.Disk.{IfTold, Moves, Tells}
use Rattle.view_ports.specs.File.{File}
use Rattle.view_ports.specs.declared.file_name.FileName.{FileName}
use Rattle.view_ports.specs.declared.file_name.Stem.TheVariants.{View}
use Rattle.view_ports.specs.declared.folder.Folder.{Ghosts as Folders}
use Rattle.view_ports.specs.declared.servers.Servers.{Ghosts as Servers}
use Rattle.gate_file.specs.declared.fault.GateFault.TheVariants.{Damaged, DiskFault}
use Rattle.design_docs.specs.declared.design.Design.{Design}
use Rattle.design_docs.specs.History.{Write}
use Rattle.doc_file.specs.declared.docs.Docs.{Docs}
use Rattle.doc_file.specs.Docs.{seq_of as written}
use Rattle.child_pool.specs.declared.pool_fault.PoolFault.TheVariants.{Compile}
use Rattle.view_model.specs.Picture.{Picture}
use Rattle.tree_index.specs.declared.fault.IndexFault.{IndexFault}
use Rattle.tree_index.specs.declared.fault.IndexFault.TheVariants.{Store}
use Rattle.tree_index.specs.declared.index.Index.{Index}
use Rattle.tree_index.specs.Held.{or_empty, IsFileOf}
use Rattle.tree_index.specs.Index.{picture_of}
use Rattle.tree_updater.specs.declared.fault.UpdateFault.{UpdateFault}
use Rattle.tree_updater.specs.declared.fault.UpdateFault.TheVariants.{Index as OfIndex, Pool as OfPool}
use Rattle.tree_updater.specs.Faults.{by_index}
use Rattle.tree_updater.specs.Made.{IsMade, IsRefused, IsUpdatedFreely}
use Rattle.tree_updater.specs.Paths.{IsPathOf}
use Rattle.tree_groups.specs.Groups.{AreAt, IsGroup}
use Rattle.tree_groups.specs.Openings.{OpensDesign, OpensGroup}
use Rattle.tree_groups.specs.Pictures.{Kinds, Pictures}
use Rattle.tree_groups.specs.Reached.{picture_for, sig_of, views_in, AreSet, IsReached, StandsAround}
use Rattle.tree_groups.specs.Sides.{Side}
use Rattle.tree_groups.specs.Updating.{UpdatesAt}

-- an update of the index in a place answers this place, where it is done
abbrev pub placed : ℕ → Result (Unit {0}) UpdateFault → Result ℕ UpdateFault
placed place (Ok done) = Ok place
placed place (Err fault) = Err fault

-- the disk failed in a file of the index, or one is damaged, as it was opened or in a node that the update got
abbrev pub IsLost : UpdateFault → Type 0
IsLost (OfIndex (Store DiskFault)) = Unit {0}
IsLost (OfIndex (Store (Damaged name at))) = Unit {0}
IsLost other = ⊥

module _ {F C : Type 0} (f : Folders F) (s : Servers C) (docs : Docs) (design : Design) (old new : Side F C) where
  -- nothing was asked, nor got from files by way of nodes
  pub record IsIdle (this : Side F C) : Type 0 where
    pub servers : this.servers ≡ old.servers
    pub pool : this.pool ≡ old.pool
    pub cache : this.cache ≡ old.cache
    pub steps : this.steps ≡ old.steps

  -- where no index of the design is open, it is opened first, and then updated as one that is
  pub record OpensThenUpdates (result : Result ℕ UpdateFault) : Type 0 where
    pub between : Side F C
    pub place : ℕ
    pub opens : OpensGroup (sig_of design) (views_in design) (written docs) f old.groups between.groups old.folder between.folder (Ok place)
    pub idle : IsIdle between
    pub done : Result (Unit {0}) UpdateFault
    pub updates : UpdatesAt f s docs design between new place done
    pub is : result ≡ placed place done

  -- or it can't be opened
  pub record FailsToOpen (result : Result ℕ UpdateFault) : Type 0 where
    pub fault : IndexFault
    pub opens : OpensDesign f docs design old.groups new.groups old.folder new.folder (Err fault)
    pub idle : IsIdle new
    pub is : result ≡ Err (by_index fault)

  module _ (kinds : Kinds) (history : List Write) (pictures : Pictures) where
    -- a picture that the update makes, whatever path the design's language has
    abbrev pub IsNext : Picture → Type 0
    IsNext next = (path : List ℕ) → IsPathOf s old.servers old.pool design path → IsMade s.functions s.honest design path history (picture_for design pictures) next

    -- the picture that is made is that of the index after Ok, and else it is there only where the disk failed in its commit
    abbrev pub MayBeLeft : Result ℕ UpdateFault → Picture → Type 0
    MayBeLeft (Ok place) next = (index : Index) × IsGroup new.groups place (sig_of design) (views_in design) index × (next ≡ picture_of index)
    MayBeLeft (Err fault) next = fault ≡ OfIndex (Store DiskFault)

    -- a crash may leave this picture in the place of the one that is there
    abbrev pub MayLeave : Result ℕ UpdateFault → Picture → Type 0
    MayLeave result next = IsNext next × MayBeLeft result next

    -- the index in this place is at its next picture, and all others are as they were
    pub record IsBrought (place : ℕ) (files : FileName → File) : Type 0 where
      pub index : Index
      pub group : IsGroup new.groups place (sig_of design) (views_in design) index
      pub next : Option Picture
      pub shows : picture_of index ≡ or_empty (views_in design) next
      pub made : IsNext (or_empty (views_in design) next)
      pub after : Pictures
      pub set : AreSet design next pictures after
      pub at : AreAt kinds new.groups files after

    -- so it ends; a refusal leaves all as it was, unless files of the index are lost
    abbrev pub EndsAt : Result ℕ UpdateFault → (FileName → File) → Type 0
    EndsAt (Ok place) files = IsBrought place files
    EndsAt (Err fault) files = (IsLost fault → ⊥) → AreAt kinds new.groups files pictures

    -- a complaint of an honest path is right
    abbrev pub IsRefusedRightly : Type 0
    IsRefusedRightly = (path : List ℕ) → IsPathOf s old.servers old.pool design path → s.honest path → IsRefused s.functions s.honest design path history (picture_for design pictures)

  pub record Brings (result : Result ℕ UpdateFault) : Type 0 where
    -- it is opened where it isn't open yet, and then updated in its place; or it can't be opened, and nothing is asked
    pub steps : OpensThenUpdates result ⊎ FailsToOpen result
    pub place : IfOk result (λ place. (index : Index) × IsGroup new.groups place (sig_of design) (views_in design) index)
    -- over documents and pictures a crash leaves the picture of the design or an updated one; all other files are as they were
    pub stands : (kinds : Kinds) (history : List Write) (pictures : Pictures) → IfTold (f.disk old.folder) (λ d. IsReached s old.servers old.pool docs kinds old.groups design history pictures d.now)
        → Tells (f.disk old.folder) (f.disk new.folder) (Moves (IsFileOf (View (sig_of design))) (StandsAround kinds design pictures (MayLeave kinds history pictures result)) (EndsAt kinds history pictures result))
    -- whatever the path is, what is there after Ok is of the whole history
    pub freely : (kinds : Kinds) (history : List Write) (pictures : Pictures) → IfTold (f.disk old.folder) (λ d. IsReached s old.servers old.pool docs kinds old.groups design history pictures d.now
        → IfOk result (λ place. (index : Index) × IsGroup new.groups place (sig_of design) (views_in design) index × IsUpdatedFreely design.views history (picture_for design pictures) (picture_of index)))
    -- it is refused for a source that doesn't compile only where one is wanted that doesn't
    pub spoils : result ≡ Err (OfPool Compile) → (kinds : Kinds) (history : List Write) (pictures : Pictures)
        → IfTold (f.disk old.folder) (λ d. IsReached s old.servers old.pool docs kinds old.groups design history pictures d.now → IsRefusedRightly kinds history pictures)
