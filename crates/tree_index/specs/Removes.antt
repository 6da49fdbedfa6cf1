-- What removing an index promises.
use Rattle.std.specs.Prelude.{◌≡◌, ◌⊎◌, ℕ, List, [], Result, IfErr, OnOk, Option, None}
use Rattle.view_ports.specs.Causes.{RisesBy}
use Rattle.view_ports.specs.Disk.{IfTold, Moves, Tells}
use Rattle.view_ports.specs.File.{File, settled}
use Rattle.view_ports.specs.Functions.{Functions}
use Rattle.view_ports.specs.declared.file_name.FileName.{FileName}
use Rattle.view_ports.specs.declared.file_name.Stem.{Stem}
use Rattle.view_ports.specs.declared.folder.Folder.{Ghosts as Folders}
use Rattle.gate_file.specs.declared.fault.GateFault.TheVariants.{Damaged, DiskFault}
use Rattle.gate_file.specs.Open.{IsFirstDamage}
use Rattle.design_docs.specs.declared.design.View.{View}
use Rattle.view_model.specs.Picture.{Picture}
use Rattle.tree_index.specs.declared.fault.IndexFault.{IndexFault}
use Rattle.tree_index.specs.declared.fault.IndexFault.TheVariants.{Store}
use Rattle.tree_index.specs.Calls.{IsCounted}
use Rattle.tree_index.specs.Held.{HoldsIndex, IsFileOf, OnlyOpens, Stands}
use Rattle.tree_index.specs.Opens.{FindsDamage}

-- the disk failed, or a file is damaged
abbrev pub IsRemoveFault : IndexFault → Type 0
IsRemoveFault fault = (fault ≡ Store DiskFault) ⊎ ((name : FileName) × (at : ℕ) × (fault ≡ Store (Damaged name at)))

-- nothing is pending of the files of this index, and they have no bytes
abbrev pub AreEmpty : Stem → (FileName → File) → Type 0
AreEmpty stem files = (name : FileName) → IsFileOf stem name → files name ≡ settled []

-- The files of an index are emptied.
module _ {F : Type 0} (f : Folders F) (stem : Stem) (old new : F) where
  pub record Removes (result : Result (Unit {0}) IndexFault) : Type 0 where
    -- a crash leaves what they stand for, or no picture, and in the end they hold none
    pub stands : (functions : Option Functions) (views : List View) (picture : Option Picture) → IfTold (f.disk old) (λ d. HoldsIndex functions views stem d.now picture)
        → Tells (f.disk old) (f.disk new)
        (Moves (IsFileOf stem) (λ image. Stands functions views stem image picture ⊎ Stands functions views stem image None)
        (λ files. OnOk result (HoldsIndex functions views stem files None)))
    -- files that hold a picture or none are never damaged
    pub sound : (functions : Option Functions) (views : List View) (picture : Option Picture) → IfTold (f.disk old) (λ d. HoldsIndex functions views stem d.now picture → FindsDamage (λ name at. ⊥) result)
    -- whatever they held, they have no bytes in the end
    pub empty : IfTold (f.disk new) (λ d. OnOk result (AreEmpty stem d.now))
    pub damaged : IfTold (f.disk old) (λ d. FindsDamage (IsFirstDamage stem d.now) result)
    -- where a slot is damaged they are not emptied
    pub files : Tells (f.disk old) (f.disk new) (OnlyOpens stem (λ files. Unit {0}))
    pub faults : IfErr result IsRemoveFault
    pub cause : IsCounted f old new result
    pub reads : RisesBy 4 (f.reads old) (f.reads new)
