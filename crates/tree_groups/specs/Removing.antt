-- What removing the indexes of some files promises, one after another.
use Rattle.std.specs.Prelude.{◌≡◌, ◌⊎◌, ℕ, List, None, Result, Err, IfErr, OnOk, Contains}
use Rattle.view_ports.specs.Faults.{CountsFor}
use Rattle.view_ports.specs.Disk.{IfTold, Moves, Tells}
use Rattle.view_ports.specs.File.{File}
use Rattle.view_ports.specs.declared.file_name.FileName.{FileName}
use Rattle.view_ports.specs.declared.file_name.Stem.{Stem}
use Rattle.view_ports.specs.declared.file_name.Stem.TheVariants.{View}
use Rattle.view_ports.specs.declared.folder.Folder.{Ghosts as Folders}
use Rattle.gate_file.specs.declared.fault.GateFault.TheVariants.{DiskFault, Damaged}
use Rattle.tree_index.specs.declared.fault.IndexFault.{IndexFault}
use Rattle.tree_index.specs.declared.fault.IndexFault.TheVariants.{Store}
use Rattle.tree_index.specs.Held.{IsFileOf}
use Rattle.tree_index.specs.Removes.{AreEmpty, IsRemoveFault}
use Rattle.tree_groups.specs.declared.groups.Groups.{Groups}
use Rattle.tree_groups.specs.Cleans.{AreFewer, IsDamageOf, IsIndexFile, IsUnkept, KeptStayOpen, OnlyCloses}
use Rattle.tree_groups.specs.Groups.{AreAt, AreOpen}
use Rattle.tree_groups.specs.Pictures.{Kinds, Pictures, StandFor}

-- these names have one of this pair
abbrev pub IsNamed : List FileName → Stem → Type 0
IsNamed names stem = (name : FileName) × Contains names name × (name.stem ≡ stem)

-- the files of each index are as they were, or nothing is pending of them and they have no bytes
abbrev pub AreSameOrEmpty : (FileName → File) → (FileName → File) → Type 0
AreSameOrEmpty old new = (sig : List ℕ) → ((name : FileName) → IsFileOf (View sig) name → new name ≡ old name) ⊎ AreEmpty (View sig) new

module _ (kept : List (List ℕ)) where
  -- an image stands for some of the pictures, and for each that is kept
  abbrev pub StandsForFewer : Kinds → Pictures → (FileName → List ℕ) → Type 0
  StandsForFewer kinds pictures image = (fewer : Pictures) × AreFewer kept pictures fewer × StandFor kinds image fewer

  -- some of the pictures are gone: those that were to go, and none that is kept
  pub record AreLeft (IsToGo : Stem → Type 0) (pictures left : Pictures) : Type 0 where
    pub fewer : AreFewer kept pictures left
    pub gone : (sig : List ℕ) → IsToGo (View sig) → (Contains kept sig → ⊥) → left sig ≡ None

  -- the files of those that were to go have no bytes, but for those that are kept
  abbrev pub AreRemoved : (Stem → Type 0) → (FileName → File) → Type 0
  AreRemoved IsToGo files = (sig : List ℕ) → IsToGo (View sig) → (Contains kept sig → ⊥) → AreEmpty (View sig) files

  module _ (IsToGo : Stem → Type 0) {F : Type 0} (f : Folders F) (groups groups' : Groups) (old new : F) where
    -- the indexes that were to go are removed, but for those that are kept
    pub record RemovesEach (result : Result (Unit {0}) IndexFault) : Type 0 where
      pub stands : (kinds : Kinds) (pictures : Pictures) → IfTold (f.disk old) (λ d. AreAt kinds groups d.now pictures)
          → Tells (f.disk old) (f.disk new) (Moves IsIndexFile (StandsForFewer kinds pictures) (λ files. OnOk result ((left : Pictures) × AreLeft IsToGo pictures left × AreAt kinds groups' files left)))
      pub sound : (kinds : Kinds) (pictures : Pictures) → IfTold (f.disk old) (λ d. AreAt kinds groups d.now pictures → (name : FileName) (at : ℕ) → result ≡ Err (Store (Damaged name at)) → ⊥)
      -- whatever the files held
      pub each : OnOk result (Tells (f.disk old) (f.disk new) (λ a b. AreSameOrEmpty a.now b.now))
      pub empty : OnOk result (IfTold (f.disk new) (λ d. AreRemoved IsToGo d.now))
      pub damaged : IfTold (f.disk old) (λ d. (name : FileName) (at : ℕ) → result ≡ Err (Store (Damaged name at)) → IsDamageOf kept d.now name at)
      pub others : Tells (f.disk old) (f.disk new) (Moves (IsUnkept kept) (λ image. Unit {0}) (λ files. Unit {0}))
      pub stay : KeptStayOpen kept groups groups'
      pub only : OnlyCloses kept groups groups'
      pub is_open : IfTold (f.disk old) (λ d. AreOpen groups d.now) → IfTold (f.disk new) (λ d. AreOpen groups' d.now)
      pub faults : IfErr result IsRemoveFault
      pub cause : CountsFor (Store DiskFault) (f.faults old) (f.faults new) result
