-- Removing the files of indexes that no design has.
use Rattle.std.specs.Prelude.{◌≡◌, ◌⊎◌, ℕ, List, [], None, Result, Ok, Err, IfErr, OnOk, All, Contains}
use Rattle.view_ports.specs.Faults.{CountsFor}
use Rattle.view_ports.specs.Disk.{IfTold, Moves, MovesNone, Tells}
use Rattle.view_ports.specs.File.{File}
use Rattle.view_ports.specs.declared.file_name.FileName.{FileName}
use Rattle.view_ports.specs.declared.file_name.Stem.TheVariants.{View}
use Rattle.view_ports.specs.declared.folder.Folder.{Ghosts as Folders}
use Rattle.gate_file.specs.declared.fault.GateFault.TheVariants.{DiskFault, Damaged}
use Rattle.gate_file.specs.Open.{IsFirstDamage}
use Rattle.tree_index.specs.Index.{stem_of}
use Rattle.tree_index.specs.declared.fault.IndexFault.{IndexFault}
use Rattle.tree_index.specs.declared.fault.IndexFault.TheVariants.{NoMemory, Store}
use Rattle.tree_groups.specs.declared.groups.Groups.{Groups}
use Rattle.tree_groups.specs.Groups.{open_of, AreAt, AreOpen}
use Rattle.tree_groups.specs.Pictures.{Kinds, Pictures, StandFor}

-- a file of an index
abbrev pub IsIndexFile : FileName → Type 0
IsIndexFile name = (sig : List ℕ) × (name.stem ≡ View sig)

module _ (kept : List (List ℕ)) where
  -- some of the pictures are gone, none of which is kept
  abbrev pub AreFewer : Pictures → Pictures → Type 0
  AreFewer pictures fewer = (sig : List ℕ) → (fewer sig ≡ pictures sig) ⊎ ((fewer sig ≡ None) × (Contains kept sig → ⊥))

  -- the pictures that are kept stay, and all others are gone
  pub record AreKept (pictures left : Pictures) : Type 0 where
    pub stay : (sig : List ℕ) → Contains kept sig → left sig ≡ pictures sig
    pub gone : (sig : List ℕ) → (Contains kept sig → ⊥) → left sig ≡ None

  -- a file of an index that isn't kept
  abbrev pub IsUnkept : FileName → Type 0
  IsUnkept name = (sig : List ℕ) × (name.stem ≡ View sig) × (Contains kept sig → ⊥)

  -- none of these files has bytes
  abbrev pub AreCleared : (FileName → File) → Type 0
  AreCleared files = (name : FileName) → IsUnkept name → (files name).seen ≡ []

  -- at this place a file of an index that isn't kept is damaged
  pub record IsDamageOf (files : FileName → File) (name : FileName) (at : ℕ) : Type 0 where
    pub sig : List ℕ
    pub unkept : Contains kept sig → ⊥
    pub damage : IsFirstDamage (View sig) files name at

  -- the open indexes that are kept stay open, as they are
  abbrev pub KeptStayOpen : Groups → Groups → Type 0
  KeptStayOpen groups groups' = All (λ index. (sig : List ℕ) → stem_of index ≡ View sig → Contains kept sig → Contains (open_of groups') index) (open_of groups)

  -- and nothing else was opened
  abbrev pub OnlyCloses : Groups → Groups → Type 0
  OnlyCloses groups groups' = All (Contains (open_of groups)) (open_of groups')

  -- so it ends: want of memory leaves all
  abbrev pub EndsAt : Kinds → Groups → Pictures → Result (Unit {0}) IndexFault → (FileName → File) → Type 0
  EndsAt kinds groups pictures (Ok done) files = (left : Pictures) × AreKept pictures left × AreAt kinds groups files left
  EndsAt kinds groups pictures (Err (Store fault)) files = Unit {0}
  EndsAt kinds groups pictures (Err other) files = AreAt kinds groups files pictures

  module _ {F : Type 0} (f : Folders F) (groups groups' : Groups) (old new : F) where
    pub record Cleans (result : Result (Unit {0}) IndexFault) : Type 0 where
      -- at each moment a crash leaves each picture that is kept, and each other one wholly or not at all; files of no index are as
      -- they were
      pub stands : (kinds : Kinds) (pictures : Pictures) → IfTold (f.disk old) (λ d. AreAt kinds groups d.now pictures)
          → Tells (f.disk old) (f.disk new) (Moves IsIndexFile (λ image. (fewer : Pictures) × AreFewer pictures fewer × StandFor kinds image fewer) (EndsAt kinds groups' pictures result))
      -- whatever the files held
      pub empty : OnOk result (IfTold (f.disk new) (λ d. AreCleared d.now))
      -- for want of memory nothing is done
      pub unmoved : result ≡ Err NoMemory → (groups' ≡ groups) × Tells (f.disk old) (f.disk new) MovesNone
      -- what is damaged is a file of an index that isn't kept, and none is where files hold pictures
      pub damaged : IfTold (f.disk old) (λ d. (name : FileName) (at : ℕ) → result ≡ Err (Store (Damaged name at)) → IsDamageOf d.now name at)
      pub sound : (kinds : Kinds) (pictures : Pictures) → IfTold (f.disk old) (λ d. AreAt kinds groups d.now pictures → (name : FileName) (at : ℕ) → result ≡ Err (Store (Damaged name at)) → ⊥)
      -- whatever the files hold, those of indexes that are kept and of no index are as they were
      pub others : Tells (f.disk old) (f.disk new) (Moves IsUnkept (λ image. Unit {0}) (λ files. Unit {0}))
      pub stay : KeptStayOpen groups groups'
      pub only : OnlyCloses groups groups'
      -- whatever is answered, what each open index keeps is what the folder holds
      pub is_open : IfTold (f.disk old) (λ d. AreOpen groups d.now) → IfTold (f.disk new) (λ d. AreOpen groups' d.now)
      pub faults : IfErr result (λ e. (e ≡ Store DiskFault) ⊎ (e ≡ NoMemory) ⊎ ((name : FileName) × (at : ℕ) × (e ≡ Store (Damaged name at))))
      pub cause : CountsFor (Store DiskFault) (f.faults old) (f.faults new) result
