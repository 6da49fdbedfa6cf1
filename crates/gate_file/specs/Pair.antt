-- What a pair of files stands for, by what the bytes behind a root hold.
use Rattle.std.specs.Prelude.{◌≡◌, ◌≢◌, ◌≤◌, ℕ, List, [], Option, Some, None, map, All, AllPairs}
use Rattle.view_ports.specs.File.{File, settled}
use Rattle.view_ports.specs.declared.file_name.Stem.{Stem}
use Rattle.view_ports.specs.declared.file_name.FileName.{FileName}
use Rattle.gate_file.specs.declared.root.Root.{Root}
use Rattle.gate_file.specs.declared.gate.GateFile.{GateFile}
use Rattle.gate_file.specs.Header.{data_start, slot_at, open_root, IsFit}
use Rattle.gate_file.specs.GateFile.{name_of, root_of, Keeps}
use Rattle.gate_file.specs.Open.{side_in, slots_of, BeforeOpening}
use Rattle.gate_file.specs.Shown.{HasAll}

-- what the slots of a pair name whose gates are open
abbrev pub open_roots : Stem → (FileName → List ℕ) → List (Option Root)
open_roots stem image = map (λ slot. open_root (slot_at (image slot.0) slot.1)) (slots_of stem)

-- two slots don't name the same commit
abbrev pub AreApart : Option Root → Option Root → Type 0
AreApart None second = Unit {0}
AreApart (Some first) None = Unit {0}
AreApart (Some first) (Some second) = first.number ≢ second.number

-- What is held under a root is told by the root and the bytes behind the slots: without a root by nothing else, and with one
-- each image holds it that has all of these bytes.
pub record IsOfRoot {X : Type 0} (Holds : Option Root → List ℕ → X → Type 0) : Type 0 where
  pub rootless : (bytes image : List ℕ) (x : X) → Holds None bytes x → Holds None image x
  pub rooted : (root : Root) (bytes image : List ℕ) (x : X) → data_start ≤ root.offset → HasAll bytes image → Holds (Some root) bytes x → Holds (Some root) image x

module _ {X : Type 0} (stem : Stem) (Holds : Option Root → List ℕ → X → Type 0) where
  -- An image of the disk stands for what the root of the last commit of the pair holds, where no slot of the pair is damaged
  -- and no two name the same commit.
  pub record StandsFor (image : FileName → List ℕ) (x : X) : Type 0 where
    pub fit : All (λ slot. IsFit slot.1 (image slot.0)) (slots_of stem)
    pub apart : AllPairs AreApart (open_roots stem image)
    pub stands : Holds (root_of (side_in stem image)) (image (name_of (side_in stem image))) x

  -- nothing of the pair is pending, and it stands for this
  pub record PairHolds (files : FileName → File) (x : X) : Type 0 where
    pub whole : (name : FileName) → name.stem ≡ stem → files name ≡ settled (files name).seen
    pub stands : StandsFor (λ name. (files name).seen) x

  -- each image that a crash may leave of the pair stands for this, and so does what is read of it
  pub record EachStands (files : FileName → File) (x : X) : Type 0 where
    pub images : (image : FileName → List ℕ) → BeforeOpening stem files image → StandsFor image x
    pub seen : StandsFor (λ name. (files name).seen) x

-- the bytes of an object's own file
abbrev pub own_bytes : GateFile → (FileName → File) → List ℕ
own_bytes gate files = (files (name_of gate)).seen

-- and those of them that are durable
abbrev pub durable_bytes : GateFile → (FileName → File) → List ℕ
durable_bytes gate files = (files (name_of gate)).durable

-- What an object keeps is what the folder holds of its pair: its file, of which what was added may be pending, and beside it a side
-- without bytes.
pub record IsOpenFile (stem : Stem) (gate : GateFile) (files : FileName → File) : Type 0 where
  pub own : (name_of gate).stem ≡ stem
  pub keeps : Keeps gate (files (name_of gate))
  pub other : (name : FileName) → name.stem ≡ stem → name ≢ name_of gate → files name ≡ settled []

-- What an object keeps is what the folder holds of its pair: its file, of which nothing is pending, and beside it a side
-- without bytes.
pub record IsOpenPair (stem : Stem) (gate : GateFile) (files : FileName → File) : Type 0 where
  pub own : (name_of gate).stem ≡ stem
  pub keeps : Keeps gate (files (name_of gate))
  pub whole : files (name_of gate) ≡ settled (own_bytes gate files)
  pub other : (name : FileName) → name.stem ≡ stem → name ≢ name_of gate → files name ≡ settled []
