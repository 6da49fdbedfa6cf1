-- Appending bytes of which the last ones become the root record, by one commit.
use Rattle.std.specs.Prelude.{◌≡◌, ◌⊎◌, ℕ, ◌+◌, ◌-◌, ◌^◌, ◌<◌, ◌≤◌, List, ◌++◌, length, Result, Option, Some, OnOk}
use Rattle.view_ports.specs.Disk.{Disk, MovesFile}
use Rattle.view_ports.specs.File.{File, settled}
use Rattle.view_ports.specs.declared.file_name.Stem.{Stem}
use Rattle.view_ports.specs.declared.file_name.FileName.{FileName}
use Rattle.gate_file.specs.declared.root.Root.{Root}
use Rattle.gate_file.specs.declared.gate.GateFile.{GateFile}
use Rattle.gate_file.specs.Pair.{IsOpenFile, IsOpenPair, durable_bytes, own_bytes}
use Rattle.gate_file.specs.Shown.{HasAll, Shows, IsFront}
use Rattle.gate_file.specs.GateFile.{commits_of, name_of, root_of, start_of, appended, next_root, committed, Keeps}

-- the root that stands behind the first `skipped` of so many bytes that are appended
abbrev pub published_root : GateFile → ℕ → ℕ → Root
published_root gate size skipped = next_root gate (start_of gate + skipped) (size - skipped)

-- the file after bytes were appended to it, and what stands behind the first `skipped` of them became its root
abbrev pub published : GateFile → ℕ → ℕ → GateFile
published gate size skipped = committed (appended gate size) (published_root gate size skipped)

-- the file would be too long with so many bytes more
abbrev pub IsTooLong : GateFile → ℕ → Type 0
IsTooLong gate size = 2 ^ 40 < start_of gate + size

-- the file may get so many bytes more, but has all of its commits
abbrev pub IsUsedUp : GateFile → ℕ → Type 0
IsUsedUp gate size = (2 ^ 50 ≤ commits_of gate) × (start_of gate + size ≤ 2 ^ 40)

-- so many bytes can't be published, as the file is full
abbrev pub IsFull : GateFile → ℕ → Type 0
IsFull gate size = IsTooLong gate size ⊎ IsUsedUp gate size

-- what a crash leaves of the file with its new root
pub record ShowsNew (root : Root) (bytes : List ℕ) (file : File) (image : List ℕ) : Type 0 where
  pub front : List ℕ
  pub made : IsFront file.seen front
  pub shows : Shows (Some root) (front ++ bytes) image

-- the old root with what was durable, or the new root with all of the bytes
abbrev pub ShowsEither : GateFile → Root → List ℕ → File → List ℕ → Type 0
ShowsEither gate root bytes file image = Shows (root_of gate) file.durable image ⊎ ShowsNew root bytes file image

-- the file with its new root: nothing is pending
pub record IsPublished (gate : GateFile) (bytes : List ℕ) (old new : File) : Type 0 where
  pub front : List ℕ
  pub made : IsFront old.seen front
  pub shows : Shows (root_of gate) (front ++ bytes) new.seen
  pub size : length new.seen ≡ length (front ++ bytes)
  pub whole : new ≡ settled new.seen
  pub keeps : Keeps gate new

-- at each moment a crash leaves the file with one of the two roots, and in the end it is the new one, where nothing failed
abbrev pub Publishes : {T E : Type 0} → GateFile → List ℕ → ℕ → Result T E → Disk FileName → Disk FileName → Type 0
Publishes gate bytes skipped result =
    MovesFile (name_of gate) (ShowsEither gate (published_root gate (length bytes) skipped) bytes)
    (λ file now. OnOk result (IsPublished (published gate (length bytes) skipped) bytes file now))

-- With these bytes behind all that a file has, the root that is published holds this.
abbrev pub WillHold : {X : Type 0} → (Option Root → List ℕ → X → Type 0) → GateFile → List ℕ → List ℕ → ℕ → X → Type 0
WillHold Holds gate old bytes skipped x =
    (front : List ℕ) → length front ≡ start_of gate → HasAll old front → Holds (Some (published_root gate (length bytes) skipped)) (front ++ bytes) x

-- what is durable of an open file holds `x`, and the file will hold `y` once the bytes are published
pub record TurnsFile {X : Type 0} (stem : Stem) (Holds : Option Root → List ℕ → X → Type 0) (gate : GateFile) (bytes : List ℕ) (skipped : ℕ) (files : FileName → File) (x y : X) : Type 0 where
  pub is_open : IsOpenFile stem gate files
  pub holds : Holds (root_of gate) (durable_bytes gate files) x
  pub will : commits_of gate < 2 ^ 50 → WillHold Holds gate (own_bytes gate files) bytes skipped y

-- an open pair holds `x`, and it will hold `y` once the bytes are published
pub record Turns {X : Type 0} (stem : Stem) (Holds : Option Root → List ℕ → X → Type 0) (gate : GateFile) (bytes : List ℕ) (skipped : ℕ) (files : FileName → File) (x y : X) : Type 0 where
  pub is_open : IsOpenPair stem gate files
  pub holds : Holds (root_of gate) (own_bytes gate files) x
  pub will : commits_of gate < 2 ^ 50 → WillHold Holds gate (own_bytes gate files) bytes skipped y
