-- Where a root record stands, and damage there.
use Rattle.std.specs.Prelude.{◌≡◌, ◌⊎◌, ℕ, List, Option, Some, None}
use Rattle.view_ports.specs.File.{File}
use Rattle.view_ports.specs.declared.file_name.Stem.{Stem}
use Rattle.view_ports.specs.declared.file_name.FileName.{FileName}
use Rattle.gate_file.specs.declared.root.Root.{Root}
use Rattle.gate_file.specs.declared.gate.GateFile.{GateFile}
use Rattle.gate_file.specs.GateFile.{name_of, root_of}
use Rattle.gate_file.specs.Open.{opened, AreFitSlots, IsFirstDamage}
use Rattle.gate_file.specs.Pair.{own_bytes}

-- the place of the root record
abbrev pub IsPlaceOf : Option Root → FileName → FileName → ℕ → Type 0
IsPlaceOf None own name at = ⊥
IsPlaceOf (Some root) own name at = (name ≡ own) × (at ≡ root.offset)

abbrev pub IsRootPlace : GateFile → FileName → ℕ → Type 0
IsRootPlace gate name at = IsPlaceOf (root_of gate) (name_of gate) name at

-- the root record has this place, and in the bytes of its file it spells nothing of its kind
pub record IsRootDamage {X : Type 0} (Spells : Option Root → List ℕ → X → Type 0) (gate : GateFile) (bytes : List ℕ) (name : FileName) (at : ℕ) : Type 0 where
  pub place : IsRootPlace gate name at
  pub none : (x : X) → Spells (root_of gate) bytes x → ⊥

-- what is damaged of a pair as it is opened: its first damaged slot, or, where no slot is damaged, its root record
abbrev pub IsPairDamage : {X : Type 0} → Stem → (Option Root → List ℕ → X → Type 0) → (FileName → File) → FileName → ℕ → Type 0
IsPairDamage stem Spells files name at =
    IsFirstDamage stem files name at ⊎ (AreFitSlots stem files × IsRootDamage Spells (opened stem files) (own_bytes (opened stem files) files) name at)
