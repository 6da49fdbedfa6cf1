-- What a file of a pair is by its slots, and which of the two is opened.
use Rattle.std.specs.Prelude.{◌≡◌, ◌≢◌, ◌⊎◌, ℕ, List, [], ◌∷◌, ◌++◌, length, take, drop, Bool, true, false, Option, Some, None, is_some, is_none, if◌then◌else◌, ◌==◌, nat_lt, All}
use Rattle.view_ports.specs.File.{File, IsImage, settled}
use Rattle.view_ports.specs.declared.file_name.Stem.{Stem}
use Rattle.view_ports.specs.declared.file_name.FileName.{FileName}
use Rattle.gate_file.specs.declared.root.Root.{Root}
use Rattle.gate_file.specs.declared.gate.GateFile.{GateFile}
use Rattle.gate_file.specs.Header.{slot_at, place_of, open_root, IsFit, IsDamaged, newer}
use Rattle.gate_file.specs.GateFile.{Keeps}

-- what a file is with these roots in its open slots
abbrev pub found_newest : FileName → ℕ → Option Root → Option Root → Option Root → GateFile
found_newest name size low high None = record { name = name; length = size; commits = 0; root = None; next_is_open = false }
found_newest name size low high (Some root) = record {
  name = name;
  length = size;
  commits = root.number;
  root = Some root;
  next_is_open = if place_of root.number == 0 then is_some high else is_some low;
}

abbrev pub found_from : FileName → ℕ → Option Root → Option Root → GateFile
found_from name size low high = found_newest name size low high (newer low high)

-- what the file with these bytes is by itself
abbrev pub found : FileName → List ℕ → GateFile
found name bytes = found_from name (length bytes) (open_root (slot_at bytes 0)) (open_root (slot_at bytes 4096))

abbrev pub side_of : Stem → Bool → FileName
side_of stem side = record { stem = stem; side = side }

-- the one of the two that is opened: the one with the greater commit, or a new file where neither has one
abbrev pub opened_of : GateFile → GateFile → GateFile
opened_of first second = if nat_lt first.commits second.commits then second else if is_none first.root then record first { length = 0 } else first

-- the side of a pair that is opened, as an image of the disk has it
abbrev pub side_in : Stem → (FileName → List ℕ) → GateFile
side_in stem image = opened_of (found (side_of stem false) (image (side_of stem false))) (found (side_of stem true) (image (side_of stem true)))

-- what is opened in a folder with these files
abbrev pub opened : Stem → (FileName → File) → GateFile
opened stem files = side_in stem (λ name. (files name).seen)

-- a side that is emptied: one that isn't opened, or that has no root
abbrev pub IsDropped : GateFile → FileName → Type 0
IsDropped gate name = name ≡ gate.name → gate.root ≡ None

-- what a crash leaves of a side once both were synced: all of it, or nothing where it is emptied
abbrev pub IsWholeOrEmpty : GateFile → FileName → List ℕ → List ℕ → Type 0
IsWholeOrEmpty gate name seen image = (image ≡ seen) ⊎ ((image ≡ []) × IsDropped gate name)

-- what a crash might have left of the pair before
abbrev pub BeforeOpening : Stem → (FileName → File) → (FileName → List ℕ) → Type 0
BeforeOpening stem files image = (name : FileName) → name.stem ≡ stem → IsImage (files name) (image name)

-- what a crash leaves of the pair while it is opened: what it might have left before, or each side as above
abbrev pub WhileOpening : Stem → (FileName → File) → (FileName → List ℕ) → Type 0
WhileOpening stem files image =
    BeforeOpening stem files image
    ⊎ ((name : FileName) → name.stem ≡ stem → IsWholeOrEmpty (opened stem files) name (files name).seen (image name))

-- the pair once it is opened: nothing is pending, the object keeps what its file holds, and the other side has no bytes
pub record IsOpened (gate : GateFile) (old new : FileName → File) : Type 0 where
  pub keeps : Keeps gate (new gate.name)
  pub whole : new gate.name ≡ settled (take gate.length (old gate.name).seen)
  pub other : (name : FileName) → name.stem ≡ gate.name.stem → name ≢ gate.name → new name ≡ settled []

-- the places of the slots of a pair, in the order in which they are looked at
abbrev pub slots_of : Stem → List (FileName × ℕ)
slots_of stem = (side_of stem false, 0) ∷ (side_of stem false, 4096) ∷ (side_of stem true, 0) ∷ (side_of stem true, 4096) ∷ []

abbrev pub IsFitSlot : (FileName → File) → FileName × ℕ → Type 0
IsFitSlot files slot = IsFit slot.1 (files slot.0).seen

-- no slot of the pair is damaged
abbrev pub AreFitSlots : Stem → (FileName → File) → Type 0
AreFitSlots stem files = All (IsFitSlot files) (slots_of stem)

-- the first slot of a pair that is damaged
pub record IsFirstDamage (stem : Stem) (files : FileName → File) (name : FileName) (at : ℕ) : Type 0 where
  pub damaged : IsDamaged at (files name).seen
  pub before : List (FileName × ℕ)
  pub after : List (FileName × ℕ)
  pub split : slots_of stem ≡ before ++ (name, at) ∷ after
  pub fit : All (IsFitSlot files) before

-- a read gave so many bytes from a place on
pub record IsPart (bytes : List ℕ) (offset count : ℕ) (part : List ℕ) : Type 0 where
  pub long : length part ≡ count
  pub same : part ≡ take count (drop offset bytes)

-- the first slot of a file that is damaged
abbrev pub IsFirstIn : List ℕ → ℕ → Type 0
IsFirstIn bytes at = ((at ≡ 0) × IsDamaged 0 bytes) ⊎ ((at ≡ 4096) × IsFit 0 bytes × IsDamaged 4096 bytes)

-- what both files of a pair are by themselves
pub record IsPair (stem : Stem) (files : FileName → File) (first second : GateFile) : Type 0 where
  pub first_is : first ≡ found (side_of stem false) (files (side_of stem false)).seen
  pub second_is : second ≡ found (side_of stem true) (files (side_of stem true)).seen
  pub first_low : IsFit 0 (files (side_of stem false)).seen
  pub first_high : IsFit 4096 (files (side_of stem false)).seen
  pub second_low : IsFit 0 (files (side_of stem true)).seen
  pub second_high : IsFit 4096 (files (side_of stem true)).seen

-- nothing of the pair is pending
abbrev pub IsSettledPair : Stem → (FileName → File) → (FileName → File) → Type 0
IsSettledPair stem old new = (name : FileName) → name.stem ≡ stem → new name ≡ settled (old name).seen
