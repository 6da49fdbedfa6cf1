-- Words that the contracts of calls on gate files share.
use Rattle.std.specs.Prelude.{◌≡◌, ◌⊎◌, ℕ, List, length, Result, Err, Some, None, OnOk}
use Rattle.view_ports.specs.Causes.{RisesBy}
use Rattle.view_ports.specs.Faults.{CountsFor}
use Rattle.view_ports.specs.Disk.{Disk, IfTold, MovesFile, Tells}
use Rattle.view_ports.specs.File.{File}
use Rattle.view_ports.specs.declared.file_name.FileName.{FileName}
use Rattle.view_ports.specs.declared.folder.Folder.{Ghosts as Folders}
use Rattle.gate_file.specs.declared.root.Root.{Root}
use Rattle.gate_file.specs.declared.gate.GateFile.{GateFile}
use Rattle.gate_file.specs.declared.fault.GateFault.{GateFault}
use Rattle.gate_file.specs.declared.fault.GateFault.TheVariants.{DiskFault, Damaged, Full, NoMemory}
use Rattle.gate_file.specs.GateFile.{appended, committed, length_of, name_of, root_of, IsAppended, IsCommitted, Keeps}
use Rattle.gate_file.specs.Shown.{Shows}

-- ---- what a folder tells

module _ {F : Type 0} (f : Folders F) where
  -- of its disk
  abbrev pub Told : F → (Disk FileName → Type 0) → Type 0
  Told folder P = IfTold (f.disk folder) P

  -- of its disk before and after
  abbrev pub Moved : F → F → (Disk FileName → Disk FileName → Type 0) → Type 0
  Moved old new R = Tells (f.disk old) (f.disk new) R

  -- a fault of the disk comes only where the folder counted one, and it counted none for any other answer
  abbrev pub IsCounted : {T : Type 0} → F → F → Result T GateFault → Type 0
  IsCounted old new result = CountsFor DiskFault (f.faults old) (f.faults new) result

  -- so many reads were made at most
  abbrev pub ReadsUpTo : ℕ → F → F → Type 0
  ReadsUpTo most old new = RisesBy most (f.reads old) (f.reads new)

-- what an object keeps is what the folder holds
abbrev pub KeepsIn : GateFile → Disk FileName → Type 0
KeepsIn gate disk = Keeps gate (disk.now (name_of gate))

-- ---- what moves

-- a crash leaves the root and what was durable, and in the end the file is as `ends` says, where nothing failed
abbrev pub KeepsRoot : {T E : Type 0} → GateFile → Result T E → (File → File → Type 0) → Disk FileName → Disk FileName → Type 0
KeepsRoot gate result ends = MovesFile (name_of gate) (λ file image. Shows (root_of gate) file.durable image) (λ file now. OnOk result (ends file now))

-- bytes are added at the end
abbrev pub Appends : {T E : Type 0} → GateFile → List ℕ → Result T E → Disk FileName → Disk FileName → Type 0
Appends gate bytes result = KeepsRoot gate result (IsAppended (appended gate (length bytes)) bytes)

-- a crash leaves the old root with all that was durable, or the new root with all that was appended
abbrev pub Commits : {T E : Type 0} → GateFile → Root → Result T E → Disk FileName → Disk FileName → Type 0
Commits gate root result =
    MovesFile (name_of gate) (λ file image. Shows (root_of gate) file.durable image ⊎ Shows (Some root) file.seen image)
    (λ file now. OnOk result (IsCommitted (committed gate root) file now))

-- ---- faults

-- the file would be too long
abbrev pub too_long : GateFile → GateFault
too_long gate = Full (name_of gate) (Some (length_of gate))

-- the file has all of its commits
abbrev pub used_up : GateFile → GateFault
used_up gate = Full (name_of gate) None

-- the disk failed, or the file is full
abbrev pub IsWriteFault : GateFile → GateFault → Type 0
IsWriteFault gate fault = (fault ≡ DiskFault) ⊎ (fault ≡ too_long gate) ⊎ (fault ≡ used_up gate)

-- the disk failed, or a file is damaged
abbrev pub IsOpenFault : GateFault → Type 0
IsOpenFault fault = (fault ≡ DiskFault) ⊎ ((name : FileName) × (at : ℕ) × (fault ≡ Damaged name at))

-- the disk failed, memory ran out, or the file is damaged at this place
abbrev pub IsReadFault : FileName → ℕ → GateFault → Type 0
IsReadFault name at fault = (fault ≡ DiskFault) ⊎ (fault ≡ NoMemory) ⊎ (fault ≡ Damaged name at)

-- the call found damage there, and it is of this kind
abbrev pub IsDamageOf : {T : Type 0} → (FileName → ℕ → Type 0) → Result T GateFault → Type 0
IsDamageOf IsThere result = (name : FileName) (at : ℕ) → result ≡ Err (Damaged name at) → IsThere name at
