-- What opening an engine promises, over a folder that tells its disk.
use Rattle.std.specs.Prelude.{◌≡◌, ℕ, Option, Result, Err, IfOk}
use Rattle.view_ports.specs.Faults.{CountsFor}
use Rattle.view_ports.specs.Disk.{Disk, IfTold, Moves, Tells}
use Rattle.view_ports.specs.declared.file_name.FileName.{FileName}
use Rattle.view_ports.specs.declared.file_name.Stem.TheVariants.{Docs as DocsStem}
use Rattle.view_ports.specs.declared.folder.Folder.{Ghosts as Folders}
use Rattle.gate_file.specs.Open.{WhileOpening}
use Rattle.doc_file.specs.Docs.{IsDocsFile}
use Rattle.view_engine.specs.declared.engine.Engine.{Engine}
use Rattle.view_engine.specs.declared.halt.StepFault.{StepFault}
use Rattle.view_engine.specs.declared.halt.StepFault.TheVariants.{Damaged, DiskFault, Full}
use Rattle.view_engine.specs.Disks.{CrashLeaves}
use Rattle.view_engine.specs.World.{World}
use Rattle.view_engine.specs.Worlds.{HasDamage, Holds, IsAtWorld, IsOpen, StandsFor}

-- only files of the documents changed, and at each moment a crash leaves of them what opening them may leave
abbrev pub IsMovedByOpening : Disk FileName → Disk FileName → Type 0
IsMovedByOpening old new = Moves IsDocsFile (WhileOpening DocsStem old.now) (λ files. Unit {0}) old new

module _ {F : Type 0} (f : Folders F) where
  -- whatever the folder holds, no file changes but as opening changes it
  abbrev pub MovesByOpening : F → F → Type 0
  MovesByOpening old new = Tells (f.disk old) (f.disk new) IsMovedByOpening

  -- at each moment a crash leaves what stands for the world that the folder holds
  abbrev pub LeavesWorlds : F → F → Type 0
  LeavesWorlds old new = (world : World) → IfTold (f.disk old) (λ d. Holds d.now world) → CrashLeaves f old new (λ image. StandsFor image world)

  -- what is opened is at the world that the folder holds
  abbrev pub OpensWorlds : F → F → Result Engine StepFault → Type 0
  OpensWorlds old new result = (world : World) → IfTold (f.disk old) (λ d. Holds d.now world)
      → IfTold (f.disk new) (λ d. IfOk result (λ engine. IsAtWorld engine d.now world))

  -- what is opened keeps what the folder holds
  abbrev pub OpensWhole : F → Result Engine StepFault → Type 0
  OpensWhole new result = IfTold (f.disk new) (λ d. IfOk result (λ engine. IsOpen engine d.now))

  -- no file is damaged where the folder holds a world
  abbrev pub MeetsNoDamage : F → Result Engine StepFault → Type 0
  MeetsNoDamage old result = (world : World) → IfTold (f.disk old)
      (λ d. Holds d.now world → (name : FileName) (at : ℕ) → result ≡ Err (Damaged name at) → ⊥)

  -- what is named as damaged is
  abbrev pub MeetsDamage : F → Result Engine StepFault → Type 0
  MeetsDamage old result = IfTold (f.disk old)
      (λ d. (name : FileName) (at : ℕ) → result ≡ Err (Damaged name at) → HasDamage d.now name at)

  -- a fault of the disk was counted, and none for any other answer
  abbrev pub FailsByDisk : F → F → Result Engine StepFault → Type 0
  FailsByDisk old new result = CountsFor DiskFault (f.faults old) (f.faults new) result

-- opening fills no file
abbrev pub FillsNone : Result Engine StepFault → Type 0
FillsNone result = (name : FileName) (length : Option ℕ) → result ≡ Err (Full name length) → ⊥
