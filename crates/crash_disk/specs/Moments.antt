-- What the calls of a log make of the files of a folder.
use Rattle.std.specs.Prelude.{ℕ, ◌+◌, ◌≤◌, List, [], ◌∷◌, cond, length}
use Rattle.std.specs.Coded.{×_prop, Unit-prop, le_prop}
use Rattle.view_ports.specs.declared.file_name.FileName.{FileName}
use Rattle.view_ports.specs.File.{File, settled, wrote, grew, emptied, synced}
use Rattle.view_ports.specs.Disk.{Disk}
use Rattle.crash_disk.specs.declared.did.Change.{Change}
use Rattle.crash_disk.specs.declared.did.Change.TheVariants.{Wrote, Grew, Emptied, Synced}
use Rattle.crash_disk.specs.declared.did.Did.{Did}
use Rattle.crash_disk.specs.declared.did.Did.TheVariants.{Passed, Changed}
use Rattle.crash_disk.specs.Names.{is_same}

-- what a change makes of a file
abbrev pub stepped : Change → File → File
stepped (Wrote at bytes) file = wrote at bytes.items file
stepped (Grew by) file = grew by file
stepped Emptied file = emptied file
stepped Synced file = synced file

-- the files after a call
abbrev pub after : Did → (FileName → File) → FileName → File
after Passed files name = files name
after (Changed at change) files name = cond (is_same at name) (stepped change (files name)) (files name)

-- the disk after one more call
abbrev pub noted : Did → Disk FileName → Disk FileName
noted did disk = record { now = after did disk.now; past = disk.now ∷ disk.past }

-- the disk after the calls of a log
abbrev pub disk_after : Disk FileName → List Did → Disk FileName
disk_after disk [] = disk
disk_after disk (did ∷ log) = disk_after (noted did disk) log

-- a disk with these bytes, on which nothing is pending and no call was made
abbrev pub disk_at : (FileName → List ℕ) → Disk FileName
disk_at bytes = record { now = λ name. settled (bytes name); past = [] }

-- a write lies within its file
abbrev pub FitsIn : Change → File → Type 0
FitsIn (Wrote at bytes) file = at + length bytes.items ≤ length file.seen
FitsIn (Grew by) file = Unit {0}
FitsIn Emptied file = Unit {0}
FitsIn Synced file = Unit {0}

abbrev pub Fits : Did → (FileName → File) → Type 0
Fits Passed files = Unit {0}
Fits (Changed name change) files = FitsIn change (files name)

-- each write lies within its file, as it is by then
abbrev pub AllFit : (FileName → File) → List Did → Type 0
AllFit files [] = Unit {0}
AllFit files (did ∷ log) = Fits did files × AllFit (after did files) log

FitsIn-prop : (change : Change) (file : File) → IsProp (FitsIn change file)
FitsIn-prop (Wrote at bytes) file = le_prop
FitsIn-prop (Grew by) file = Unit-prop
FitsIn-prop Emptied file = Unit-prop
FitsIn-prop Synced file = Unit-prop

Fits-prop : (did : Did) (files : FileName → File) → IsProp (Fits did files)
Fits-prop Passed files = Unit-prop
Fits-prop (Changed name change) files = FitsIn-prop change (files name)

pub AllFit-prop : (files : FileName → File) (log : List Did) → IsProp (AllFit files log)
AllFit-prop files [] = Unit-prop
AllFit-prop files (did ∷ log) = ×_prop (Fits-prop did files) (AllFit-prop (after did files) log)

-- the disk after one more call, which took a step on one file
abbrev pub took : FileName → (File → File) → Disk FileName → Disk FileName
took at step disk = record { now = λ name. cond (is_same at name) (step (disk.now name)) (disk.now name); past = disk.now ∷ disk.past }

-- the disk after one more call, which changed no file
abbrev pub passed : Disk FileName → Disk FileName
passed disk = record { now = λ name. disk.now name; past = disk.now ∷ disk.past }
