-- The files as a crash within a call of a log finds them.
use Rattle.std.specs.Prelude.{ℕ, Bool, true, false, List, cond, take}
use Rattle.view_ports.specs.declared.file_name.FileName.{FileName}
use Rattle.view_ports.specs.File.{File}
use Rattle.view_ports.specs.Disk.{Disk}
use Rattle.crash_disk.specs.declared.did.Change.TheVariants.{Wrote, Grew, Emptied, Synced}
use Rattle.crash_disk.specs.declared.did.Did.{Did}
use Rattle.crash_disk.specs.declared.did.Did.TheVariants.{Passed, Changed}
use Rattle.crash_disk.specs.Moments.{after, disk_after}

abbrev pub is_sync : Did → Bool
is_sync Passed = false
is_sync (Changed name (Wrote at bytes)) = false
is_sync (Changed name (Grew by)) = false
is_sync (Changed name Emptied) = false
is_sync (Changed name Synced) = true

-- within a sync what was pending before is pending; within any other call its own change is pending too
abbrev pub within : Did → (FileName → File) → FileName → File
within did files name = cond (is_sync did) (files name) (after did files name)

-- the files before the call with this number
abbrev pub files_before : Disk FileName → List Did → ℕ → FileName → File
files_before start log call = (disk_after start (take call log)).now
