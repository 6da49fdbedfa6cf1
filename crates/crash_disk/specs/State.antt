-- What callers see of a folder in memory.
use Rattle.std.specs.Prelude.{◌≡◌, ◌⊎◌, ℕ, List, Bool, Option, Some, None, cond, option_map}
use Rattle.view_ports.specs.declared.file_name.FileName.{FileName}
use Rattle.view_ports.specs.Disk.{Disk, clock}
use Rattle.view_ports.specs.Causes.{one_more}
use Rattle.view_ports.specs.Faults.{next_count}
use Rattle.view_ports.specs.File.{File}
use Rattle.view_ports.specs.Memory.{is_listed}
use Rattle.crash_disk.specs.declared.counters.Counters.{Counters}
use Rattle.crash_disk.specs.declared.memory_folder.MemoryFolder.{MemoryFolder}
use Rattle.crash_disk.specs.Moments.{passed, took}
use Rattle.crash_disk.specs.Told.{disk_of}

-- the numbers of the calls that fail, how many calls were made, and how many of them were faults and reads
pub record Counts : Type 0 where
  pub fail : List ℕ
  pub calls : ℕ
  pub faults : ℕ
  pub reads : ℕ

abbrev pub counts_in : Counters → Counts
counts_in counters = record { fail = counters.fail.items; calls = counters.calls; faults = counters.faults; reads = counters.reads }

abbrev pub counts : MemoryFolder → Counts
counts folder = counts_in folder.counters

-- the disk, where the folder keeps its moments
abbrev pub told : MemoryFolder → Option (Disk FileName)
told folder = disk_of folder.moments

-- one call more
abbrev pub called : Counts → Counts
called before = record before { calls = next_count before.calls }

-- one call more, which was a fault
abbrev pub failed : Counts → Counts
failed before = record before { calls = next_count before.calls; faults = next_count before.faults }

-- the next call is one of those that are to fail
abbrev pub is_failing : Counts → Bool
is_failing before = is_listed before.fail before.calls

-- one call more, which was a fault where it is one of those that are to fail
abbrev pub counted : Counts → Counts
counted before = cond (is_failing before) (failed before) (called before)

-- no call was made yet, and these are to fail
abbrev pub uncalled : List ℕ → Counts
uncalled fail = record { fail = fail; calls = 0; faults = 0; reads = 0 }

-- one read more
abbrev pub was_read : Counts → Counts
was_read before = record before { reads = one_more before.reads }

-- how many calls the disk tells of
abbrev pub calls_told : Option (Disk FileName) → ℕ
calls_told None = 0
calls_told (Some disk) = clock disk

-- a call changed no file: it is one more moment, or none where no memory was left to note it
abbrev pub ChangedNothing : Option (Disk FileName) → Option (Disk FileName) → Type 0
ChangedNothing old new = (new ≡ option_map passed old) ⊎ (new ≡ old)

-- the disk tells one call more, which changed a file so
abbrev pub HasTaken : Option (Disk FileName) → Option (Disk FileName) → FileName → (File → File) → Type 0
HasTaken old new name change = new ≡ option_map (took name change) old

-- the disk tells one call more, which changed no file
abbrev pub HasPassed : Option (Disk FileName) → Option (Disk FileName) → Type 0
HasPassed old new = new ≡ option_map passed old
