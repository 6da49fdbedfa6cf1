-- What a crash within a call may leave, by the moments of a disk.
use Rattle.std.specs.Prelude.{◌≡◌, ◌⊎◌, ℕ, ◌+◌, List, [], ◌∷◌, ◌++◌, Option, Some, cond, length, nat_lt}
use Rattle.view_ports.specs.declared.file_name.FileName.{FileName}
use Rattle.view_ports.specs.File.{File}
use Rattle.view_ports.specs.Disk.{Disk, IsImageOf}
use Rattle.crash_disk.specs.Chosen.{IsOverwritten}
use Rattle.crash_disk.specs.Moments.{disk_at}

abbrev pub moment_of : (FileName → File) → List (FileName → File) → ℕ → FileName → File
moment_of now [] calls = now
moment_of now (before ∷ past) calls = cond (nat_lt (length past) calls) now (moment_of before past calls)

-- the files after so many calls
abbrev pub moment : Disk FileName → ℕ → FileName → File
moment disk calls = moment_of disk.now disk.past calls

-- the ranges that were written since the last sync that was finished, those of the call among them
abbrev pub written_within : Disk FileName → ℕ → FileName → List (ℕ × ℕ)
written_within disk call name = (moment disk call name).written ++ (moment disk (call + 1) name).written

-- The bytes that a crash within the call leaves, at a choice: an image of the files before the call or after it. Choice
-- 0 keeps nothing that wasn't synced before the call, 1 keeps all, and 2 is 1 with 255 in each place that was written and
-- not synced, by the call too.
pub record IsTorn (disk : Disk FileName) (call choice : ℕ) (image : FileName → List ℕ) : Type 0 where
  pub stays : IsImageOf (moment disk call) image ⊎ IsImageOf (moment disk (call + 1)) image
  pub synced_alone : choice ≡ 0 → (name : FileName) → image name ≡ (moment disk call name).durable
  pub all : choice ≡ 1 → (name : FileName) → image name ≡ (moment disk (call + 1) name).seen
  pub overwritten : choice ≡ 2 → (name : FileName) → IsOverwritten (written_within disk call name) (moment disk (call + 1) name).seen (image name)

-- what is left is a disk with such bytes, on which nothing is pending and no call was made
abbrev pub IsLeft : Disk FileName → ℕ → ℕ → Option (Disk FileName) → Type 0
IsLeft disk call choice left = (image : FileName → List ℕ) × (left ≡ Some (disk_at image)) × IsTorn disk call choice image
