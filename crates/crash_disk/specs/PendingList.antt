-- Files of a list by name, with what is pending on them.
use Rattle.std.specs.Prelude.{◌≡◌, ℕ, List, [], ◌∷◌}
use Rattle.view_ports.specs.declared.file_name.FileName.{FileName}
use Rattle.view_ports.specs.File.{File, settled}
use Rattle.crash_disk.specs.declared.held_file.HeldFile.{HeldFile}
use Rattle.crash_disk.specs.declared.pending_file.PendingFile.{PendingFile}
use Rattle.crash_disk.specs.Named.{value_in, IsAbsentIn, AreApartIn, IsIndexIn, apart_prop}
use Rattle.crash_disk.specs.Pending.{file_of}

abbrev pub file_named : List PendingFile → FileName → File
file_named = value_in (λ (file : PendingFile). file.name) (λ (file : PendingFile). file_of file.pending) (settled [])

abbrev pub IsPendingAbsent : FileName → List PendingFile → Type 0
IsPendingAbsent = IsAbsentIn (λ (file : PendingFile). file.name)

abbrev pub ArePendingApart : List PendingFile → Type 0
ArePendingApart = AreApartIn (λ (file : PendingFile). file.name)

abbrev pub IsPendingIndex : FileName → List PendingFile → ℕ → Type 0
IsPendingIndex = IsIndexIn (λ (file : PendingFile). file.name)

pub ArePendingApart-prop : (files : List PendingFile) → IsProp (ArePendingApart files)
ArePendingApart-prop = apart_prop (λ (file : PendingFile). file.name)

-- file by file: the same name, and the file stands to the bytes as `P` says
abbrev pub AreMatched : (File → List ℕ → Type 0) → List PendingFile → List HeldFile → Type 0
AreMatched P [] [] = Unit {0}
AreMatched P [] (held ∷ helds) = ⊥
AreMatched P (file ∷ files) [] = ⊥
AreMatched P (file ∷ files) (held ∷ helds) = (file.name ≡ held.name) × P (file_of file.pending) held.bytes.items × AreMatched P files helds

-- nothing is pending on the file
abbrev pub IsSettled : File → List ℕ → Type 0
IsSettled file bytes = file ≡ settled bytes
