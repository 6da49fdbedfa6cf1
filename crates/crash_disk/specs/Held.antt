-- The bytes of files by name, where a file that isn't there has none.
use Rattle.std.specs.Prelude.{ℕ, List, [], ◌==◌, filter, map, not, vec_len}
use Rattle.view_ports.specs.declared.file_name.FileName.{FileName}
use Rattle.crash_disk.specs.declared.held_file.HeldFile.{HeldFile}
use Rattle.crash_disk.specs.Named.{value_in, IsAbsentIn, AreApartIn, IsIndexIn, apart_prop}

abbrev pub bytes_of : List HeldFile → FileName → List ℕ
bytes_of = value_in (λ (file : HeldFile). file.name) (λ (file : HeldFile). file.bytes.items) []

abbrev pub IsAbsent : FileName → List HeldFile → Type 0
IsAbsent = IsAbsentIn (λ (file : HeldFile). file.name)

abbrev pub AreApart : List HeldFile → Type 0
AreApart = AreApartIn (λ (file : HeldFile). file.name)

abbrev pub IsIndexOf : FileName → List HeldFile → ℕ → Type 0
IsIndexOf = IsIndexIn (λ (file : HeldFile). file.name)

pub AreApart-prop : (files : List HeldFile) → IsProp (AreApart files)
AreApart-prop = apart_prop (λ (file : HeldFile). file.name)

-- the names of the files that have bytes
abbrev pub names_of : List HeldFile → List FileName
names_of files = map (λ file. file.name) (filter (λ file. not (vec_len file.bytes == 0)) files)
