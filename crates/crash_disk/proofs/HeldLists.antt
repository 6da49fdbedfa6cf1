-- The bytes of held files by name, after a change of one of them.
use Rattle.std.proofs.Common.{◌≡◌, ◌≢◌, ℕ, ◌<◌, List, [], ◌∷◌, ◌++◌, Bool, cond, length, get_or}
use Rattle.std.proofs.Math.ListN.{set}
use Rattle.view_ports.specs.declared.file_name.FileName.{FileName}
use Rattle.crash_disk.specs.declared.held_file.HeldFile.{HeldFile}
use Rattle.crash_disk.specs.Names.{is_same}
use Rattle.crash_disk.specs.Held.{bytes_of, IsAbsent, AreApart, IsIndexOf}
use Rattle.crash_disk.proofs.NamedLists as named

pub absent_by_index : (name : FileName) (files : List HeldFile) → ((k : ℕ) (d : HeldFile) → k < length files → (get_or files k d).name ≢ name) → IsAbsent name files
absent_by_index = named.absent_by_index (λ (file : HeldFile). file.name)

pub apart_set : (files : List HeldFile) (at : ℕ) (d file : HeldFile) → AreApart files → at < length files → file.name ≡ (get_or files at d).name → AreApart (set files at file)
apart_set = named.apart_set (λ (file : HeldFile). file.name)

pub apart_pushed : (files new : List HeldFile) (file : HeldFile) (ok : Bool) → new ≡ cond ok (files ++ file ∷ []) files → AreApart files → IsAbsent file.name files → AreApart new
apart_pushed = named.apart_pushed (λ (file : HeldFile). file.name)

pub bytes_absent : (name : FileName) (files : List HeldFile) → IsAbsent name files → bytes_of files name ≡ []
bytes_absent = named.value_absent (λ (file : HeldFile). file.name) (λ (file : HeldFile). file.bytes.items) []

pub bytes_at : (name : FileName) (files : List HeldFile) (at : ℕ) (d : HeldFile) → AreApart files → at < length files → (get_or files at d).name ≡ name → bytes_of files name ≡ (get_or files at d).bytes.items
bytes_at = named.value_at (λ (file : HeldFile). file.name) (λ (file : HeldFile). file.bytes.items) []

-- a file without bytes is put behind the others
pub bytes_push : (files : List HeldFile) (file : HeldFile) (name : FileName) → file.bytes.items ≡ [] → bytes_of (files ++ file ∷ []) name ≡ bytes_of files name
bytes_push = named.value_push (λ (file : HeldFile). file.name) (λ (file : HeldFile). file.bytes.items) []

-- a step on the bytes of the file with a name, by the place of the file in the list
pub step_at : (name : FileName) (files : List HeldFile) (at : ℕ) (d file : HeldFile) (step : List ℕ → List ℕ) → AreApart files → IsIndexOf name files at
    → d ≡ get_or files at d → file.name ≡ d.name → file.bytes.items ≡ step d.bytes.items
    → (n : FileName) → bytes_of (set files at file) n ≡ cond (is_same name n) (step (bytes_of files n)) (bytes_of files n)
step_at = named.step_at (λ (file : HeldFile). file.name) (λ (file : HeldFile). file.bytes.items) []

pub step_absent : (name : FileName) (files : List HeldFile) (step : List ℕ → List ℕ) → IsAbsent name files → step [] ≡ []
    → (n : FileName) → bytes_of files n ≡ cond (is_same name n) (step (bytes_of files n)) (bytes_of files n)
step_absent = named.step_absent (λ (file : HeldFile). file.name) (λ (file : HeldFile). file.bytes.items) []
