-- Values of files by name, where a name that no file has stands for a value of its own.
use Rattle.std.specs.Prelude.{◌≡◌, ◌≢◌, ℕ, ◌<◌, List, [], ◌∷◌, cond, length, slice_index_or}
use Rattle.std.specs.Coded.{×_prop, →_prop, Unit-prop}
use Rattle.view_ports.specs.declared.file_name.FileName.{FileName}
use Rattle.crash_disk.specs.Names.{is_same}

abbrev pub value_in : {E V : Type 0} → (E → FileName) → (E → V) → V → List E → FileName → V
value_in name_of value_of none [] name = none
value_in name_of value_of none (file ∷ files) name = cond (is_same (name_of file) name) (value_of file) (value_in name_of value_of none files name)

-- no file has the name
abbrev pub IsAbsentIn : {E : Type 0} → (E → FileName) → FileName → List E → Type 0
IsAbsentIn name_of name [] = Unit {0}
IsAbsentIn name_of name (file ∷ files) = (name_of file ≢ name) × IsAbsentIn name_of name files

-- no two files have one name
abbrev pub AreApartIn : {E : Type 0} → (E → FileName) → List E → Type 0
AreApartIn name_of [] = Unit {0}
AreApartIn name_of (file ∷ files) = IsAbsentIn name_of (name_of file) files × AreApartIn name_of files

-- the file with the name stands at this place
abbrev pub IsIndexIn : {E : Type 0} → (E → FileName) → FileName → List E → ℕ → Type 0
IsIndexIn {E} name_of name files at = (at < length files) × ((file : E) → name_of (slice_index_or files at file) ≡ name)

absent_prop : {E : Type 0} (name_of : E → FileName) (name : FileName) (files : List E) → IsProp (IsAbsentIn name_of name files)
absent_prop name_of name [] = Unit-prop
absent_prop name_of name (file ∷ files) = ×_prop (→_prop (λ never other. absurd never)) (absent_prop name_of name files)

pub apart_prop : {E : Type 0} (name_of : E → FileName) (files : List E) → IsProp (AreApartIn name_of files)
apart_prop name_of [] = Unit-prop
apart_prop name_of (file ∷ files) = ×_prop (absent_prop name_of (name_of file) files) (apart_prop name_of files)
