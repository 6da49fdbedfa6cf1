-- Taking values from the front of bytes. For private clauses.
use Rattle.std.specs.Prelude.{◌≡◌, ◌≢◌, ◌<◌, ℕ, List, [], ◌∷◌, ◌++◌, All, Result, Ok, Err, length}
use Rattle.tree_laws.specs.declared.reader.ReadFault.{ReadFault}
use Rattle.tree_laws.specs.declared.reader.ReadFault.TheVariants as read_fault

-- one byte
abbrev pub one_byte : ℕ → List ℕ
one_byte byte = byte ∷ []

abbrev pub IsByte : ℕ → Type 0
IsByte byte = byte < 256

-- so many values, each of them within bounds
abbrev pub AreCounted : {T : Type 0} → ℕ → (T → Type 0) → List T → Type 0
AreCounted count fits values = (length values ≡ count) × All fits values

-- A value within bounds was taken from the front of bytes, and these are left; or the bytes begin with no such value. Where
-- memory ran out nothing is said.
abbrev pub IsTaken : {T : Type 0} → (T → Type 0) → (T → List ℕ) → List ℕ → List ℕ → Result T ReadFault → Type 0
IsTaken fits spelled bytes left (Ok value) = fits value × (bytes ≡ spelled value ++ left)
IsTaken {T} fits spelled bytes left (Err read_fault.NotThere) = (value : T) (more : List ℕ) → fits value → bytes ≢ spelled value ++ more
IsTaken fits spelled bytes left (Err read_fault.NoMemory) = Unit {0}
