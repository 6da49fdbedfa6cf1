-- Values and their bytes.
use Rattle.std.specs.Prelude.{◌≡◌, ◌≢◌, ◌++◌, ℕ, List, Result, Ok, Err}
use Rattle.tree_laws.specs.declared.item.ItemFault.{ItemFault}

-- the value that these bytes spell, of those within bounds; or they spell none
abbrev pub IsReadBack : {T : Type 0} → (T → Type 0) → (T → List ℕ) → List ℕ → Result T ItemFault → Type 0
IsReadBack fits spelled bytes (Ok value) = fits value × (spelled value ≡ bytes)
IsReadBack {T} fits spelled bytes (Err fault) = (value : T) → fits value → spelled value ≢ bytes

-- no two values within bounds have the same bytes
abbrev pub IsSpelledOnce : {T : Type 0} → (T → Type 0) → (T → List ℕ) → Type 0
IsSpelledOnce {T} fits spelled = (x y : T) → fits x → fits y → spelled x ≡ spelled y → x ≡ y

-- of two values whose bytes begin the same bytes, each is the other, and the same bytes are left
abbrev pub IsPrefixFree : {T : Type 0} → (T → Type 0) → (T → List ℕ) → Type 0
IsPrefixFree {T} fits spelled = (x y : T) (more rest : List ℕ) → fits x → fits y → spelled x ++ more ≡ spelled y ++ rest → (x ≡ y) × (more ≡ rest)
