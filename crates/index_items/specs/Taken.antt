-- What was taken from the front of bytes. For private clauses.
use Rattle.std.specs.Prelude.{◌≡◌, ◌≢◌, ℕ, List, ◌++◌, Option, Some, None}
use Rattle.std.specs.Borrow.{Bor}
use Rattle.tree_laws.specs.Nodes.{IsSized, sized}

-- the bytes begin with no value of this kind
abbrev pub BeginsNone : {T : Type 0} → (T → Type 0) → (T → List ℕ) → List ℕ → Type 0
BeginsNone {T} fits spelled bytes = (value : T) (more : List ℕ) → fits value → bytes ≢ spelled value ++ more

-- a value within bounds stands at the front, and these bytes behind it; or they begin with none
abbrev pub IsTaken : {T : Type 0} → (T → Type 0) → (T → List ℕ) → List ℕ → Option (T × Bor (List ℕ)) → Type 0
IsTaken fits spelled bytes (Some taken) = fits taken.0 × (bytes ≡ spelled taken.0 ++ taken.1.now)
IsTaken fits spelled bytes None = BeginsNone fits spelled bytes

-- the bytes are a length and so many bytes behind it; or they are nothing of the kind
abbrev pub IsBehindLength : List ℕ → Option (Bor (List ℕ)) → Type 0
IsBehindLength bytes (Some rest) = bytes ≡ sized rest.now
IsBehindLength bytes None = (rest : List ℕ) → IsSized rest → bytes ≢ sized rest
