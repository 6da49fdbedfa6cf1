-- Bytes that a child has printed.
use Rattle.std.specs.Prelude.{◌≡◌, ◌≢◌, ◌<◌, ◌+◌, ℕ, List, ◌++◌, Some, length, slice_index}
use Rattle.view_ports.specs.Lines.{CutsLine, newline}

-- no line ends in so many bytes from this place on
abbrev pub IsUnended : List ℕ → ℕ → ℕ → Type 0
IsUnended bytes from count = (k : ℕ) → k < count → slice_index bytes (from + k) ≢ newline

-- the bytes from a place on are there, from another place on
abbrev pub IsThere : List ℕ → ℕ → List ℕ → ℕ → Type 0
IsThere old from new to = (k : ℕ) → from + k < length old → slice_index new (to + k) ≡ slice_index old (from + k)

-- some bytes came, and all are kept
abbrev pub Grows : List ℕ → List ℕ → Type 0
Grows old new = (came : List ℕ) × (new ≡ old ++ came)

-- some bytes came, and the line is what stands before the first newline, byte for byte; what stands behind it is kept
abbrev pub Takes : List ℕ → List ℕ → List ℕ → Type 0
Takes old line new = (came : List ℕ) × CutsLine (old ++ came) (Some (line, new))
