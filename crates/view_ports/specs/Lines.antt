-- Bytes cut at newlines.
use Rattle.std.specs.Prelude.{◌≡◌, ◌≢◌, ◌+◌, ℕ, List, [], ◌∷◌, ◌++◌, All, Option, Some, None, take}
use Rattle.std.specs.List.{flat_map}

abbrev pub newline : ℕ
newline = 10

-- no byte of it is a newline
abbrev pub IsLine : List ℕ → Type 0
IsLine line = All (λ byte. byte ≢ newline) line

-- a text and its newline
abbrev pub ended : List ℕ → List ℕ
ended text = text ++ newline ∷ []

-- the bytes are these lines, each with its newline, and then a rest without one
pub record IsCut (bytes : List ℕ) (lines : List (List ℕ)) (rest : List ℕ) : Type 0 where
  pub joined : bytes ≡ flat_map ended lines ++ rest
  pub whole : All IsLine lines
  pub unended : IsLine rest

-- what stands after the last newline is a line too, unless nothing stands there
abbrev pub last_line : List ℕ → List (List ℕ)
last_line [] = []
last_line (byte ∷ bytes) = (byte ∷ bytes) ∷ []

-- the first line of the bytes, and what stands behind its newline, or none where there is no newline
abbrev pub CutsLine : List ℕ → Option (List ℕ × List ℕ) → Type 0
CutsLine bytes (Some (line, rest)) = IsLine line × (bytes ≡ ended line ++ rest)
CutsLine bytes None = IsLine bytes

-- what is kept of a line: one byte more than the longest line has is enough to refuse a longer one
unfoldable pub kept : ℕ → List ℕ → List ℕ
kept limit line = take (limit + 1) line
