-- One file on a disk that may stop at any moment, and the calls that change it.
use Rattle.std.specs.Prelude.{◌≡◌, ◌⊎◌, ℕ, ◌+◌, ◌<◌, ◌≤◌, List, [], ◌∷◌, ◌++◌, length, take, drop, replicate, slice_index}

-- what a file is between two calls; ranges are pairs of the first place and the number of places
pub record File : Type 0 where
  -- what a read gives
  pub seen : List ℕ
  -- what the last sync that succeeded made sure of
  pub durable : List ℕ
  -- since that sync: the ranges that were written, the ranges that were added, and each length that the file had
  pub written : List (ℕ × ℕ)
  pub added : List (ℕ × ℕ)
  pub lengths : List ℕ

-- the place lies in one of the ranges
abbrev pub IsIn : List (ℕ × ℕ) → ℕ → Type 0
IsIn [] place = ⊥
IsIn (range ∷ ranges) place = ((range.0 ≤ place) × (place < range.0 + range.1)) ⊎ IsIn ranges place

-- the number is one of the list
abbrev pub IsOneOf : List ℕ → ℕ → Type 0
IsOneOf [] number = ⊥
IsOneOf (first ∷ rest) number = (number ≡ first) ⊎ IsOneOf rest number

-- what a crash now may leave of the file: one of the lengths that it had since its last sync, any bytes
-- where it was written since, and everywhere else the durable byte, or 0 where it was added
pub record IsImage (file : File) (image : List ℕ) : Type 0 where
  pub long : IsOneOf file.lengths (length image)
  pub kept : (place : ℕ) → place < length image → (IsIn file.written place → ⊥)
      → (slice_index image place ≡ slice_index file.durable place) ⊎ (IsIn file.added place × (slice_index image place ≡ 0))

-- nothing is pending: a crash leaves exactly these bytes
abbrev pub settled : List ℕ → File
settled bytes = record { seen = bytes; durable = bytes; written = []; added = []; lengths = length bytes ∷ [] }

-- the bytes with a piece of them replaced
abbrev pub splice : List ℕ → ℕ → List ℕ → List ℕ
splice bytes at piece = take at bytes ++ piece ++ drop (at + length piece) bytes

-- what each call makes of a file
abbrev pub wrote : ℕ → List ℕ → File → File
wrote at piece file = record file { seen = splice file.seen at piece; written = (at, length piece) ∷ file.written }

abbrev pub grew : ℕ → File → File
grew by file = record file {
  seen = file.seen ++ replicate by 0;
  added = (length file.seen, by) ∷ file.added;
  lengths = (length file.seen + by) ∷ file.lengths;
}

abbrev pub emptied : File → File
emptied file = record file { seen = []; lengths = 0 ∷ file.lengths }

abbrev pub synced : File → File
synced file = settled file.seen
