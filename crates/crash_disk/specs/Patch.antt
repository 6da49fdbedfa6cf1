-- Bytes of which a range was replaced, as far as they reach.
use Rattle.std.specs.Prelude.{◌≡◌, ℕ, ◌+◌, ◌<◌, ◌≤◌, List, length, slice_index}

-- the place lies in the range, a pair of the first place and the number of places
abbrev pub IsInside : ℕ × ℕ → ℕ → Type 0
IsInside range place = (range.0 ≤ place) × (place < range.0 + range.1)

-- only places of the range were changed
pub record IsPatched (range : ℕ × ℕ) (old new : List ℕ) : Type 0 where
  pub long : length new ≡ length old
  pub outside : (place : ℕ) → (IsInside range place → ⊥) → slice_index new place ≡ slice_index old place

-- and each got the byte
pub record IsFilled (range : ℕ × ℕ) (byte : ℕ) (old new : List ℕ) : Type 0 where
  pub patched : IsPatched range old new
  pub inside : (place : ℕ) → IsInside range place → place < length old → slice_index new place ≡ byte

-- and each that `from` reaches got its byte
pub record IsCopied (range : ℕ × ℕ) (from old new : List ℕ) : Type 0 where
  pub patched : IsPatched range old new
  pub inside : (place : ℕ) → IsInside range place → place < length old → place < length from → slice_index new place ≡ slice_index from place
