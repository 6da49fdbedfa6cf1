-- The two slots at the head of a file, and the root that they name.
use Rattle.std.specs.Prelude.{◌≡◌, ℕ, ◌+◌, ◌*◌, ◌%◌, ◌^◌, ◌<◌, ◌≤◌, List, length, map, slice_index, slice_range, Option, Some, None, if◌then◌else◌, ◌==◌, nat_lt, codes}
use Rattle.std.specs.List.{range_with_len}
use Rattle.std.specs.Int.{from_le_bytes, w64}
use Rattle.gate_file.specs.declared.root.Root.{Root}
use Rattle.gate_file.specs.declared.slot.Slot.{Slot}
use Rattle.gate_file.specs.declared.slot.Slot.TheVariants.{Closed, Open, Damaged}

-- so many bytes from a place on, 0 past the end
unfoldable pub window : List ℕ → ℕ → ℕ → List ℕ
window bytes at count = map (λ i. slice_index bytes (at + i)) (range_with_len 0 count)

-- where the data of a file begins: behind its two slots
abbrev pub data_start : ℕ
data_start = 8192

-- the place of the slot of the commit with this number
abbrev pub place_of : ℕ → ℕ
place_of number = 4096 * (number % 2)

-- A slot has 8 fixed bytes, and then in 8 bytes each the number of the commit, and the place and the length of
-- its root record. Its gate is the byte at place 64.
abbrev pub slot_at : List ℕ → ℕ → List ℕ
slot_at bytes at = window bytes at 65

abbrev pub root_in : List ℕ → Root
root_in slot = record {
  number = from_le_bytes w64 (slice_range slot 8 16);
  offset = from_le_bytes w64 (slice_range slot 16 24);
  length = from_le_bytes w64 (slice_range slot 24 32);
}

-- the gate is open
abbrev pub IsOpen : List ℕ → Type 0
IsOpen slot = slice_index slot 64 ≡ 1

-- what a slot says whose gate is open
abbrev pub open_root : List ℕ → Option Root
open_root slot = if slice_index slot 64 == 1 then Some (root_in slot) else None

-- the slot at a place of a file of some length is as a commit leaves it
pub record IsSound (at size : ℕ) (slot : List ℕ) : Type 0 where
  pub first_bytes : slice_range slot 0 8 ≡ codes "CVIEW001"
  pub from_one : 0 < (root_in slot).number
  pub to_most : (root_in slot).number ≤ 2 ^ 50
  pub own_place : place_of (root_in slot).number ≡ at
  pub behind_slots : data_start ≤ (root_in slot).offset
  pub within : (root_in slot).offset + (root_in slot).length ≤ size

-- the slot is closed, or sound
abbrev pub IsFit : ℕ → List ℕ → Type 0
IsFit at bytes = IsOpen (slot_at bytes at) → IsSound at (length bytes) (slot_at bytes at)

-- the slot is open, and not as a commit leaves it
abbrev pub IsDamaged : ℕ → List ℕ → Type 0
IsDamaged at bytes = IsOpen (slot_at bytes at) × (IsSound at (length bytes) (slot_at bytes at) → ⊥)

-- what is found in a slot
abbrev pub IsFound : ℕ → ℕ → List ℕ → Slot → Type 0
IsFound at size slot Closed = IsOpen slot → ⊥
IsFound at size slot (Open root) = IsOpen slot × IsSound at size slot × (root ≡ root_in slot)
IsFound at size slot Damaged = IsOpen slot × (IsSound at size slot → ⊥)

-- the root of the commit with the greater number
abbrev pub newer : Option Root → Option Root → Option Root
newer None second = second
newer (Some first) None = Some first
newer (Some first) (Some second) = if nat_lt first.number second.number then Some second else Some first

-- the root of the last commit of a file
abbrev pub newest : List ℕ → Option Root
newest bytes = newer (open_root (slot_at bytes 0)) (open_root (slot_at bytes 4096))
