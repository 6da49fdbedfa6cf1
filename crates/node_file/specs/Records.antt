-- Records in the bytes of a file: each is its length in 8 bytes, the low byte first, and so many bytes behind it.
use Rattle.std.specs.Prelude.{ℕ, ◌+◌, List, length, take, drop, Option, Some, None, if◌then◌else◌, nat_lt}
use Rattle.std.specs.Int.{from_le_bytes, w64}
use Rattle.gate_file.specs.Header.{data_start}
use Rattle.tree_laws.specs.Stores.{Places}

-- the length of the record at the front of bytes
abbrev pub size_in : List ℕ → ℕ
size_in bytes = from_le_bytes w64 (take 8 bytes)

-- the bytes of the record at the front of bytes, where it is whole
abbrev pub record_in : List ℕ → Option (List ℕ)
record_in bytes = if nat_lt (length bytes) (8 + size_in bytes) then None else Some (take (size_in bytes) (drop 8 bytes))

-- the bytes of the record that stands whole at a place of a file, behind its slots
unfoldable pub node_at : List ℕ → Places
node_at bytes at = if nat_lt at data_start then None else record_in (drop at bytes)
