-- The states of a file within a commit.
use Rattle.std.specs.Prelude.{◌≡◌, ℕ, ◌+◌, ◌^◌, ◌<◌, ◌≤◌, List, ◌++◌, length, slice_index, Option, codes}
use Rattle.std.specs.Int.{to_le_bytes, w64}
use Rattle.view_ports.specs.File.{File, settled}
use Rattle.gate_file.specs.declared.root.Root.{Root}
use Rattle.gate_file.specs.declared.gate.GateFile.{GateFile}
use Rattle.gate_file.specs.Header.{data_start, slot_at, place_of, IsOpen, IsFit, open_root}
use Rattle.gate_file.specs.Shown.{KeepsDurable}
use Rattle.gate_file.specs.GateFile.{IsOlder}

-- the bytes of a slot before its gate
abbrev pub header : Root → List ℕ
header root = codes "CVIEW001" ++ to_le_bytes w64 root.number ++ to_le_bytes w64 root.offset ++ to_le_bytes w64 root.length

-- the slot has these bytes before its gate
pub record HasHeader (root : Root) (slot : List ℕ) : Type 0 where
  pub long : length slot ≡ 65
  pub each : (i : ℕ) → i < 32 → slice_index slot i ≡ slice_index (header root) i

-- the bytes have this root in the slot of commit `k`, and an older one or none in the slot of the next
pub record Holds (k : ℕ) (root : Option Root) (bytes : List ℕ) : Type 0 where
  pub made : data_start ≤ length bytes
  pub last : open_root (slot_at bytes (place_of k)) ≡ root
  pub next : IsOlder (open_root (slot_at bytes (place_of (k + 1)))) root
  pub fit : IsFit (place_of k) bytes
  pub fit_next : IsFit (place_of (k + 1)) bytes

-- one file's bytes behind the slots go on as another's: all durable ones, and all that are seen
pub record Continues (old new : File) : Type 0 where
  pub size : length new.seen ≡ length old.seen
  pub seen : (place : ℕ) → data_start ≤ place → place < length old.seen → slice_index new.seen place ≡ slice_index old.seen place
  pub long : length old.durable ≤ length new.durable
  pub durable : (place : ℕ) → data_start ≤ place → place < length old.durable → slice_index new.durable place ≡ slice_index old.durable place

-- the gate of the slot of the next commit is closed
pub record IsReady (gate : GateFile) (file : File) : Type 0 where
  pub size : length file.seen ≡ gate.length
  pub holds : Holds gate.commits gate.root file.durable
  pub closed : IsOpen (slot_at file.durable (place_of (gate.commits + 1))) → ⊥
  pub durable : KeepsDurable file

-- all is durable but the gate of this root
pub record IsStaged (gate : GateFile) (root : Root) (file : File) : Type 0 where
  pub size : length file.seen ≡ gate.length
  pub settled_now : file ≡ settled file.seen
  pub holds : Holds gate.commits gate.root file.seen
  pub has : HasHeader root (slot_at file.seen (place_of (gate.commits + 1)))

-- the root may be the next
pub record IsNext (gate : GateFile) (root : Root) : Type 0 where
  pub number : root.number ≡ gate.commits + 1
  pub most : root.number ≤ 2 ^ 50
  pub behind : data_start ≤ root.offset
  pub within : root.offset + root.length ≤ gate.length
