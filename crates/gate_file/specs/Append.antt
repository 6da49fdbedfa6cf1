-- The states of a file while bytes are appended.
use Rattle.std.specs.Prelude.{◌≡◌, ℕ, List, length, slice_index}
use Rattle.view_ports.specs.File.{File, settled}
use Rattle.gate_file.specs.declared.gate.GateFile.{GateFile}
use Rattle.gate_file.specs.Shown.{Shows, IsFront}
use Rattle.gate_file.specs.GateFile.{Keeps, start_of}

-- all bytes are 0
abbrev pub IsZeros : List ℕ → Type 0
IsZeros bytes = (place : ℕ) → slice_index bytes place ≡ 0

-- so many zero bytes, of which nothing is pending
pub record IsGrown (size : ℕ) (file : File) : Type 0 where
  pub settled_now : file ≡ settled file.seen
  pub long : length file.seen ≡ size
  pub zeros : IsZeros file.seen

-- the file has room for its slots, which was made where it was new
pub record IsMade (gate : GateFile) (old new : File) : Type 0 where
  pub front : IsFront old.seen new.seen
  pub shows : Shows gate.root old.durable new.durable
  pub keeps : Keeps (record gate { length = start_of gate }) new
