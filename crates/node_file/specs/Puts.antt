-- What a put does.
use Rattle.std.specs.Prelude.{◌≡◌, ◌⊎◌, ℕ, List, Some, Result, OnOk}
use Rattle.view_ports.specs.Disk.{Disk}
use Rattle.view_ports.specs.File.{File}
use Rattle.view_ports.specs.declared.file_name.FileName.{FileName}
use Rattle.gate_file.specs.declared.gate.GateFile.{GateFile}
use Rattle.gate_file.specs.declared.fault.GateFault.{GateFault}
use Rattle.gate_file.specs.declared.fault.GateFault.TheVariants.{DiskFault, NoMemory}
use Rattle.gate_file.specs.Calls.{too_long}
use Rattle.gate_file.specs.GateFile.{name_of, start_of}
use Rattle.tree_laws.specs.Stores.{Extends}
use Rattle.node_file.specs.Records.{node_at}

-- the piece stands where the file ended, and each node that was there is there
pub record HasPut (gate : GateFile) (piece : List ℕ) (old new : File) : Type 0 where
  pub placed : node_at new.seen (start_of gate) ≡ Some piece
  pub kept : Extends (node_at old.seen) (node_at new.seen)

-- a piece was put, where nothing failed
abbrev pub Puts : {T E : Type 0} → GateFile → List ℕ → Result T E → Disk FileName → Disk FileName → Type 0
Puts gate piece result old new = OnOk result (HasPut gate piece (old.now (name_of gate)) (new.now (name_of gate)))

-- the disk failed, the file is full, or memory ran out
abbrev pub IsPutFault : GateFile → GateFault → Type 0
IsPutFault gate fault = (fault ≡ DiskFault) ⊎ (fault ≡ too_long gate) ⊎ (fault ≡ NoMemory)
