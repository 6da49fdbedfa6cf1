-- What a gate file keeps, and what its calls do.
use Rattle.std.specs.Prelude.{◌≡◌, ℕ, ◌+◌, ◌<◌, ◌≤◌, List, [], ◌++◌, length, Option, Some, None, option_map, IfSome, IsTrue, ◌↔◌, max, is_some}
use Rattle.view_ports.specs.File.{File, settled}
use Rattle.view_ports.specs.declared.file_name.FileName.{FileName}
use Rattle.view_ports.specs.declared.file_name.Stem.{Stem}
use Rattle.gate_file.specs.declared.root.Root.{Root}
use Rattle.gate_file.specs.declared.gate.GateFile.{GateFile}
use Rattle.gate_file.specs.Header.{data_start, slot_at, place_of, IsOpen, IsFit, open_root}
use Rattle.gate_file.specs.Shown.{Shows, KeepsDurable, IsFront}

abbrev pub name_of : GateFile → FileName
name_of gate = gate.name

-- it is a file of this pair
abbrev pub IsOfStem : Stem → GateFile → Type 0
IsOfStem stem gate = (name_of gate).stem ≡ stem

-- how long the file is; a file that isn't made yet has length 0
abbrev pub length_of : GateFile → ℕ
length_of gate = gate.length

-- the number of the last commit of the pair
abbrev pub commits_of : GateFile → ℕ
commits_of gate = gate.commits

-- the root of the last commit, where this file has one
abbrev pub root_of : GateFile → Option Root
root_of gate = gate.root

-- the number of the commit that made this the root
abbrev pub commits_in : Option Root → ℕ
commits_in None = 0
commits_in (Some root) = root.number

-- the place and the length of the root record
abbrev pub root_record : GateFile → Option (ℕ × ℕ)
root_record gate = option_map (λ root. (root.offset, root.length)) (root_of gate)

-- what is in the slot is older than the root
abbrev pub IsOlder : Option Root → Option Root → Type 0
IsOlder None root = Unit {0}
IsOlder (Some old) None = ⊥
IsOlder (Some old) (Some root) = old.number < root.number

-- What the object keeps is what the folder holds: the file's length; the root of its last commit in the slot of
-- that commit, and an older one or none in the slot of the next; and whether that one's gate is open.
pub record Keeps (gate : GateFile) (file : File) : Type 0 where
  pub size : length file.seen ≡ gate.length
  pub new : gate.length ≡ 0 → file ≡ settled []
  pub made : 0 < gate.length → data_start ≤ length file.durable
  pub durable : KeepsDurable file
  pub last : open_root (slot_at file.durable (place_of gate.commits)) ≡ gate.root
  pub counted : IfSome gate.root (λ root. root.number ≡ gate.commits)
  pub next : IsOlder (open_root (slot_at file.durable (place_of (gate.commits + 1)))) gate.root
  pub next_open : IsTrue gate.next_is_open ↔ IsOpen (slot_at file.durable (place_of (gate.commits + 1)))
  pub low : IsFit 0 file.durable
  pub high : IsFit 4096 file.durable

-- the place of the next bytes that are appended: the end of the file, or behind the slots of a new one
abbrev pub start_of : GateFile → ℕ
start_of gate = max data_start gate.length

-- the object after so many bytes were appended
abbrev pub appended : GateFile → ℕ → GateFile
appended gate count = record gate { length = start_of gate + count }

-- the file after these bytes were appended
pub record IsAppended (gate : GateFile) (bytes : List ℕ) (old new : File) : Type 0 where
  pub front : List ℕ
  pub made : IsFront old.seen front
  pub seen : new.seen ≡ front ++ bytes
  pub durable : Shows gate.root old.durable new.durable
  pub keeps : Keeps gate new

-- the root of the next commit
abbrev pub next_root : GateFile → ℕ → ℕ → Root
next_root gate offset size = record { number = gate.commits + 1; offset = offset; length = size }

-- the object after a commit of this root
abbrev pub committed : GateFile → Root → GateFile
committed gate root = record gate { commits = root.number; root = Some root; next_is_open = is_some gate.root }

-- the file after a commit: nothing is pending, and it names the new root and has all of its bytes
pub record IsCommitted (gate : GateFile) (old new : File) : Type 0 where
  pub settled_now : new ≡ settled new.seen
  pub size : length new.seen ≡ length old.seen
  pub shows : Shows gate.root old.seen new.seen
  pub keeps : Keeps gate new
