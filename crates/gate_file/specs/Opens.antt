-- What the calls do that open a pair.
use Rattle.std.specs.Prelude.{◌≡◌, ◌⊎◌, ℕ, List, [], Result, Option, OnOk, IfOk}
use Rattle.view_ports.specs.Disk.{Disk, Moves, MovesFile}
use Rattle.view_ports.specs.File.{IsImage, settled}
use Rattle.view_ports.specs.declared.file_name.Stem.{Stem}
use Rattle.view_ports.specs.declared.file_name.FileName.{FileName}
use Rattle.gate_file.specs.declared.root.Root.{Root}
use Rattle.gate_file.specs.declared.gate.GateFile.{GateFile}
use Rattle.gate_file.specs.Header.{slot_at, open_root, IsFit}
use Rattle.gate_file.specs.Open.{found, BeforeOpening, IsOpened, IsSettledPair, WhileOpening}

-- the slot at this place is sound or closed, and names this root or none
abbrev pub HasRoot : List ℕ → ℕ → Option Root → Type 0
HasRoot bytes at root = (root ≡ open_root (slot_at bytes at)) × IsFit at bytes

-- no slot is damaged, and the object is what the file with these bytes is by itself
abbrev pub IsFoundAs : FileName → List ℕ → GateFile → Type 0
IsFoundAs name bytes gate = (gate ≡ found name bytes) × IsFit 0 bytes × IsFit 4096 bytes

-- a file is synced
abbrev pub Syncs : {T E : Type 0} → FileName → Result T E → Disk FileName → Disk FileName → Type 0
Syncs name result = MovesFile name (λ file image. IsImage file image) (λ file now. OnOk result (now ≡ settled file.seen))

-- both files of a pair are synced
abbrev pub SyncsPair : {T E : Type 0} → Stem → Result T E → Disk FileName → Disk FileName → Type 0
SyncsPair stem result old new = Moves (λ name. name.stem ≡ stem) (BeforeOpening stem old.now) (λ files. OnOk result (IsSettledPair stem old.now files)) old new

-- all bytes of a file are taken away
abbrev pub Empties : {T E : Type 0} → FileName → Result T E → Disk FileName → Disk FileName → Type 0
Empties name result = MovesFile name (λ file image. IsImage file image ⊎ (image ≡ [])) (λ file now. OnOk result (now ≡ settled []))

-- a pair is opened
abbrev pub Opens : {E : Type 0} → Stem → Result GateFile E → Disk FileName → Disk FileName → Type 0
Opens stem result old new = Moves (λ name. name.stem ≡ stem) (WhileOpening stem old.now) (λ files. IfOk result (λ gate. IsOpened gate old.now files)) old new
