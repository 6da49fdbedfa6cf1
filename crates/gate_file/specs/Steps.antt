-- What the calls do from which those on a gate file are made.
use Rattle.std.specs.Prelude.{◌≡◌, ℕ, List, length, Result, OnOk}
use Rattle.view_ports.specs.Disk.{Disk, MovesFile}
use Rattle.view_ports.specs.File.{File, IsImage, grew, synced, wrote}
use Rattle.view_ports.specs.declared.file_name.FileName.{FileName}

-- a step on a file that is synced: at each moment a crash leaves what it may leave of the step while this is pending
abbrev pub SyncsStep : {T E : Type 0} → FileName → (File → File) → Result T E → Disk FileName → Disk FileName → Type 0
SyncsStep name step result = MovesFile name (λ file image. IsImage (step file) image) (λ file now. OnOk result (now ≡ synced (step file)))

-- bytes are added at the end, which is at this place, and stay pending
abbrev pub Adds : {T E : Type 0} → FileName → ℕ → List ℕ → Result T E → Disk FileName → Disk FileName → Type 0
Adds name at bytes result =
    MovesFile name (λ file image. IsImage (wrote at bytes (grew (length bytes) file)) image) (λ file now. OnOk result (now ≡ wrote at bytes (grew (length bytes) file)))
