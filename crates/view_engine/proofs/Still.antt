-- Where nothing is written, no file changes.
use Rattle.std.proofs.Common.{Option, Result}
use Rattle.view_ports.specs.Disk.{Disk, IfTold, MovesNone, Tells}
use Rattle.view_ports.specs.declared.file_name.FileName.{FileName}
use Rattle.view_ports.proofs.DiskRuns.{none_refl}
use Rattle.view_ports.proofs.Told.{told_given, told_still}
use Rattle.doc_file.specs.declared.docs.Docs.{Docs}
use Rattle.doc_file.specs.Docs.{IsAt}
use Rattle.design_docs.specs.History.{Write}
use Rattle.view_engine.specs.declared.request.Request.{Request}
use Rattle.view_engine.specs.declared.refusal.Refusal.{Refusal}
use Rattle.view_engine.specs.Halts.{IsStill}
use Rattle.view_engine.specs.Steps.{IsWrite}
use Rattle.view_engine.specs.World.{World}

abbrev Told : Type 0
Told = Option (Disk FileName)

-- nothing was called
pub still_same : (docs : Docs) (disk : Told) (request : Result Request Refusal) → IsStill docs disk disk request
still_same docs disk request = λ world at never. told_still disk (λ d. IsAt docs d.now world.history) MovesNone (λ d is. none_refl d) at

-- the request is a write that is accepted
pub still_written : (old new : Told) (world : World) (request : Result Request Refusal) (write : Write) (Moved : Disk FileName → Disk FileName → Type 0)
    → IfTold old (λ d. IsWrite world request write) → ((write : Write) → IsWrite world request write → ⊥) → Tells old new Moved → Tells old new MovesNone
still_written old new world request write Moved is never =
    told_given old new (λ d. IsWrite world request write) Moved MovesNone (λ a b here moved. absurd (never write here)) is
