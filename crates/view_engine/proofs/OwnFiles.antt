-- Only files of the documents change.
use Rattle.std.proofs.Common.{Option}
use Rattle.view_ports.specs.Disk.{Disk, MovesNone, Tells}
use Rattle.view_ports.specs.declared.file_name.FileName.{FileName}
use Rattle.view_ports.proofs.DiskRuns.{moves_none, none_wider}
use Rattle.view_ports.proofs.Told.{told_map, told_refl}
use Rattle.doc_file.specs.Docs.{IsDocsFile}
use Rattle.view_engine.specs.Halts.{MovesDocuments}

abbrev pub MovesOwn : Disk FileName → Disk FileName → Type 0
MovesOwn = MovesDocuments (λ image. Unit {0})

-- nothing was called
pub own_still : (disk : Option (Disk FileName)) → Tells disk disk MovesOwn
own_still disk = told_refl disk MovesOwn (λ d. moves_none IsDocsFile (λ image. Unit {0}) (λ files. Unit {0}) d (λ image is. tt) tt)

module _ (old new : Option (Disk FileName)) where
  -- no file changed
  pub own_none : Tells old new MovesNone → Tells old new MovesOwn
  own_none =
      told_map old new MovesNone MovesOwn
      (λ a b none. none_wider IsDocsFile (λ image. Unit {0}) (λ files. Unit {0}) a b (λ image is. tt) (λ same. tt) none)
