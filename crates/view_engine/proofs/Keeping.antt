-- Where the documents stand after a request that wrote none, and what a crash leaves while it is done.
use Rattle.std.proofs.Common.{List, Result, Option, inl}
use Rattle.view_ports.specs.Disk.{Disk, IfTold, MovesNone, Tells}
use Rattle.view_ports.specs.declared.file_name.FileName.{FileName}
use Rattle.view_ports.proofs.DiskRuns.{moves_none, none_wider}
use Rattle.view_ports.proofs.Told.{told_after, told_given, told_still}
use Rattle.doc_file.specs.declared.docs.Docs.{Docs}
use Rattle.doc_file.specs.Docs.{IsAt, IsDocsFile, IsOpen}
use Rattle.design_docs.specs.History.{Write}
use Rattle.doc_file.proofs.Stores.{image_now}
use Rattle.view_engine.specs.declared.request.Request.{Request}
use Rattle.view_engine.specs.declared.refusal.Refusal.{Refusal}
use Rattle.view_engine.specs.Halts.{DocumentsStandAround, MovesDocuments}
use Rattle.view_engine.specs.World.{World}
use Rattle.view_engine.proofs.Unmoved.{IsAt-none, IsOpen-none}

-- no file changed
module _ (docs : Docs) (old new : Option (Disk FileName)) (moves : Tells old new MovesNone) where
  pub at_none : (history : List Write) → IfTold old (λ d. IsAt docs d.now history) → IfTold new (λ d. IsAt docs d.now history)
  at_none history told = told_after old new (λ d. IsAt docs d.now history) (λ d. IsAt docs d.now history) MovesNone (λ a b at none. IsAt-none docs history a b at none) told moves

  pub open_none : IfTold old (λ d. IsOpen docs d.now) → IfTold new (λ d. IsOpen docs d.now)
  open_none told = told_after old new (λ d. IsOpen docs d.now) (λ d. IsOpen docs d.now) MovesNone (λ a b is_open none. IsOpen-none docs a b is_open none) told moves

  pub moved_none : (request : Result Request Refusal) (world : World) → IfTold old (λ d. IsAt docs d.now world.history) → Tells old new (MovesDocuments (DocumentsStandAround world request))
  moved_none request world told = told_given old new (λ d. IsAt docs d.now world.history) MovesNone (MovesDocuments (DocumentsStandAround world request))
      (λ a b at none. none_wider IsDocsFile (DocumentsStandAround world request) (λ files. Unit {0}) a b
      (λ image is. inl (image_now docs a.now at.is_open world.history at image is)) (λ same. tt) none) told moves

-- nothing was called
pub moved_still : (docs : Docs) (now : Option (Disk FileName)) (request : Result Request Refusal) (world : World) → IfTold now (λ d. IsAt docs d.now world.history)
    → Tells now now (MovesDocuments (DocumentsStandAround world request))
moved_still docs now request world told = told_still now (λ d. IsAt docs d.now world.history) (MovesDocuments (DocumentsStandAround world request))
    (λ d at. moves_none IsDocsFile (DocumentsStandAround world request) (λ files. Unit {0}) d
    (λ image is. inl (image_now docs d.now at.is_open world.history at image is)) tt) told
