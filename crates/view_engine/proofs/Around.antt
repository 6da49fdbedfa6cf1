-- What a crash leaves around a write: the world before it, or with it.
use Rattle.std.proofs.Common.{◌⊎◌, ℕ, List, ◌∷◌, Option, Result, inl, inr}
use Rattle.view_ports.specs.Disk.{Disk, IfTold, Moves, Tells}
use Rattle.view_ports.specs.File.{File}
use Rattle.view_ports.specs.declared.file_name.FileName.{FileName}
use Rattle.view_ports.proofs.DiskRuns.{moves_wider}
use Rattle.view_ports.proofs.Told.{told_given}
use Rattle.doc_file.specs.Docs.{IsDocsFile}
use Rattle.doc_file.specs.Held.{Stands}
use Rattle.design_docs.specs.History.{Write}
use Rattle.view_engine.specs.declared.request.Request.{Request}
use Rattle.view_engine.specs.declared.refusal.Refusal.{Refusal}
use Rattle.view_engine.specs.World.{World}
use Rattle.view_engine.specs.Halts.{DocumentsStandAround, MovesDocuments}
use Rattle.view_engine.specs.Steps.{IsWrite}

abbrev Told : Type 0
Told = Option (Disk FileName)

module _ (world : World) (request : Result Request Refusal) (write : Write) (ends : (FileName → File) → Type 0) where
  abbrev Either : (FileName → List ℕ) → Type 0
  Either image = Stands image world.history ⊎ Stands image (write ∷ world.history)

  by_side : IsWrite world request write → (image : FileName → List ℕ) → Either image → DocumentsStandAround world request image
  by_side is image (inl before) = inl before
  by_side is image (inr after) = inr (write, is, after)

  -- an accepted write was made, or its making failed
  pub moves_around : (old new : Told) → IfTold old (λ d. IsWrite world request write) → Tells old new (Moves IsDocsFile Either ends)
      → Tells old new (MovesDocuments (DocumentsStandAround world request))
  moves_around old new = told_given old new (λ d. IsWrite world request write) (Moves IsDocsFile Either ends) (MovesDocuments (DocumentsStandAround world request))
      (λ a b is moves. moves_wider IsDocsFile IsDocsFile Either (DocumentsStandAround world request) ends (λ files. Unit {0}) a b
      (λ name own. own) (λ image framed. by_side is image framed.inside) (λ others ended. tt) moves)
