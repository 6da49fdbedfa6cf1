-- An engine is opened as its documents are.
use Rattle.std.proofs.Common.{◌≡◌, ◌∙◌, ℕ, Err, IfOk, Option, Result, sym, ap}
use Rattle.view_ports.specs.Disk.{Disk, Framed, IfTold, LeavesOnly, Moves, Tells}
use Rattle.view_ports.specs.File.{File}
use Rattle.view_ports.specs.declared.file_name.FileName.{FileName}
use Rattle.view_ports.proofs.DiskRuns.{moves_wider}
use Rattle.view_ports.proofs.Told.{told_after, told_given, told_map, told_now}
use Rattle.view_ports.proofs.Moments.{weaker}
use Rattle.gate_file.specs.declared.fault.GateFault.TheVariants as gate
use Rattle.doc_file.specs.declared.docs.Docs.{Docs}
use Rattle.doc_file.specs.declared.fault.DocFault.{DocFault}
use Rattle.doc_file.specs.declared.fault.DocFault.TheVariants.{Gate}
use Rattle.doc_file.specs.Docs.{HoldsHistory, IsAt, IsDamagedAt, IsDocsFile}
use Rattle.doc_file.specs.Held.{Stands}
use Rattle.view_engine.specs.declared.halt.StepFault.TheVariants.{Damaged}
use Rattle.doc_file.specs.Reads.{Opens}
use Rattle.view_engine.specs.Openings.{IsMovedByOpening}
use Rattle.view_engine.specs.Signatures.{kinds_of}
use Rattle.view_engine.specs.World.{World}
use Rattle.view_engine.specs.Worlds.{Holds, IsAtWorld, StandsFor}
use Rattle.view_engine.proofs.Whole.{apart, pictures_stand}
use Rattle.tree_groups.proofs.Standing.{held_still, none_open_are_at}
use Rattle.view_engine.proofs.Faults.{damage_is}
use Rattle.view_engine.proofs.Signatures.{none_opened}
use Rattle.view_engine.proofs.engine.Engine.open.Goals as goal

-- opening the documents moves what opening the engine does
moved : (old new : Option (Disk FileName)) (result : Result Docs DocFault) → Tells old new (Opens result) → Tells old new IsMovedByOpening
moved old new result =
    told_map old new (Opens result) IsMovedByOpening
    (λ a b opens. moves_wider IsDocsFile IsDocsFile _ _ _ (λ files. Unit {0}) a b (λ name is. is) (λ image framed. framed.inside) (λ others ended. tt) opens)

pub returns-in_err-new-in-Ok-clause-moved : goal.returns-in_err-new-in-Ok-clause-moved
returns-in_err-new-in-Ok-clause-moved g c = moved (g.F.Folder.disk c.args.folder.now) (g.F.Folder.disk c.open.new.folder) c.open.result c.open.ensures.disk

pub returns-in_err-new-in-Ok-2-clause-moved : goal.returns-in_err-new-in-Ok-2-clause-moved
returns-in_err-new-in-Ok-2-clause-moved g c = moved (g.F.Folder.disk c.args.folder.now) (g.F.Folder.disk c.open.new.folder) c.open.result c.open.ensures.disk

pub returns-in_ok-new-in-Ok-2-clause-moved : goal.returns-in_ok-new-in-Ok-2-clause-moved
returns-in_ok-new-in-Ok-2-clause-moved g c = moved (g.F.Folder.disk c.args.folder.now) (g.F.Folder.disk c.open.new.folder) c.open.result c.open.ensures.disk

pub returns-in-Err-clause-moved : goal.returns-in-Err-clause-moved
returns-in-Err-clause-moved g c = moved (g.F.Folder.disk c.args.folder.now) (g.F.Folder.disk c.open.new.folder) c.open.result c.open.ensures.disk

-- while the documents are opened, each image stands for the world that the files hold
opening_stands : (old new : Option (Disk FileName)) (world : World) (ends : (FileName → File) → Type 0) → IfTold old (λ d. Holds d.now world) → Tells old new (Moves IsDocsFile (λ image. Stands image world.history) ends)
    → Tells old new (LeavesOnly (λ image. StandsFor image world))
opening_stands old new world ends =
    told_given old new (λ d. Holds d.now world) (Moves IsDocsFile (λ image. Stands image world.history) ends) (LeavesOnly (λ image. StandsFor image world))
    (λ a b held moves. weaker (Framed IsDocsFile a.now (λ image. Stands image world.history)) (λ image. StandsFor image world) a b
    (λ image framed. record { documents = framed.inside; indexes = pictures_stand (kinds_of world) a.now world.pictures held.indexes (λ image. Stands image world.history) image framed; within = held.within; owned = held.owned }) moves.moments)

documents_held : (disk : Option (Disk FileName)) (world : World) → IfTold disk (λ d. Holds d.now world) → IfTold disk (λ d. HoldsHistory d.now world.history)
documents_held disk world = told_now disk (λ d. Holds d.now world) (λ d. HoldsHistory d.now world.history) (λ d held. held.documents)

pub returns-in_ok-new-in-Ok-2-clause-documents : goal.returns-in_ok-new-in-Ok-2-clause-documents
returns-in_ok-new-in-Ok-2-clause-documents g c = λ world held.
    told_after (g.F.Folder.disk c.args.folder.now) (g.F.Folder.disk c.open.new.folder) (λ d. Holds d.now world) (λ d. IsAtWorld _ d.now world)
    (Moves IsDocsFile (λ image. Stands image world.history) (λ files. IsAt c.in-Ok.docs files world.history))
    (λ a b here moves. record {
      documents = moves.ended;
      indexes = none_open_are_at (kinds_of world) c.new-in-Ok.result b.now world.pictures c.new-in-Ok.ensures (held_still (kinds_of world) a.now b.now world.pictures (λ n of_view. moves.others n (apart n of_view)) here.indexes);
      within = here.within;
      owned = here.owned;
      opened = none_opened world.history c.new-in-Ok.result c.new-in-Ok.ensures;
    }) held (c.in-Ok.ensures.stands world.history (documents_held (g.F.Folder.disk c.args.folder.now) world held))

pub returns-in_ok-new-in-Ok-2-clause-moments : goal.returns-in_ok-new-in-Ok-2-clause-moments
returns-in_ok-new-in-Ok-2-clause-moments g c = λ world held.
    opening_stands (g.F.Folder.disk c.args.folder.now) (g.F.Folder.disk c.open.new.folder) world (λ files. IfOk c.open.result (λ docs. IsAt docs files world.history)) held
    (c.open.ensures.stands world.history (documents_held (g.F.Folder.disk c.args.folder.now) world held))

pub returns-in_err-new-in-Ok-clause-moments : goal.returns-in_err-new-in-Ok-clause-moments
returns-in_err-new-in-Ok-clause-moments g c = λ world held.
    opening_stands (g.F.Folder.disk c.args.folder.now) (g.F.Folder.disk c.open.new.folder) world (λ files. IfOk c.open.result (λ docs. IsAt docs files world.history)) held
    (c.open.ensures.stands world.history (documents_held (g.F.Folder.disk c.args.folder.now) world held))

pub returns-in_err-new-in-Ok-2-clause-moments : goal.returns-in_err-new-in-Ok-2-clause-moments
returns-in_err-new-in-Ok-2-clause-moments g c = λ world held.
    opening_stands (g.F.Folder.disk c.args.folder.now) (g.F.Folder.disk c.open.new.folder) world (λ files. IfOk c.open.result (λ docs. IsAt docs files world.history)) held
    (c.open.ensures.stands world.history (documents_held (g.F.Folder.disk c.args.folder.now) world held))

pub returns-in-Err-clause-moments : goal.returns-in-Err-clause-moments
returns-in-Err-clause-moments g c = λ world held.
    opening_stands (g.F.Folder.disk c.args.folder.now) (g.F.Folder.disk c.open.new.folder) world (λ files. IfOk c.open.result (λ docs. IsAt docs files world.history)) held
    (c.open.ensures.stands world.history (documents_held (g.F.Folder.disk c.args.folder.now) world held))

pub returns-in-Err-clause-damaged : goal.returns-in-Err-clause-damaged
returns-in-Err-clause-damaged g c =
    told_now (g.F.Folder.disk c.args.folder.now)
    (λ d. (name : FileName) (at : ℕ) → c.open.result ≡ Err (Gate (gate.Damaged name at)) → IsDamagedAt d.now name at)
    _
    (λ d told name at is. told name at (c.in-Err.is ∙ ap Err (damage_is c.in-Err.fault name at (sym c.open_fault.ensures ∙ (let fault : c.open_fault.result ≡ Damaged name at = cc in fault)))))
    c.open.ensures.damaged

pub returns-in-Err-clause-sound : goal.returns-in-Err-clause-sound
returns-in-Err-clause-sound g c = λ world.
    told_now (g.F.Folder.disk c.args.folder.now)
    (λ d. HoldsHistory d.now world.history → (name : FileName) (at : ℕ) → c.open.result ≡ Err (Gate (gate.Damaged name at)) → ⊥)
    _
    (λ d told held name at is. told held.documents name at (c.in-Err.is ∙ ap Err (damage_is c.in-Err.fault name at (sym c.open_fault.ensures ∙ (let fault : c.open_fault.result ≡ Damaged name at = cc in fault)))))
    (c.open.ensures.sound world.history)
