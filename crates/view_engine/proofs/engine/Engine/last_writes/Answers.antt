-- The last writes of a world are listed, or the documents' fault is told.
use Rattle.std.proofs.Common.{◌≡◌, ◌<◌, length, map, take, sym, subst, arith}
use Rattle.view_ports.proofs.Told.{told_now}
use Rattle.doc_file.specs.Changes.{numbered}
use Rattle.doc_file.specs.Docs.{IsAt, IsOpen}
use Rattle.design_docs.specs.History.{changes_after}
use Rattle.view_engine.specs.Disks.{IsReadReason}
use Rattle.view_engine.specs.Worlds.{IsAtWorld, IsOpen as IsEngineOpen}
use Rattle.view_engine.proofs.Listed.{why_unlisted, whole_list}
use Rattle.view_engine.proofs.engine.Engine.last_writes.Goals as goal

pub returns-then-len-clause-listed : goal.returns-then-len-clause-listed
returns-then-len-clause-listed g c = λ world.
    let docs = c.args.self.now.docs in
    let short : length c.in-Ok.changes < 4294967295 = omega (arith, c.if-len.true, c.len.ensures) in
    told_now (g.F.Folder.disk c.args.folder.now) (λ d. IsAt docs d.now world.history → map numbered c.in-Ok.changes ≡ take 4294967295 (changes_after 0 world.history))
    (λ d. IsAtWorld c.args.self.now d.now world → map numbered c.in-Ok.changes ≡ changes_after 0 world.history)
    (λ d listed at. whole_list numbered c.in-Ok.changes 4294967295 (changes_after 0 world.history) (listed at.documents) short) (c.in-Ok.ensures.written world.history)

pub returns-in-Err-clause-why : goal.returns-in-Err-clause-why
returns-in-Err-clause-why g c =
    let docs = c.args.self.now.docs in
    let disk = g.F.Folder.disk c.args.folder.now in
    subst (IsReadReason g.F.Folder docs c.args.folder.now c.changed_since.new.folder) (sym c.open_fault.ensures)
    (why_unlisted _ g.F.Folder docs c.args.folder.now c.changed_since.new.folder (told_now disk (λ d. IsEngineOpen c.args.self.now d.now) (λ d. IsOpen docs d.now) (λ d here. here.documents) c.requires.open)
    c.in-Err.fault c.in-Err.ensures.cause c.in-Err.ensures.damaged c.in-Err.ensures.sound c.in-Err.ensures.faults)
