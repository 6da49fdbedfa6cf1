-- Each request is performed as the call that does it promises.
use Rattle.std.proofs.Common.{◌≡◌, ◌∙◌, Ok, arith, inr, refl, sym, ap}
use Rattle.view_ports.specs.Disk.{MovesNone}
use Rattle.view_ports.proofs.DiskRuns.{none_refl}
use Rattle.view_ports.proofs.Told.{told_all, told_refl}
use Rattle.child_pool.specs.Pools.{languages_of}
use Rattle.doc_file.specs.Docs.{info_of}
use Rattle.view_engine.specs.declared.refusal.Refusal.TheVariants.{NotBuiltYet}
use Rattle.view_engine.specs.declared.request.Request.TheVariants.{Cleanup, Get, Info}
use Rattle.view_engine.specs.Answer.{info_text}
use Rattle.view_engine.proofs.Acting.{acted, refused_at_once}
use Rattle.view_engine.proofs.CleanedUp.{cleaned}
use Rattle.view_engine.proofs.Following.{untouched}
use Rattle.view_engine.proofs.Performing.{no_view, unbuilt, unbuilt_by}
use Rattle.view_engine.proofs.Reading.{read_done}
use Rattle.view_engine.proofs.ServerFaults.{unlike_info}
use Rattle.view_engine.proofs.Stored.{spent_here}
use Rattle.view_engine.proofs.Whole.{documents_open}
use Rattle.view_engine.proofs.engine.Engine.perform.Goals as goal

pub returns-in-Put-clause-does : goal.returns-in-Put-clause-does
returns-in-Put-clause-does g c = acted c.in-Put.is (λ is. cc) (λ view. view) c.requires.open c.put.ensures.does

pub returns-in-Delete-clause-does : goal.returns-in-Delete-clause-does
returns-in-Delete-clause-does g c = acted c.in-Delete.is (λ is. cc) (λ view. view) c.requires.open c.delete.ensures.does

pub returns-in-Get-clause-does : goal.returns-in-Get-clause-does
returns-in-Get-clause-does g c = acted (c.in-Get.is ∙ ap Get (sym c.as_str.ensures)) (λ is. cc) (λ view. view) c.requires.open c.get.ensures.does

pub returns-in-Ok-clause-does : goal.returns-in-Ok-clause-does
returns-in-Ok-clause-does g c =
    let disk = g.F.Folder.disk c.args.folder.now in
    acted c.in-Info.is (λ is. cc) (λ view. view) c.requires.open (read_done (documents_open _ _ c.requires.open) (told_refl disk MovesNone none_refl) (omega arith) tt (info_text (info_of c.args.self.now.docs)) c.in-Ok.ensures.line (λ other. unlike_info (info_of c.args.self.now.docs)) tt refl tt (untouched c.args.self.now.docs c.args.folder.now (Ok Info)) c.in-Ok.ensures.ok
    (λ world. told_all disk _ (λ d at. (c.info.ensures.done d.now world.history at, refl))))

pub returns-in-Info-clause-does : goal.returns-in-Info-clause-does
returns-in-Info-clause-does g c = acted c.in-Info.is (λ is. cc) (λ view. view) c.requires.open (spent_here (documents_open _ _ c.requires.open) c.in-Err.ensures.silent refl)

pub returns-in-Cleanup-clause-does : goal.returns-in-Cleanup-clause-does
returns-in-Cleanup-clause-does g c = cleaned c.in-Cleanup.is c.requires.open c.cleanup.ensures.does

pub returns-clause-does : goal.returns-clause-does
returns-clause-does g c =
    let other = c.in_default in
    refused_at_once (λ is. other.not-Cleanup (let one : c.args.request ≡ Cleanup = cc in one)) (no_view c.args.request other.not-View) tt (λ is. cc) (unbuilt_by c.args.self.now.docs c.args.request other.not-Put other.not-Delete other.not-Get other.not-Info other.not-Cleanup other.not-View) (λ before. inr (
      NotBuiltYet,
      unbuilt g.C.Servers.functions g.C.Servers.honest (languages_of c.args.self.now.pool) before.world c.args.request other.not-Put other.not-Delete other.not-Get other.not-Info other.not-Cleanup other.not-View,
      (refl, refl),
    )) c.requires.open
