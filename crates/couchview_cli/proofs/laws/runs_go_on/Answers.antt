-- The files that a finished run left hold its world, and those that a crash left one for which they stand.
use Rattle.std.specs.Prelude.{◌≡◌, Option}
use Rattle.std.proofs.Common.{refl, sym, subst}
use Rattle.view_ports.specs.Disk.{Disk, IfTold, LeavesOnly}
use Rattle.view_ports.specs.File.{File}
use Rattle.view_ports.specs.declared.file_name.FileName.{FileName}
use Rattle.view_ports.proofs.Told.{told_now}
use Rattle.view_engine.specs.Worlds.{GoesOnFrom, Holds}
use Rattle.view_engine.proofs.Forgetting.{images_hold}
use Rattle.view_engine.proofs.Known.{known_told}
use Rattle.couchview_cli.specs.Serving.{Begins, StandsSince}
use Rattle.couchview_cli.proofs.laws.runs_go_on.Goals as goal

pub returns-clause-finished : goal.returns-clause-finished
returns-clause-finished g c = λ languages languages' opening before middle again after status status' first same knows each.
    let world = (first.moment).world in
    let R = LeavesOnly (StandsSince g.C.Servers.functions g.C.Servers.honest languages opening world) in
    let known = told_now before.disk (λ d. GoesOnFrom opening world) (λ d. world.functions ≡ opening.functions) (λ d goes. goes.known) first.goes in
    each world (subst (λ (disk : Option (Disk FileName)). Begins g.D.Servers.functions g.D.Servers.honest languages' disk world) (sym same)
    (record { holds = first.holds; knows = known_told g.D.Servers.functions g.D.Servers.honest before.disk middle.disk R languages' languages' opening world first.moments refl known knows }))

pub returns-clause-stopped : goal.returns-clause-stopped
returns-clause-stopped g c = λ languages image world again after status told is now stands knows each.
    each world (subst (λ (disk : Option (Disk FileName)). Begins g.D.Servers.functions g.D.Servers.honest languages disk world) (sym is)
    (record { holds = subst (λ (files : FileName → File). Holds files world) (sym now) (images_hold image world stands); knows = knows }))
