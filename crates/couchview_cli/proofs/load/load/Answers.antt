-- A load is what it showed.
use Rattle.std.proofs.Common.{◌≡◌, ◌∙◌, ℕ, List, [], Err, Result, inl, inr, refl, sym, ap, subst}
use Rattle.view_ports.specs.Disk.{LeavesOnly}
use Rattle.view_ports.specs.Faults.{CountsFor}
use Rattle.view_ports.specs.declared.file_name.FileName.{FileName}
use Rattle.view_ports.proofs.Told.{told_now, told_pair}
use Rattle.view_engine.specs.declared.engine.Engine.{Engine}
use Rattle.view_engine.specs.declared.halt.StepFault.{StepFault}
use Rattle.view_engine.specs.declared.halt.StepFault.TheVariants.{Damaged, DiskFault, NoMemory}
use Rattle.view_engine.specs.Calls.{scene}
use Rattle.view_engine.specs.Worlds.{languages as languages_of, HasDamage, Holds, IsAtWorld, StandsFor}
use Rattle.view_engine.proofs.Known.{still_known}
use Rattle.view_engine.proofs.Worlds.{starts_at, world_held}
use Rattle.couchview_cli.specs.Loading.{beside, IsPrinted}
use Rattle.couchview_cli.specs.Session.{IsAtOrigin, Origin}
use Rattle.couchview_cli.proofs.Coming.{come_opened}
use Rattle.couchview_cli.proofs.Loaded.{loads_all, loads_not}
use Rattle.couchview_cli.proofs.LoadOpened.{has_writes, no_writes, some_writes}
use Rattle.couchview_cli.proofs.LoadReplies.{answers_all, answers_not}
use Rattle.couchview_cli.proofs.Served.{origin_of, unopened}
use Rattle.couchview_cli.proofs.Statuses.{closed_others, other_than, spared_by}
use Rattle.couchview_cli.proofs.load.load.Goals as goal

pub returns-in-Err-clause-loads : goal.returns-in-Err-clause-loads
returns-in-Err-clause-loads g c = λ left opening begins.
    let disk = g.F.Folder.disk c.args.folder.now in
    let before = beside left g.K.Sink g.F.Folder g.C.Servers c.args.sink.now c.args.folder.now c.args.servers.now in
    inr (inr (unopened g.C.Servers.functions g.C.Servers.honest [] opening before (g.K.Sink.held c.close.new.sink) (g.F.Folder.disk c.open.new.folder) (g.F.Folder.faults c.open.new.folder)
    (g.C.Servers.may_follow c.args.servers.now) c.requires.follows (c.in-Err.ensures.moments opening begins.holds) c.in-Err.fault c.close.result c.close.ensures.closes (subst (λ (opened : Result Engine StepFault). CountsFor DiskFault (g.F.Folder.faults c.args.folder.now) (g.F.Folder.faults c.open.new.folder) opened) c.in-Err.is c.open.ensures.cause).failed
    (told_pair disk (λ d. Holds d.now opening) (λ d. Holds d.now opening → (name : FileName) (at : ℕ) → c.open.result ≡ Err (Damaged name at) → ⊥) (λ d. (name : FileName) (at : ℕ) → c.in-Err.fault ≡ Damaged name at → ⊥)
    (λ d held never name at is. never held name at (c.in-Err.is ∙ ap Err is)) begins.holds (c.open.ensures.sound opening))
    (λ name size is. c.open.ensures.room name size (c.in-Err.is ∙ ap Err is))))

pub returns-in-Err-clause-answers : goal.returns-in-Err-clause-answers
returns-in-Err-clause-answers g c = λ left.
    inr (inr (inr (record {
      fault = c.in-Err.fault;
      unread = refl;
      closes = c.close.ensures.closes;
      moved = c.open.ensures.moved;
      spared = λ other. c.open.ensures.cause.still (λ is. other (let same : c.in-Err.fault ≡ DiskFault = cc in same));
      damaged =
          told_now (g.F.Folder.disk c.args.folder.now) (λ d. (name : FileName) (at : ℕ) → c.open.result ≡ Err (Damaged name at) → HasDamage d.now name at)
          (λ d. (name : FileName) (at : ℕ) → c.in-Err.fault ≡ Damaged name at → HasDamage d.now name at) (λ d told name at is. told name at (c.in-Err.is ∙ ap Err is)) c.open.ensures.damaged;
      room = λ name size is. c.open.ensures.room name size (c.in-Err.is ∙ ap Err is);
    })))

pub returns-then-update_seq-ne0-clause-loads : goal.returns-then-update_seq-ne0-clause-loads
returns-then-update_seq-ne0-clause-loads g c = λ left opening begins.
    let f = g.F.Folder in
    let s = g.C.Servers in
    let start = scene c.in-Ok.engine c.open.new.folder c.args.servers.now in
    let old = f.disk c.args.folder.now in
    let new = f.disk c.open.new.folder in
    let made = c.in-Ok.ensures in
    let ports = beside left g.K.Sink g.F.Folder g.C.Servers c.args.sink.now c.args.folder.now c.args.servers.now in
    let here = made.documents opening begins.holds in
    has_writes s.functions s.honest c.args.docs c.args.number opening ports new (f.faults c.open.new.folder) (s.may_follow c.args.servers.now) c.requires.follows
    (some_writes c.in-Ok.engine c.update_seq.result c.update_seq.ensures.counts old new opening here (made.moments opening begins.holds) c.if-update_seq-ne0.true) (made.moments opening begins.holds)
    (told_now new (λ d. IsAtWorld c.in-Ok.engine d.now opening) (λ d. Holds d.now opening) (λ d at. world_held c.in-Ok.engine d.now opening at) here)

pub returns-then-update_seq-ne0-clause-answers : goal.returns-then-update_seq-ne0-clause-answers
returns-then-update_seq-ne0-clause-answers g c = λ left. inr (inr (inl (record { moved = c.open.ensures.moved; seq = c.update_seq.result; opens = (c.in-Ok.engine, c.in-Ok.ensures.open, sym c.update_seq.ensures.kept); spared = c.open.ensures.cause.still (λ is. let no : ⊥ = cc in no); ends = inl (c.if-update_seq-ne0.true, refl, refl) })))

pub returns-in-Ok-shown-clause-loads : goal.returns-in-Ok-shown-clause-loads
returns-in-Ok-shown-clause-loads g c = λ left opening begins.
    let f = g.F.Folder in
    let s = g.C.Servers in
    let start = scene c.in-Ok.engine c.open.new.folder c.args.servers.now in
    let old = f.disk c.args.folder.now in
    let new = f.disk c.open.new.folder in
    let made = c.in-Ok.ensures in
    let ports = beside left g.K.Sink g.F.Folder g.C.Servers c.args.sink.now c.args.folder.now c.args.servers.now in
    let last = scene c.show-shown.new.engine c.show-shown.new.folder c.show-shown.new.servers in
    let stopped = scene c.finish.new.self c.show-shown.new.folder c.finish.new.servers in
    let begun : Origin = origin_of [] opening ports in
    let at : IsAtOrigin f s begun start = come_opened f s begun start made.languages
    (starts_at s.functions s.honest new (s.may_follow c.args.servers.now) (s.faults c.args.servers.now) c.in-Ok.engine opening made.width (made.documents opening begins.holds) made.childless c.requires.follows
    (still_known s.functions s.honest old new (LeavesOnly (λ image. StandsFor image opening)) [] (languages_of c.in-Ok.engine) opening (made.moments opening begins.holds) made.languages begins.knows))
    (made.moments opening begins.holds) in
    let none = no_writes c.in-Ok.engine c.update_seq.result c.update_seq.ensures.counts old new opening (made.documents opening begins.holds) (made.moments opening begins.holds) c.if-update_seq-ne0.false in
    let wide = c.finish.ensures.width ∙ c.show-shown.ensures.wide ∙ made.width in
    loads_all f s c.args.docs c.args.number opening ports left (g.K.Sink.held c.print.new.sink) start last stopped c.finish.ensures.stopped wide c.finish.ensures.faults c.requires.low c.requires.few none at c.in-Ok-shown.text.items c.print.result c.in-Ok-shown.ensures.shows
    (subst (λ (t : List ℕ). IsPrinted (g.K.Sink.held c.args.sink.now) (g.K.Sink.held c.print.new.sink) t c.print.result) c.deref.ensures.value c.print.ensures.printed)

pub returns-in-Ok-shown-clause-answers : goal.returns-in-Ok-shown-clause-answers
returns-in-Ok-shown-clause-answers g c = λ left.
    let f = g.F.Folder in
    let s = g.C.Servers in
    let start = scene c.in-Ok.engine c.open.new.folder c.args.servers.now in
    let old = f.disk c.args.folder.now in
    let new = f.disk c.open.new.folder in
    let made = c.in-Ok.ensures in
    let ports = beside left g.K.Sink g.F.Folder g.C.Servers c.args.sink.now c.args.folder.now c.args.servers.now in
    let last = scene c.show-shown.new.engine c.show-shown.new.folder c.show-shown.new.servers in
    let stopped = scene c.finish.new.self c.show-shown.new.folder c.finish.new.servers in
    answers_all f s c.args.docs c.args.number ports (g.K.Sink.held c.print.new.sink) start last stopped c.finish.ensures.faults c.open.ensures.moved c.in-Ok.ensures.open (sym c.update_seq.ensures.kept ∙ c.if-update_seq-ne0.false) c.requires.low c.requires.few c.in-Ok-shown.text.items c.print.result c.in-Ok-shown.ensures.shows
    (subst (λ (t : List ℕ). IsPrinted (g.K.Sink.held c.args.sink.now) (g.K.Sink.held c.print.new.sink) t c.print.result) c.deref.ensures.value c.print.ensures.printed)

pub returns-clause-loads : goal.returns-clause-loads
returns-clause-loads g c = λ left opening begins.
    let f = g.F.Folder in
    let s = g.C.Servers in
    let start = scene c.in-Ok.engine c.open.new.folder c.args.servers.now in
    let old = f.disk c.args.folder.now in
    let new = f.disk c.open.new.folder in
    let made = c.in-Ok.ensures in
    let ports = beside left g.K.Sink g.F.Folder g.C.Servers c.args.sink.now c.args.folder.now c.args.servers.now in
    let last = scene c.show-shown.new.engine c.show-shown.new.folder c.show-shown.new.servers in
    let stopped = scene c.finish.new.self c.show-shown.new.folder c.finish.new.servers in
    let begun : Origin = origin_of [] opening ports in
    let at : IsAtOrigin f s begun start = come_opened f s begun start made.languages
    (starts_at s.functions s.honest new (s.may_follow c.args.servers.now) (s.faults c.args.servers.now) c.in-Ok.engine opening made.width (made.documents opening begins.holds) made.childless c.requires.follows
    (still_known s.functions s.honest old new (LeavesOnly (λ image. StandsFor image opening)) [] (languages_of c.in-Ok.engine) opening (made.moments opening begins.holds) made.languages begins.knows))
    (made.moments opening begins.holds) in
    let none = no_writes c.in-Ok.engine c.update_seq.result c.update_seq.ensures.counts old new opening (made.documents opening begins.holds) (made.moments opening begins.holds) c.if-update_seq-ne0.false in
    let wide = c.finish.ensures.width ∙ c.show-shown.ensures.wide ∙ made.width in
    loads_not f s c.args.docs c.args.number opening ports left (g.K.Sink.held c.close-in-Err-shown.new.sink) start last stopped c.finish.ensures.stopped wide c.finish.ensures.faults c.requires.low c.requires.few none at (made.moments opening begins.holds) refl c.open.ensures.cause.later
    c.in-Err-shown.fault c.close-in-Err-shown.result c.in-Err-shown.ensures.shows c.close-in-Err-shown.ensures.closes

pub returns-clause-answers : goal.returns-clause-answers
returns-clause-answers g c = λ left.
    let f = g.F.Folder in
    let s = g.C.Servers in
    let start = scene c.in-Ok.engine c.open.new.folder c.args.servers.now in
    let old = f.disk c.args.folder.now in
    let new = f.disk c.open.new.folder in
    let made = c.in-Ok.ensures in
    let ports = beside left g.K.Sink g.F.Folder g.C.Servers c.args.sink.now c.args.folder.now c.args.servers.now in
    let last = scene c.show-shown.new.engine c.show-shown.new.folder c.show-shown.new.servers in
    let stopped = scene c.finish.new.self c.show-shown.new.folder c.finish.new.servers in
    answers_not f s c.args.docs c.args.number ports (g.K.Sink.held c.close-in-Err-shown.new.sink) start last stopped c.finish.ensures.faults c.open.ensures.moved c.in-Ok.ensures.open (sym c.update_seq.ensures.kept ∙ c.if-update_seq-ne0.false) (c.open.ensures.cause.still (λ is. let no : ⊥ = cc in no)) c.in-Err-shown.fault c.close-in-Err-shown.result c.in-Err-shown.ensures.shows c.close-in-Err-shown.ensures.closes

pub returns-clause-others : goal.returns-clause-others
returns-clause-others g c = let others = closed_others _ _ [] c.in-Err-shown.fault c.close-in-Err-shown.result c.close-in-Err-shown.ensures.closes in (others.0, others.1, others.2)

-- ---- no fault of the folder was counted, unless the run ended by one, or memory ran out

pub returns-in-Err-clause-disk_spared : goal.returns-in-Err-clause-disk_spared
returns-in-Err-clause-disk_spared g c = λ three four six.
    let other = spared_by _ _ c.in-Err.fault c.close.result c.close.ensures.closes three four in
    c.open.ensures.cause.still (λ is. other (let same : c.in-Err.fault ≡ DiskFault = cc in same))

pub returns-then-update_seq-ne0-clause-disk_spared : goal.returns-then-update_seq-ne0-clause-disk_spared
returns-then-update_seq-ne0-clause-disk_spared g c = λ three four six. c.open.ensures.cause.still (λ is. let no : ⊥ = cc in no)

pub returns-in-Ok-shown-clause-disk_spared : goal.returns-in-Ok-shown-clause-disk_spared
returns-in-Ok-shown-clause-disk_spared g c = λ three four six.
    c.show-shown.ensures.disk_spared (λ is. let no : ⊥ = cc in no) (λ is. let no : ⊥ = cc in no) ∙ c.open.ensures.cause.still (λ is. let no : ⊥ = cc in no)

pub returns-clause-disk_spared : goal.returns-clause-disk_spared
returns-clause-disk_spared g c = λ three four six.
    let other = spared_by _ _ c.in-Err-shown.fault c.close-in-Err-shown.result c.close-in-Err-shown.ensures.closes three four in
    let named = other_than NoMemory _ _ c.in-Err-shown.fault c.close-in-Err-shown.result c.close-in-Err-shown.ensures.closes six four in
    c.show-shown.ensures.disk_spared (λ is. other (let same : c.in-Err-shown.fault ≡ DiskFault = cc in same)) (λ is. named (let same : c.in-Err-shown.fault ≡ NoMemory = cc in same))
    ∙ c.open.ensures.cause.still (λ is. let no : ⊥ = cc in no)
