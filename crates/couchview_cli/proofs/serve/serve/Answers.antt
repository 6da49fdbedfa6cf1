-- Serving is what its session came to.
use Rattle.std.specs.Prelude.{map, string_bytes}
use Rattle.std.proofs.Common.{◌≡◌, ◌∙◌, ℕ, [], length, Err, Result, inl, inr, refl, sym, ap, subst}
use Rattle.view_ports.specs.Disk.{LeavesOnly}
use Rattle.view_ports.specs.Faults.{CountsFor}
use Rattle.view_ports.specs.declared.file_name.FileName.{FileName}
use Rattle.view_ports.proofs.Counting.{Rose-earlier}
use Rattle.view_ports.proofs.Told.{told_now, told_pair}
use Rattle.child_pool.specs.Languages.{languages_in}
use Rattle.view_engine.specs.declared.halt.StepFault.{StepFault}
use Rattle.view_engine.specs.declared.halt.StepFault.TheVariants.{Damaged, DiskFault}
use Rattle.view_engine.specs.Calls.{scene}
use Rattle.view_engine.specs.Worlds.{update_seq, languages as languages_of, HasDamage, Holds, StandsFor}
use Rattle.view_engine.proofs.Known.{still_known}
use Rattle.view_engine.proofs.Worlds.{starts_at}
use Rattle.view_engine.specs.declared.engine.Engine.{Engine}
use Rattle.line_loop.specs.declared.loop_end.LoopEnd.{LoopEnd}
use Rattle.line_loop.specs.declared.loop_end.LoopEnd.TheVariants.{Stopped}
use Rattle.couchview_cli.specs.Ends.{Comes}
use Rattle.couchview_cli.specs.Reading.{HasReplied}
use Rattle.couchview_cli.specs.Serving.{outside, AreLeft, Outside, Serves}
use Rattle.couchview_cli.specs.Session.{IsAtOrigin, Origin}
use Rattle.couchview_cli.proofs.Clashing.{read_within}
use Rattle.couchview_cli.proofs.Coming.{come_opened}
use Rattle.couchview_cli.proofs.Replying.{is_cut_off, reads_on}
use Rattle.couchview_cli.proofs.Served.{clashed_then, cut_short, finishes, input_ended, origin_of, sink_failed, unopened}
use Rattle.couchview_cli.proofs.Statuses.{closed_others, end_no_load, end_no_usage, spared_by}
use Rattle.couchview_cli.proofs.serve.serve.Goals as goal

pub returns-in-Err-clause-serves : goal.returns-in-Err-clause-serves
returns-in-Err-clause-serves g c = λ opening begins.
    let disk = g.F.Folder.disk c.args.folder.now in
    let before : Outside = record { left = g.S.Source.left c.args.source.now; held = g.K.Sink.held c.args.sink.now; disk = disk; disk_faults = g.F.Folder.faults c.args.folder.now; faults = g.C.Servers.faults c.args.servers.now } in
    inr (inr (inl (unopened g.C.Servers.functions g.C.Servers.honest (languages_in (map string_bytes c.args.words.now)) opening before (g.K.Sink.held c.close.new.sink) (g.F.Folder.disk c.open.new.folder) (g.F.Folder.faults c.open.new.folder)
    (g.C.Servers.may_follow c.args.servers.now) c.requires (c.in-Err.ensures.moments opening begins.holds) c.in-Err.fault c.close.result c.close.ensures.closes (subst (λ (opened : Result Engine StepFault). CountsFor DiskFault (g.F.Folder.faults c.args.folder.now) (g.F.Folder.faults c.open.new.folder) opened) c.in-Err.is c.open.ensures.cause).failed
    (told_pair disk (λ d. Holds d.now opening) (λ d. Holds d.now opening → (name : FileName) (at : ℕ) → c.open.result ≡ Err (Damaged name at) → ⊥) (λ d. (name : FileName) (at : ℕ) → c.in-Err.fault ≡ Damaged name at → ⊥)
    (λ d held never name at is. never held name at (c.in-Err.is ∙ ap Err is)) begins.holds (c.open.ensures.sound opening))
    (λ name size is. c.open.ensures.room name size (c.in-Err.is ∙ ap Err is)))))

pub returns-in-Run-clause-no_usage : goal.returns-in-Run-clause-no_usage
returns-in-Run-clause-no_usage g c = λ two. end_no_usage c.in-Run.end (sym c.status.ensures ∙ two)

pub returns-in-Err-clause-no_load : goal.returns-in-Err-clause-no_load
returns-in-Err-clause-no_load g c = (closed_others _ _ [] _ _ c.close.ensures.closes).3

pub returns-in-Run-clause-no_load : goal.returns-in-Run-clause-no_load
returns-in-Run-clause-no_load g c = λ ten. end_no_load c.in-Run.end (sym c.status.ensures ∙ ten)

pub returns-clause-no_load : goal.returns-clause-no_load
returns-clause-no_load g c = (closed_others _ _ [] _ _ c.close-in-Stopped.ensures.closes).3

pub returns-in-Run-clause-serves : goal.returns-in-Run-clause-serves
returns-in-Run-clause-serves g c = λ opening begins.
    let f = g.F.Folder in
    let s = g.C.Servers in
    let languages = languages_in (map string_bytes c.args.words.now) in
    let before : Outside = record { left = g.S.Source.left c.args.source.now; held = g.K.Sink.held c.args.sink.now; disk = f.disk c.args.folder.now; disk_faults = f.faults c.args.folder.now; faults = s.faults c.args.servers.now } in
    let begun : Origin = origin_of languages opening before in
    let made = c.in-Ok.ensures in
    let ran = c.run-end.new in
    let left = g.S.Source.left ran.source in
    let held = g.K.Sink.held ran.sink in
    let last = scene ran.engine ran.folder ran.servers in
    let stopped = scene c.finish.new.self ran.folder c.finish.new.servers in
    let start : IsAtOrigin f s begun (scene c.in-Ok.engine c.open.new.folder c.args.servers.now) =
    come_opened f s begun (scene c.in-Ok.engine c.open.new.folder c.args.servers.now) made.languages
    (starts_at s.functions s.honest (f.disk c.open.new.folder) (s.may_follow c.args.servers.now) (s.faults c.args.servers.now) c.in-Ok.engine opening made.width (made.documents opening begins.holds) made.childless c.requires
    (still_known s.functions s.honest (f.disk c.args.folder.now) (f.disk c.open.new.folder) (LeavesOnly (λ image. StandsFor image opening)) languages (languages_of c.in-Ok.engine) opening (made.moments opening begins.holds) made.languages begins.knows))
    (made.moments opening begins.holds) in
    let come : Comes f s begun last before.left left before.held held c.run-end.result = c.run-end.ensures.comes begun start in
    let end = subst (λ (e : LoopEnd StepFault). Comes f s begun last before.left left before.held held e) c.in-Run.is come in
    let after : Outside = record { left = left; held = held; disk = f.disk ran.folder; disk_faults = f.faults ran.folder; faults = s.faults c.finish.new.servers } in
    subst (λ (status : ℕ). Serves s.functions s.honest languages opening before after (AreLeft (s.may_follow c.finish.new.servers)) status) (sym c.status.ensures)
    (elim end.ends [
      | inl ended ↦ inl (finishes languages opening f s before left held last stopped c.finish.ensures.stopped (c.finish.ensures.width ∙ c.run-end.ensures.wide ∙ made.width) c.finish.ensures.faults refl end.bytes c.in-Run.end end.reads end.counts ended)
      | inr met ↦ inr (inr (inr (record {
        bytes = end.bytes;
        gained = met.gained;
        reads = end.reads;
        counts = read_within c.in-Run.end (length end.bytes) end.counts;
        writes = met.wrote;
        meets = met.meets;
        replies = elim met.replies [
          | inl begins ↦ inl begins
          | inr failed ↦ inr (sink_failed c.in-Run.end failed.0, failed.1)
        ];
        whole = λ other. met.whole (λ ended. other (input_ended c.in-Run.end ended));
        since = met.since;
      })))
    ])

pub returns-clause-serves : goal.returns-clause-serves
returns-clause-serves g c = λ opening begins.
    let f = g.F.Folder in
    let s = g.C.Servers in
    let languages = languages_in (map string_bytes c.args.words.now) in
    let before : Outside = record { left = g.S.Source.left c.args.source.now; held = g.K.Sink.held c.args.sink.now; disk = f.disk c.args.folder.now; disk_faults = f.faults c.args.folder.now; faults = s.faults c.args.servers.now } in
    let begun : Origin = origin_of languages opening before in
    let made = c.in-Ok.ensures in
    let ran = c.run-end.new in
    let left = g.S.Source.left ran.source in
    let held = g.K.Sink.held ran.sink in
    let last = scene ran.engine ran.folder ran.servers in
    let stopped = scene c.finish.new.self ran.folder c.finish.new.servers in
    let start : IsAtOrigin f s begun (scene c.in-Ok.engine c.open.new.folder c.args.servers.now) =
    come_opened f s begun (scene c.in-Ok.engine c.open.new.folder c.args.servers.now) made.languages
    (starts_at s.functions s.honest (f.disk c.open.new.folder) (s.may_follow c.args.servers.now) (s.faults c.args.servers.now) c.in-Ok.engine opening made.width (made.documents opening begins.holds) made.childless c.requires
    (still_known s.functions s.honest (f.disk c.args.folder.now) (f.disk c.open.new.folder) (LeavesOnly (λ image. StandsFor image opening)) languages (languages_of c.in-Ok.engine) opening (made.moments opening begins.holds) made.languages begins.knows))
    (made.moments opening begins.holds) in
    let come : Comes f s begun last before.left left before.held held c.run-end.result = c.run-end.ensures.comes begun start in
    let fault = c.in-Stopped.fault in
    let end = subst (λ (e : LoopEnd StepFault). Comes f s begun last before.left left before.held held e) c.in-Stopped.is come in
    elim end.ends [
      | inl off ↦ inr (inl (cut_short languages opening f s before left (g.K.Sink.held c.close-in-Stopped.new.sink) last stopped c.finish.ensures.stopped (c.finish.ensures.width ∙ c.run-end.ensures.wide ∙ made.width) c.finish.ensures.faults refl
          held end.bytes fault c.close-in-Stopped.result end.reads end.counts
          (λ is. Rose-earlier (f.faults c.args.folder.now) (f.faults c.open.new.folder) (f.faults ran.folder) c.open.ensures.cause.later (c.run-end.ensures.disk_failed (c.in-Stopped.is ∙ ap Stopped is)))
          off c.close-in-Stopped.ensures.closes))
      | inr met ↦ inr (inr (inr (clashed_then f s languages opening before _ held end.bytes last fault c.close-in-Stopped.result end.reads end.counts met c.close-in-Stopped.ensures.closes refl)))
    ]

-- ---- lines, whatever the folder holds

pub returns-in-Err-clause-lines : goal.returns-in-Err-clause-lines
returns-in-Err-clause-lines g c =
    inr (inr (record {
      fault = c.in-Err.fault;
      unread = refl;
      closes = c.close.ensures.closes;
      moved = c.open.ensures.moved;
      spared = λ other. c.open.ensures.cause.still (λ is. other (let same : c.in-Err.fault ≡ DiskFault = cc in same));
      damaged =
          told_now (g.F.Folder.disk c.args.folder.now) (λ d. (name : FileName) (at : ℕ) → c.open.result ≡ Err (Damaged name at) → HasDamage d.now name at)
          (λ d. (name : FileName) (at : ℕ) → c.in-Err.fault ≡ Damaged name at → HasDamage d.now name at) (λ d told name at is. told name at (c.in-Err.is ∙ ap Err is)) c.open.ensures.damaged;
      room = λ name size is. c.open.ensures.room name size (c.in-Err.is ∙ ap Err is);
    }))

pub returns-in-Run-clause-lines : goal.returns-in-Run-clause-lines
returns-in-Run-clause-lines g c =
    let ran = c.run-end.new in
    let ports = outside g.S.Source g.K.Sink g.F.Folder g.C.Servers in
    reads_on (ports c.args.source.now c.args.sink.now c.args.folder.now c.args.servers.now) (ports ran.source ran.sink ran.folder c.finish.new.servers) c.status.result (g.F.Folder.disk c.open.new.folder) c.open.ensures.moved (update_seq c.in-Ok.engine) (c.in-Ok.engine, c.in-Ok.ensures.open, refl) c.in-Run.end c.status.ensures
    (subst (λ (e : LoopEnd StepFault). HasReplied (g.S.Source.left c.args.source.now) (g.S.Source.left ran.source) (g.K.Sink.held c.args.sink.now) (g.K.Sink.held ran.sink) (g.F.Folder.disk c.open.new.folder) (g.F.Folder.disk ran.folder) (update_seq c.in-Ok.engine) (g.C.Servers.faults c.args.servers.now) (g.C.Servers.faults c.finish.new.servers) e) c.in-Run.is (rw c.finish.ensures.faults c.run-end.ensures.replies))

pub returns-clause-lines : goal.returns-clause-lines
returns-clause-lines g c =
    let ran = c.run-end.new in
    let ports = outside g.S.Source g.K.Sink g.F.Folder g.C.Servers in
    is_cut_off (ports c.args.source.now c.args.sink.now c.args.folder.now c.args.servers.now) (ports ran.source c.close-in-Stopped.new.sink ran.folder c.finish.new.servers) c.close-in-Stopped.result (g.F.Folder.disk c.open.new.folder) c.open.ensures.moved (update_seq c.in-Ok.engine) (c.in-Ok.engine, c.in-Ok.ensures.open, refl) (g.K.Sink.held ran.sink) c.in-Stopped.fault
    (subst (λ (e : LoopEnd StepFault). HasReplied (g.S.Source.left c.args.source.now) (g.S.Source.left ran.source) (g.K.Sink.held c.args.sink.now) (g.K.Sink.held ran.sink) (g.F.Folder.disk c.open.new.folder) (g.F.Folder.disk ran.folder) (update_seq c.in-Ok.engine) (g.C.Servers.faults c.args.servers.now) (g.C.Servers.faults c.finish.new.servers) e) c.in-Stopped.is (rw c.finish.ensures.faults c.run-end.ensures.replies))
    c.close-in-Stopped.ensures.closes

-- ---- no fault of the folder was counted, unless the run ended by one

pub returns-in-Err-clause-disk_spared : goal.returns-in-Err-clause-disk_spared
returns-in-Err-clause-disk_spared g c = λ three four.
    let other = spared_by _ _ c.in-Err.fault c.close.result c.close.ensures.closes three four in
    c.open.ensures.cause.still (λ is. other (let same : c.in-Err.fault ≡ DiskFault = cc in same))

pub returns-in-Run-clause-disk_spared : goal.returns-in-Run-clause-disk_spared
returns-in-Run-clause-disk_spared g c = λ three four.
    c.run-end.ensures.disk_spared (λ is. let no : ⊥ = cc in no) ∙ c.open.ensures.cause.still (λ is. let no : ⊥ = cc in no)

pub returns-clause-disk_spared : goal.returns-clause-disk_spared
returns-clause-disk_spared g c = λ three four.
    let other = spared_by _ _ c.in-Stopped.fault c.close-in-Stopped.result c.close-in-Stopped.ensures.closes three four in
    c.run-end.ensures.disk_spared (λ is. other (let same : c.in-Stopped.fault ≡ DiskFault = cc in same)) ∙ c.open.ensures.cause.still (λ is. let no : ⊥ = cc in no)
