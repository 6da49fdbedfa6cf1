use Rattle.std.proofs.Common.{◌⊎◌, inl, Some, OnOk, arith}
use Rattle.view_ports.proofs.DiskRuns.{on_ok}
use Rattle.view_ports.proofs.ToldFiles.{told_file_none, told_file_weaker, told_file_then}
use Rattle.gate_file.specs.Shown.{Shows}
use Rattle.gate_file.specs.GateFile.{Keeps, IsCommitted, committed, next_root}
use Rattle.gate_file.specs.Commit.{IsReady, IsStaged, Continues}
use Rattle.gate_file.proofs.FileFacts.{continues_then, shows_before}
use Rattle.gate_file.proofs.Stepped.{ended_err}
use Rattle.gate_file.proofs.CommitSteps.{shut_before, either_before, committed_before}
use Rattle.gate_file.proofs.gate.GateFile.commit.Goals as goal

pub returns-then-self-ge-MAX_COMMITS-clause-disk : goal.returns-then-self-ge-MAX_COMMITS-clause-disk
returns-then-self-ge-MAX_COMMITS-clause-disk g c =
    let gate = c.args.self.now in
    let next = next_root gate c.args.root c.args.len in
    told_file_none gate.name (Keeps gate) (g.F.Folder.disk c.args.folder.now) (λ file image. Shows gate.root file.durable image ⊎ Shows (Some next) file.seen image) (λ file now. Unit {0})
    (λ file image keeps is. inl (shut_before gate (omega arith) file image keeps is)) (λ file keeps. tt) c.requires.keeps

pub returns-in_err-shut-clause-disk : goal.returns-in_err-shut-clause-disk
returns-in_err-shut-clause-disk g c =
    let gate = c.args.self.now in
    let next = next_root gate c.args.root c.args.len in
    told_file_weaker gate.name (Keeps gate) (g.F.Folder.disk c.args.folder.now) (g.F.Folder.disk c.shut.new.folder) (λ file image. Shows gate.root file.durable image) (λ file image. Shows gate.root file.durable image ⊎ Shows (Some next) file.seen image)
    (λ file now. OnOk c.shut.result (IsReady gate now × Continues file now)) (λ file now. OnOk c.from_residual.result (IsCommitted (committed gate next) file now))
    (λ file image keeps left. inl left) (λ file now keeps ended. ended_err c.from_residual.result (IsCommitted (committed gate next) file now) c.from_residual.ensures.0)
    c.requires.keeps c.shut.ensures.disk

pub returns-in_err-stage-clause-disk : goal.returns-in_err-stage-clause-disk
returns-in_err-stage-clause-disk g c =
    let gate = c.args.self.now in
    let next = next_root gate c.args.root c.args.len in
    let was = c.in_ok-shut.was in
    told_file_then gate.name (Keeps gate) (g.F.Folder.disk c.args.folder.now) (g.F.Folder.disk c.shut.new.folder) (g.F.Folder.disk c.stage.new.folder) (λ file image. Shows gate.root file.durable image) (λ file image. Shows gate.root file.durable image) (λ file image. Shows gate.root file.durable image ⊎ Shows (Some next) file.seen image)
    (λ file now. OnOk c.shut.result (IsReady gate now × Continues file now)) (λ file now. OnOk c.stage.result (IsStaged gate next now × Continues file now)) (λ file now. OnOk c.from_residual-in_err-stage.result (IsCommitted (committed gate next) file now))
    (λ file image keeps left. inl left)
    (λ file mid image keeps ended left. inl (shows_before file mid image (on_ok c.shut.result c.in_ok-shut.field-0 (IsReady gate mid × Continues file mid) was ended).1 left))
    (λ file mid now keeps ended later. ended_err c.from_residual-in_err-stage.result (IsCommitted (committed gate next) file now) c.from_residual-in_err-stage.ensures.0)
    c.requires.keeps c.shut.ensures.disk c.stage.ensures.disk

pub returns-in_err-open_gate-clause-disk : goal.returns-in_err-open_gate-clause-disk
returns-in_err-open_gate-clause-disk g c =
    let gate = c.args.self.now in
    let next = next_root gate c.args.root c.args.len in
    let shut_was = c.in_ok-shut.was in
    let stage_was = c.in_ok-stage.was in
    let two = told_file_then gate.name (Keeps gate) (g.F.Folder.disk c.args.folder.now) (g.F.Folder.disk c.shut.new.folder) (g.F.Folder.disk c.stage.new.folder) (λ file image. Shows gate.root file.durable image) (λ file image. Shows gate.root file.durable image) (λ file image. Shows gate.root file.durable image)
    (λ file now. OnOk c.shut.result (IsReady gate now × Continues file now)) (λ file now. OnOk c.stage.result (IsStaged gate next now × Continues file now)) (λ file now. IsStaged gate next now × Continues file now)
    (λ file image keeps left. left)
    (λ file mid image keeps ended left. shows_before file mid image (on_ok c.shut.result c.in_ok-shut.field-0 (IsReady gate mid × Continues file mid) shut_was ended).1 left)
    (λ file mid now keeps ended later.
    let early = on_ok c.shut.result c.in_ok-shut.field-0 (IsReady gate mid × Continues file mid) shut_was ended in
    let late = on_ok c.stage.result c.in_ok-stage.field-0 (IsStaged gate next now × Continues mid now) stage_was later in
    (late.0, continues_then file mid now early.1 late.1))
    c.requires.keeps c.shut.ensures.disk c.stage.ensures.disk in
    told_file_then gate.name (Keeps gate) (g.F.Folder.disk c.args.folder.now) (g.F.Folder.disk c.stage.new.folder) (g.F.Folder.disk c.open_gate.new.folder) (λ file image. Shows gate.root file.durable image) (λ file image. Shows gate.root file.durable image ⊎ Shows (Some next) file.seen image) (λ file image. Shows gate.root file.durable image ⊎ Shows (Some next) file.seen image)
    (λ file now. IsStaged gate next now × Continues file now) (λ file now. OnOk c.open_gate.result (IsCommitted (committed gate next) file now)) (λ file now. OnOk c.from_residual-in_err-open_gate.result (IsCommitted (committed gate next) file now))
    (λ file image keeps left. inl left)
    (λ file mid image keeps ended left. either_before gate.root next file mid image ended.1 left)
    (λ file mid now keeps ended later. ended_err c.from_residual-in_err-open_gate.result (IsCommitted (committed gate next) file now) c.from_residual-in_err-open_gate.ensures.0)
    c.requires.keeps two c.open_gate.ensures.disk

pub returns-clause-disk : goal.returns-clause-disk
returns-clause-disk g c =
    let gate = c.args.self.now in
    let next = next_root gate c.args.root c.args.len in
    let shut_was = c.in_ok-shut.was in
    let stage_was = c.in_ok-stage.was in
    let two = told_file_then gate.name (Keeps gate) (g.F.Folder.disk c.args.folder.now) (g.F.Folder.disk c.shut.new.folder) (g.F.Folder.disk c.stage.new.folder) (λ file image. Shows gate.root file.durable image) (λ file image. Shows gate.root file.durable image) (λ file image. Shows gate.root file.durable image)
    (λ file now. OnOk c.shut.result (IsReady gate now × Continues file now)) (λ file now. OnOk c.stage.result (IsStaged gate next now × Continues file now)) (λ file now. IsStaged gate next now × Continues file now)
    (λ file image keeps left. left)
    (λ file mid image keeps ended left. shows_before file mid image (on_ok c.shut.result c.in_ok-shut.field-0 (IsReady gate mid × Continues file mid) shut_was ended).1 left)
    (λ file mid now keeps ended later.
    let early = on_ok c.shut.result c.in_ok-shut.field-0 (IsReady gate mid × Continues file mid) shut_was ended in
    let late = on_ok c.stage.result c.in_ok-stage.field-0 (IsStaged gate next now × Continues mid now) stage_was later in
    (late.0, continues_then file mid now early.1 late.1))
    c.requires.keeps c.shut.ensures.disk c.stage.ensures.disk in
    told_file_then gate.name (Keeps gate) (g.F.Folder.disk c.args.folder.now) (g.F.Folder.disk c.stage.new.folder) (g.F.Folder.disk c.open_gate.new.folder) (λ file image. Shows gate.root file.durable image) (λ file image. Shows gate.root file.durable image ⊎ Shows (Some next) file.seen image) (λ file image. Shows gate.root file.durable image ⊎ Shows (Some next) file.seen image)
    (λ file now. IsStaged gate next now × Continues file now) (λ file now. OnOk c.open_gate.result (IsCommitted (committed gate next) file now)) (λ file now. IsCommitted (committed gate next) file now)
    (λ file image keeps left. inl left)
    (λ file mid image keeps ended left. either_before gate.root next file mid image ended.1 left)
    (λ file mid now keeps ended later. committed_before (committed gate next) file mid now ended.1 (on_ok c.open_gate.result c.in_ok-open_gate.field-0 (IsCommitted (committed gate next) mid now) c.in_ok-open_gate.was later))
    c.requires.keeps two c.open_gate.ensures.disk
