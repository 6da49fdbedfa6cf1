use Rattle.std.proofs.Common.{◌≡◌, OnOk}
use Rattle.view_ports.specs.File.{grew, synced}
use Rattle.view_ports.proofs.DiskRuns.{on_ok}
use Rattle.gate_file.proofs.Stepped.{ungrown, ended_err, told_failed, told_synced}
use Rattle.gate_file.proofs.steps.grow_synced.Goals as goal

pub returns-in_err-grow-clause-disk : goal.returns-in_err-grow-clause-disk
returns-in_err-grow-clause-disk g c =
    told_failed c.args.name (grew c.args.by) (ungrown c.args.by) (g.F.Folder.disk c.args.folder.now) (g.F.Folder.disk c.grow.new.self) (g.F.Folder.disk c.grow.new.self)
    c.grow.result c.from_residual.result (λ file now. now ≡ synced ((grew c.args.by) file)) c.from_residual.ensures.0 c.grow.ensures.disk

pub returns-in_err-sync-clause-disk : goal.returns-in_err-sync-clause-disk
returns-in_err-sync-clause-disk g c =
    told_synced c.args.name (grew c.args.by) (ungrown c.args.by) (g.F.Folder.disk c.args.folder.now) (g.F.Folder.disk c.grow.new.self) (g.F.Folder.disk c.sync.new.self)
    c.grow.result c.in_ok-grow.field-0 c.sync.result (λ file now. OnOk c.from_residual-in_err-sync.result (now ≡ synced ((grew c.args.by) file))) c.in_ok-grow.was
    (λ file now ok. ended_err c.from_residual-in_err-sync.result (now ≡ synced ((grew c.args.by) file)) c.from_residual-in_err-sync.ensures.0)
    c.grow.ensures.disk (g.met.F.Folder.seen_may_stay c.grow.new.self) c.sync.ensures.disk

pub returns-clause-disk : goal.returns-clause-disk
returns-clause-disk g c =
    told_synced c.args.name (grew c.args.by) (ungrown c.args.by) (g.F.Folder.disk c.args.folder.now) (g.F.Folder.disk c.grow.new.self) (g.F.Folder.disk c.sync.new.self)
    c.grow.result c.in_ok-grow.field-0 c.sync.result (λ file now. now ≡ synced ((grew c.args.by) file)) c.in_ok-grow.was
    (λ file now ok. on_ok c.sync.result c.in_ok-sync.field-0 (now ≡ synced ((grew c.args.by) file)) c.in_ok-sync.was ok)
    c.grow.ensures.disk (g.met.F.Folder.seen_may_stay c.grow.new.self) c.sync.ensures.disk
