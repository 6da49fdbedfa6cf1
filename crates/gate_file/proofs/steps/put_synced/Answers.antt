use Rattle.std.proofs.Common.{◌≡◌, OnOk}
use Rattle.view_ports.specs.File.{wrote, synced}
use Rattle.view_ports.proofs.DiskRuns.{on_ok}
use Rattle.gate_file.proofs.Stepped.{unwritten, ended_err, told_failed, told_synced}
use Rattle.gate_file.proofs.steps.put_synced.Goals as goal

pub returns-in_err-write_at-clause-disk : goal.returns-in_err-write_at-clause-disk
returns-in_err-write_at-clause-disk g c =
    told_failed c.args.name (wrote c.args.at c.args.bytes.now) (unwritten c.args.at c.args.bytes.now) (g.F.Folder.disk c.args.folder.now) (g.F.Folder.disk c.write_at.new.self) (g.F.Folder.disk c.write_at.new.self)
    c.write_at.result c.from_residual.result (λ file now. now ≡ synced ((wrote c.args.at c.args.bytes.now) file)) c.from_residual.ensures.0 c.write_at.ensures.disk

pub returns-in_err-sync-clause-disk : goal.returns-in_err-sync-clause-disk
returns-in_err-sync-clause-disk g c =
    told_synced c.args.name (wrote c.args.at c.args.bytes.now) (unwritten c.args.at c.args.bytes.now) (g.F.Folder.disk c.args.folder.now) (g.F.Folder.disk c.write_at.new.self) (g.F.Folder.disk c.sync.new.self)
    c.write_at.result c.in_ok-write_at.field-0 c.sync.result (λ file now. OnOk c.from_residual-in_err-sync.result (now ≡ synced ((wrote c.args.at c.args.bytes.now) file))) c.in_ok-write_at.was
    (λ file now ok. ended_err c.from_residual-in_err-sync.result (now ≡ synced ((wrote c.args.at c.args.bytes.now) file)) c.from_residual-in_err-sync.ensures.0)
    c.write_at.ensures.disk (g.met.F.Folder.seen_may_stay c.write_at.new.self) c.sync.ensures.disk

pub returns-clause-disk : goal.returns-clause-disk
returns-clause-disk g c =
    told_synced c.args.name (wrote c.args.at c.args.bytes.now) (unwritten c.args.at c.args.bytes.now) (g.F.Folder.disk c.args.folder.now) (g.F.Folder.disk c.write_at.new.self) (g.F.Folder.disk c.sync.new.self)
    c.write_at.result c.in_ok-write_at.field-0 c.sync.result (λ file now. now ≡ synced ((wrote c.args.at c.args.bytes.now) file)) c.in_ok-write_at.was
    (λ file now ok. on_ok c.sync.result c.in_ok-sync.field-0 (now ≡ synced ((wrote c.args.at c.args.bytes.now) file)) c.in_ok-sync.was ok)
    c.write_at.ensures.disk (g.met.F.Folder.seen_may_stay c.write_at.new.self) c.sync.ensures.disk
