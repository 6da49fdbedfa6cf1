use Rattle.std.proofs.Common.{◌≡◌, [], OnOk}
use Rattle.view_ports.specs.File.{settled}
use Rattle.view_ports.proofs.DiskRuns.{on_ok}
use Rattle.gate_file.proofs.Stepped.{ended_err}
use Rattle.gate_file.proofs.Cuts.{told_cut_once, told_cut_twice}
use Rattle.gate_file.proofs.steps.cut_synced.Goals as goal

pub returns-in_err-cut_to_zero-clause-disk : goal.returns-in_err-cut_to_zero-clause-disk
returns-in_err-cut_to_zero-clause-disk g c =
    told_cut_once c.args.name c.cut_to_zero.result c.cut_to_zero.result (g.F.Folder.disk c.args.folder.now) (g.F.Folder.disk c.cut_to_zero.new.self) (g.F.Folder.disk c.cut_to_zero.new.self)
    (λ file now. OnOk c.from_residual.result (now ≡ settled [])) (λ file now ok. ended_err c.from_residual.result (now ≡ settled []) c.from_residual.ensures.0) c.cut_to_zero.ensures.disk

pub returns-in_err-sync-clause-disk : goal.returns-in_err-sync-clause-disk
returns-in_err-sync-clause-disk g c =
    told_cut_twice c.args.name c.cut_to_zero.result c.sync.result (g.F.Folder.disk c.args.folder.now) (g.F.Folder.disk c.cut_to_zero.new.self) (g.F.Folder.disk c.sync.new.self)
    (λ file now. OnOk c.from_residual-in_err-sync.result (now ≡ settled [])) c.in_ok-cut_to_zero.field-0 c.in_ok-cut_to_zero.was
    (λ file now ok. ended_err c.from_residual-in_err-sync.result (now ≡ settled []) c.from_residual-in_err-sync.ensures.0) c.cut_to_zero.ensures.disk c.sync.ensures.disk

pub returns-clause-disk : goal.returns-clause-disk
returns-clause-disk g c =
    told_cut_twice c.args.name c.cut_to_zero.result c.sync.result (g.F.Folder.disk c.args.folder.now) (g.F.Folder.disk c.cut_to_zero.new.self) (g.F.Folder.disk c.sync.new.self)
    (λ file now. now ≡ settled []) c.in_ok-cut_to_zero.field-0 c.in_ok-cut_to_zero.was
    (λ file now ok. on_ok c.sync.result c.in_ok-sync.field-0 (now ≡ settled []) c.in_ok-sync.was ok) c.cut_to_zero.ensures.disk c.sync.ensures.disk
