use Rattle.std.proofs.Common.{◌≡◌, OnOk}
use Rattle.view_ports.proofs.DiskRuns.{on_ok}
use Rattle.gate_file.proofs.Stepped.{ended_err}
use Rattle.gate_file.proofs.Cuts.{adding, told_grow_once, told_grow_write}
use Rattle.gate_file.proofs.steps.add.Goals as goal

pub returns-in_err-grow-clause-disk : goal.returns-in_err-grow-clause-disk
returns-in_err-grow-clause-disk g c =
    told_grow_once c.args.name c.args.at c.args.bytes.now c.grow.result c.grow.result (g.F.Folder.disk c.args.folder.now) (g.F.Folder.disk c.grow.new.self) (g.F.Folder.disk c.grow.new.self)
    (λ file now. OnOk c.from_residual.result (now ≡ adding c.args.at c.args.bytes.now file))
    (λ file now ok. ended_err c.from_residual.result (now ≡ adding c.args.at c.args.bytes.now file) c.from_residual.ensures.0) c.grow.ensures.disk

pub returns-in_err-write_at-clause-disk : goal.returns-in_err-write_at-clause-disk
returns-in_err-write_at-clause-disk g c =
    told_grow_write c.args.name c.args.at c.args.bytes.now c.grow.result c.write_at.result (g.F.Folder.disk c.args.folder.now) (g.F.Folder.disk c.grow.new.self) (g.F.Folder.disk c.write_at.new.self)
    (λ file now. OnOk c.from_residual-in_err-write_at.result (now ≡ adding c.args.at c.args.bytes.now file)) c.in_ok-grow.field-0 c.in_ok-grow.was
    (λ file now ok. ended_err c.from_residual-in_err-write_at.result (now ≡ adding c.args.at c.args.bytes.now file) c.from_residual-in_err-write_at.ensures.0) c.grow.ensures.disk c.write_at.ensures.disk

pub returns-clause-disk : goal.returns-clause-disk
returns-clause-disk g c =
    told_grow_write c.args.name c.args.at c.args.bytes.now c.grow.result c.write_at.result (g.F.Folder.disk c.args.folder.now) (g.F.Folder.disk c.grow.new.self) (g.F.Folder.disk c.write_at.new.self)
    (λ file now. now ≡ adding c.args.at c.args.bytes.now file) c.in_ok-grow.field-0 c.in_ok-grow.was
    (λ file now ok. on_ok c.write_at.result c.in_ok-write_at.field-0 (now ≡ adding c.args.at c.args.bytes.now file) c.in_ok-write_at.was ok) c.grow.ensures.disk c.write_at.ensures.disk
