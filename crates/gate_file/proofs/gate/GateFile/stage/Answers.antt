use Rattle.std.proofs.Common.{◌≡◌, OnOk}
use Rattle.view_ports.specs.File.{IsImage, wrote, synced}
use Rattle.view_ports.proofs.DiskRuns.{on_ok}
use Rattle.view_ports.proofs.ToldFiles.{told_file_weaker}
use Rattle.gate_file.specs.Shown.{Shows}
use Rattle.gate_file.specs.Commit.{IsReady, IsStaged, Continues}
use Rattle.gate_file.proofs.Stepped.{ended_err}
use Rattle.gate_file.proofs.CommitSteps.{stage_images, stage_ends}
use Rattle.gate_file.proofs.gate.GateFile.stage.Goals as goal

pub returns-in_err-put_synced-clause-disk : goal.returns-in_err-put_synced-clause-disk
returns-in_err-put_synced-clause-disk g c =
    let gate = c.args.self.now in
    told_file_weaker gate.name (IsReady gate) (g.F.Folder.disk c.args.folder.now) (g.F.Folder.disk c.put_synced.new.folder)
    (λ file image. IsImage (wrote c.next_place.result c.header_of.result file) image) (λ file image. Shows gate.root file.durable image)
    (λ file now. OnOk c.put_synced.result (now ≡ synced (wrote c.next_place.result c.header_of.result file))) (λ file now. OnOk c.from_residual.result (IsStaged gate c.args.root now × Continues file now))
    (λ file image ready is. stage_images gate c.args.root c.next_place.result c.next_place.ensures c.header_of.result c.header_of.ensures file image ready is)
    (λ file now ready ended. ended_err c.from_residual.result (IsStaged gate c.args.root now × Continues file now) c.from_residual.ensures.0)
    c.requires.ready c.put_synced.ensures.disk

pub returns-clause-disk : goal.returns-clause-disk
returns-clause-disk g c =
    let gate = c.args.self.now in
    told_file_weaker gate.name (IsReady gate) (g.F.Folder.disk c.args.folder.now) (g.F.Folder.disk c.put_synced.new.folder)
    (λ file image. IsImage (wrote c.next_place.result c.header_of.result file) image) (λ file image. Shows gate.root file.durable image)
    (λ file now. OnOk c.put_synced.result (now ≡ synced (wrote c.next_place.result c.header_of.result file))) (λ file now. IsStaged gate c.args.root now × Continues file now)
    (λ file image ready is. stage_images gate c.args.root c.next_place.result c.next_place.ensures c.header_of.result c.header_of.ensures file image ready is)
    (λ file now ready ended. stage_ends gate c.args.root c.next_place.result c.next_place.ensures c.header_of.result c.header_of.ensures file now ready
    (on_ok c.put_synced.result c.in_ok-put_synced.field-0 (now ≡ synced (wrote c.next_place.result c.header_of.result file)) c.in_ok-put_synced.was ended))
    c.requires.ready c.put_synced.ensures.disk
