use Rattle.std.proofs.Common.{◌≡◌, [], OnOk}
use Rattle.view_ports.specs.File.{IsImage, grew, settled, synced}
use Rattle.view_ports.proofs.DiskRuns.{on_ok}
use Rattle.view_ports.proofs.ToldFiles.{told_file_weaker}
use Rattle.gate_file.specs.Append.{IsZeros, IsGrown}
use Rattle.gate_file.proofs.Stepped.{ended_err}
use Rattle.gate_file.proofs.Appends.{grown_images, grown_ends}
use Rattle.gate_file.proofs.steps.grow_new.Goals as goal

pub returns-in_err-grow_synced-clause-disk : goal.returns-in_err-grow_synced-clause-disk
returns-in_err-grow_synced-clause-disk g c =
    told_file_weaker c.args.name (λ file. file ≡ settled []) (g.F.Folder.disk c.args.folder.now) (g.F.Folder.disk c.grow_synced.new.folder)
    (λ file image. IsImage (grew c.args.size file) image) (λ file image. IsZeros image)
    (λ file now. OnOk c.grow_synced.result (now ≡ synced (grew c.args.size file))) (λ file now. OnOk c.from_residual.result (IsGrown c.args.size now))
    (λ file image new left. grown_images c.args.size file image new left) (λ file now new ended. ended_err c.from_residual.result (IsGrown c.args.size now) c.from_residual.ensures.0)
    c.requires.new c.grow_synced.ensures.disk

pub returns-clause-disk : goal.returns-clause-disk
returns-clause-disk g c =
    told_file_weaker c.args.name (λ file. file ≡ settled []) (g.F.Folder.disk c.args.folder.now) (g.F.Folder.disk c.grow_synced.new.folder)
    (λ file image. IsImage (grew c.args.size file) image) (λ file image. IsZeros image)
    (λ file now. OnOk c.grow_synced.result (now ≡ synced (grew c.args.size file))) (λ file now. IsGrown c.args.size now)
    (λ file image new left. grown_images c.args.size file image new left) (λ file now new ended. grown_ends c.args.size file now new (on_ok c.grow_synced.result c.in_ok-grow_synced.field-0 (now ≡ synced (grew c.args.size file)) c.in_ok-grow_synced.was ended))
    c.requires.new c.grow_synced.ensures.disk
