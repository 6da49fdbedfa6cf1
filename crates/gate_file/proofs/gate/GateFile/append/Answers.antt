use Rattle.std.proofs.Common.{◌≡◌, length, OnOk}
use Rattle.view_ports.specs.File.{IsImage}
use Rattle.view_ports.proofs.DiskRuns.{on_ok}
use Rattle.view_ports.proofs.ToldFiles.{told_file_none, told_file_then}
use Rattle.gate_file.specs.Shown.{Shows}
use Rattle.gate_file.specs.GateFile.{Keeps, appended, IsAppended}
use Rattle.gate_file.specs.Append.{IsMade}
use Rattle.gate_file.proofs.Stepped.{ended_err}
use Rattle.gate_file.proofs.Cuts.{adding}
use Rattle.gate_file.proofs.Appends.{append_images, append_ends, still_shows}
use Rattle.gate_file.proofs.gate.GateFile.append.Goals as goal

pub returns-then-not-has_room-clause-disk : goal.returns-then-not-has_room-clause-disk
returns-then-not-has_room-clause-disk g c =
    let gate = c.args.self.now in
    told_file_none gate.name (Keeps gate) (g.F.Folder.disk c.args.folder.now) (λ file image. Shows gate.root file.durable image) (λ file now. Unit {0})
    (λ file image keeps is. still_shows gate file keeps image is) (λ file keeps. tt) c.requires

pub returns-in_err-add-clause-disk : goal.returns-in_err-add-clause-disk
returns-in_err-add-clause-disk g c =
    let gate = c.args.self.now in
    let at = c.start-start.result in
    let bytes = c.args.bytes.now in
    told_file_then gate.name (Keeps gate) (g.F.Folder.disk c.args.folder.now) (g.F.Folder.disk c.make.new.folder) (g.F.Folder.disk c.add.new.folder)
    (λ file image. Shows gate.root file.durable image) (λ file image. IsImage (adding at bytes file) image) (λ file image. Shows gate.root file.durable image)
    (λ file now. OnOk c.make.result (IsMade gate file now)) (λ file now. OnOk c.add.result (now ≡ adding at bytes file)) (λ file now. OnOk c.from_residual-in_err-add.result (IsAppended (appended gate (length bytes)) bytes file now))
    (λ file image keeps left. left)
    (λ file mid image keeps ended left. append_images gate at c.start-start.ensures bytes file mid (on_ok c.make.result c.in_ok-make.field-0 (IsMade gate file mid) c.in_ok-make.was ended) image left)
    (λ file mid now keeps ended later. ended_err c.from_residual-in_err-add.result (IsAppended (appended gate (length bytes)) bytes file now) c.from_residual-in_err-add.ensures.0)
    c.requires c.make.ensures.disk c.add.ensures.disk

pub returns-clause-disk : goal.returns-clause-disk
returns-clause-disk g c =
    let gate = c.args.self.now in
    let at = c.start-start.result in
    let bytes = c.args.bytes.now in
    told_file_then gate.name (Keeps gate) (g.F.Folder.disk c.args.folder.now) (g.F.Folder.disk c.make.new.folder) (g.F.Folder.disk c.add.new.folder)
    (λ file image. Shows gate.root file.durable image) (λ file image. IsImage (adding at bytes file) image) (λ file image. Shows gate.root file.durable image)
    (λ file now. OnOk c.make.result (IsMade gate file now)) (λ file now. OnOk c.add.result (now ≡ adding at bytes file)) (λ file now. IsAppended (appended gate (length bytes)) bytes file now)
    (λ file image keeps left. left)
    (λ file mid image keeps ended left. append_images gate at c.start-start.ensures bytes file mid (on_ok c.make.result c.in_ok-make.field-0 (IsMade gate file mid) c.in_ok-make.was ended) image left)
    (λ file mid now keeps ended later. append_ends gate at c.start-start.ensures bytes file mid (on_ok c.make.result c.in_ok-make.field-0 (IsMade gate file mid) c.in_ok-make.was ended) now (on_ok c.add.result c.in_ok-add.field-0 (now ≡ adding at bytes mid) c.in_ok-add.was later))
    c.requires c.make.ensures.disk c.add.ensures.disk
