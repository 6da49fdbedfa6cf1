use Rattle.std.proofs.Common.{◌≡◌, OnOk, arith}
use Rattle.view_ports.proofs.DiskRuns.{on_ok}
use Rattle.view_ports.proofs.ToldFiles.{told_file_none, told_file_weaker}
use Rattle.gate_file.specs.Shown.{Shows}
use Rattle.gate_file.specs.GateFile.{Keeps}
use Rattle.gate_file.specs.Append.{IsZeros, IsGrown, IsMade}
use Rattle.gate_file.proofs.Stepped.{ended_err}
use Rattle.gate_file.proofs.Appends.{zeros_shows, made_new, made_already, there_shows}
use Rattle.gate_file.proofs.gate.GateFile.make.Goals as goal

pub returns-then-self-gt0-clause-disk : goal.returns-then-self-gt0-clause-disk
returns-then-self-gt0-clause-disk g c =
    let gate = c.args.self.now in
    told_file_none gate.name (Keeps gate) (g.F.Folder.disk c.args.folder.now) (λ file image. Shows gate.root file.durable image) (λ file now. IsMade gate file now)
    (λ file image keeps is. there_shows gate file keeps (omega arith) image is) (λ file keeps. made_already gate file keeps (omega arith)) c.requires

pub returns-in_err-grow_new-clause-disk : goal.returns-in_err-grow_new-clause-disk
returns-in_err-grow_new-clause-disk g c =
    let gate = c.args.self.now in
    let none : gate.length ≡ 0 = omega arith in
    told_file_weaker gate.name (Keeps gate) (g.F.Folder.disk c.args.folder.now) (g.F.Folder.disk c.grow_new.new.folder)
    (λ file image. IsZeros image) (λ file image. Shows gate.root file.durable image)
    (λ file now. OnOk c.grow_new.result (IsGrown 8192 now)) (λ file now. OnOk c.from_residual.result (IsMade gate file now))
    (λ file image keeps zeros. zeros_shows gate file keeps none image zeros) (λ file now keeps ended. ended_err c.from_residual.result (IsMade gate file now) c.from_residual.ensures.0)
    c.requires c.grow_new.ensures.disk

pub returns-clause-disk : goal.returns-clause-disk
returns-clause-disk g c =
    let gate = c.args.self.now in
    let none : gate.length ≡ 0 = omega arith in
    told_file_weaker gate.name (Keeps gate) (g.F.Folder.disk c.args.folder.now) (g.F.Folder.disk c.grow_new.new.folder)
    (λ file image. IsZeros image) (λ file image. Shows gate.root file.durable image)
    (λ file now. OnOk c.grow_new.result (IsGrown 8192 now)) (λ file now. IsMade gate file now)
    (λ file image keeps zeros. zeros_shows gate file keeps none image zeros) (λ file now keeps ended. made_new gate file keeps none now (on_ok c.grow_new.result c.in_ok-grow_new.field-0 (IsGrown 8192 now) c.in_ok-grow_new.was ended))
    c.requires c.grow_new.ensures.disk
