use Rattle.std.proofs.Common.{◌≡◌, ◌+◌, ◌∷◌, [], OnOk, ap, rules}
use Rattle.view_ports.specs.File.{IsImage, wrote, synced}
use Rattle.view_ports.proofs.DiskRuns.{on_ok}
use Rattle.view_ports.proofs.ToldFiles.{told_file_none, told_file_weaker}
use Rattle.gate_file.specs.Header.{place_of}
use Rattle.gate_file.specs.Shown.{Shows}
use Rattle.gate_file.specs.GateFile.{Keeps}
use Rattle.gate_file.specs.Commit.{IsReady, Continues}
use Rattle.gate_file.proofs.Stepped.{ended_err}
use Rattle.gate_file.proofs.CommitSteps.{shut_before, shut_already, shut_images, shut_ends}
use Rattle.gate_file.proofs.gate.GateFile.shut.Goals as goal

pub returns-then-not-self-clause-disk : goal.returns-then-not-self-clause-disk
returns-then-not-self-clause-disk g c =
    let gate = c.args.self.now in
    told_file_none gate.name (Keeps gate) (g.F.Folder.disk c.args.folder.now) (λ file image. Shows gate.root file.durable image) (λ file now. IsReady gate now × Continues file now)
    (λ file image keeps is. shut_before gate c.requires.made file image keeps is) (λ file keeps. shut_already gate c.requires.made (search rules) file keeps) c.requires.keeps

pub returns-in_err-put_synced-clause-disk : goal.returns-in_err-put_synced-clause-disk
returns-in_err-put_synced-clause-disk g c =
    let gate = c.args.self.now in
    let at = c.next_place.result + 64 in
    let place : at ≡ place_of (gate.commits + 1) + 64 = ap (λ n. n + 64) c.next_place.ensures in
    told_file_weaker gate.name (Keeps gate) (g.F.Folder.disk c.args.folder.now) (g.F.Folder.disk c.put_synced.new.folder)
    (λ file image. IsImage (wrote at (0 ∷ []) file) image) (λ file image. Shows gate.root file.durable image)
    (λ file now. OnOk c.put_synced.result (now ≡ synced (wrote at (0 ∷ []) file))) (λ file now. OnOk c.from_residual.result (IsReady gate now × Continues file now))
    (λ file image keeps is. shut_images gate c.requires.made (search rules) at place file image keeps is)
    (λ file now keeps ended. ended_err c.from_residual.result (IsReady gate now × Continues file now) c.from_residual.ensures.0)
    c.requires.keeps c.put_synced.ensures.disk

pub returns-clause-disk : goal.returns-clause-disk
returns-clause-disk g c =
    let gate = c.args.self.now in
    let at = c.next_place.result + 64 in
    let place : at ≡ place_of (gate.commits + 1) + 64 = ap (λ n. n + 64) c.next_place.ensures in
    told_file_weaker gate.name (Keeps gate) (g.F.Folder.disk c.args.folder.now) (g.F.Folder.disk c.put_synced.new.folder)
    (λ file image. IsImage (wrote at (0 ∷ []) file) image) (λ file image. Shows gate.root file.durable image)
    (λ file now. OnOk c.put_synced.result (now ≡ synced (wrote at (0 ∷ []) file))) (λ file now. IsReady gate now × Continues file now)
    (λ file image keeps is. shut_images gate c.requires.made (search rules) at place file image keeps is)
    (λ file now keeps ended. shut_ends gate c.requires.made at place file now keeps (on_ok c.put_synced.result c.in_ok-put_synced.field-0 (now ≡ synced (wrote at (0 ∷ []) file)) c.in_ok-put_synced.was ended))
    c.requires.keeps c.put_synced.ensures.disk
