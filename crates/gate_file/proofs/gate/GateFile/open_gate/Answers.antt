use Rattle.std.proofs.Common.{◌≡◌, ◌⊎◌, ◌+◌, ◌∷◌, [], Some, OnOk, ap, arith}
use Rattle.std.specs.Prelude.{IfSome}
use Rattle.view_ports.specs.File.{File, IsImage, wrote, synced}
use Rattle.view_ports.proofs.DiskRuns.{on_ok}
use Rattle.view_ports.proofs.Told.{told_pair}
use Rattle.view_ports.proofs.ToldFiles.{told_file_weaker}
use Rattle.gate_file.specs.declared.root.Root.{Root}
use Rattle.gate_file.specs.declared.gate.GateFile.{GateFile}
use Rattle.gate_file.specs.Header.{place_of}
use Rattle.gate_file.specs.Shown.{Shows}
use Rattle.gate_file.specs.GateFile.{IsCommitted, committed}
use Rattle.gate_file.specs.Commit.{IsStaged}
use Rattle.gate_file.proofs.Stepped.{ended_err}
use Rattle.gate_file.proofs.SlotFacts.{IsSmall}
use Rattle.gate_file.proofs.CommitSteps.{publish_images, publish_ends}
use Rattle.gate_file.proofs.gate.GateFile.open_gate.Goals as goal

-- what is known of the file before the gate is opened
record Known (gate : GateFile) (root : Root) (file : File) : Type 0 where
  known : IfSome gate.root (λ r. r.number ≡ gate.commits)
  staged : IsStaged gate root file

pub returns-in_err-put_synced-clause-disk : goal.returns-in_err-put_synced-clause-disk
returns-in_err-put_synced-clause-disk g c =
    let gate = c.args.self.now in
    let root = c.args.root in
    let at = c.next_place.result + 64 in
    let place : at ≡ place_of (gate.commits + 1) + 64 = ap (λ n. n + 64) c.next_place.ensures in
    let small : IsSmall root = record { number = omega arith; offset = omega arith; length = omega arith } in
    told_file_weaker gate.name (Known gate root) (g.F.Folder.disk c.args.folder.now) (g.F.Folder.disk c.put_synced.new.folder)
    (λ file image. IsImage (wrote at (1 ∷ []) file) image) (λ file image. Shows gate.root file.durable image ⊎ Shows (Some root) file.seen image)
    (λ file now. OnOk c.put_synced.result (now ≡ synced (wrote at (1 ∷ []) file))) (λ file now. OnOk c.from_residual.result (IsCommitted (committed gate root) file now))
    (λ file image is left. publish_images gate root c.requires.next small is.known at place file image is.staged left)
    (λ file now is ended. ended_err c.from_residual.result (IsCommitted (committed gate root) file now) c.from_residual.ensures.0)
    (told_pair (g.F.Folder.disk c.args.folder.now) (λ d. IfSome gate.root (λ r. r.number ≡ gate.commits)) (λ d. IsStaged gate root (d.now gate.name)) (λ d. Known gate root (d.now gate.name))
    (λ d known staged. record { known = known; staged = staged }) c.requires.known c.requires.staged)
    c.put_synced.ensures.disk

pub returns-clause-disk : goal.returns-clause-disk
returns-clause-disk g c =
    let gate = c.args.self.now in
    let root = c.args.root in
    let at = c.next_place.result + 64 in
    let place : at ≡ place_of (gate.commits + 1) + 64 = ap (λ n. n + 64) c.next_place.ensures in
    let small : IsSmall root = record { number = omega arith; offset = omega arith; length = omega arith } in
    told_file_weaker gate.name (Known gate root) (g.F.Folder.disk c.args.folder.now) (g.F.Folder.disk c.put_synced.new.folder)
    (λ file image. IsImage (wrote at (1 ∷ []) file) image) (λ file image. Shows gate.root file.durable image ⊎ Shows (Some root) file.seen image)
    (λ file now. OnOk c.put_synced.result (now ≡ synced (wrote at (1 ∷ []) file))) (λ file now. IsCommitted (committed gate root) file now)
    (λ file image is left. publish_images gate root c.requires.next small is.known at place file image is.staged left)
    (λ file now is ended. publish_ends gate root c.requires.next small is.known at place file now is.staged (on_ok c.put_synced.result c.in_ok-put_synced.field-0 (now ≡ synced (wrote at (1 ∷ []) file)) c.in_ok-put_synced.was ended))
    (told_pair (g.F.Folder.disk c.args.folder.now) (λ d. IfSome gate.root (λ r. r.number ≡ gate.commits)) (λ d. IsStaged gate root (d.now gate.name)) (λ d. Known gate root (d.now gate.name))
    (λ d known staged. record { known = known; staged = staged }) c.requires.known c.requires.staged)
    c.put_synced.ensures.disk
