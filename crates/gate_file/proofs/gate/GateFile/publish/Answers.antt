-- The bytes are appended, and then what stands behind the first of them becomes the root.
use Rattle.std.proofs.Common.{◌≡◌, ◌⊎◌, inl, inr, ◌+◌, ◌-◌, Some, ℕ, List, refl, length, OnOk, Result, Ok, Err, subst, ap, ◌∙◌}
use Rattle.view_ports.specs.Disk.{MovesFile, Tells}
use Rattle.view_ports.specs.File.{File}
use Rattle.view_ports.proofs.DiskRuns.{on_ok}
use Rattle.view_ports.proofs.ToldFiles.{told_file_none, told_file_weaker, told_file_then}
use Rattle.gate_file.specs.declared.gate.GateFile.{GateFile}
use Rattle.gate_file.specs.declared.root.Root.{Root}
use Rattle.gate_file.specs.GateFile.{appended, committed, next_root, start_of, Keeps, IsAppended, IsCommitted}
use Rattle.gate_file.specs.Shown.{Shows}
use Rattle.gate_file.proofs.Appends.{shows_then, still_shows}
use Rattle.gate_file.proofs.Stepped.{ended_err}
use Rattle.gate_file.specs.Publish.{published, published_root, IsPublished, ShowsEither}
use Rattle.gate_file.proofs.gate.GateFile.publish.Goals as goal

-- while the root is committed a crash leaves the old one, or the new one with the bytes
committing : (gate : GateFile) (next : Root) (bytes : List ℕ) (longer : GateFile) (file mid : File) (image : List ℕ) → longer.root ≡ gate.root → IsAppended longer bytes file mid
    → Shows gate.root mid.durable image ⊎ Shows (Some next) mid.seen image → ShowsEither gate next bytes file image
committing gate next bytes longer file mid image same appended (inl old) = inl (shows_then gate.root file.durable mid.durable image (subst (λ r. Shows r file.durable mid.durable) same appended.durable) old)
committing gate next bytes longer file mid image same appended (inr new) = inr (record {
  front = appended.front;
  made = appended.made;
  shows = subst (λ seen. Shows (Some next) seen image) appended.seen new;
})

commits_whole : {T E : Type 0} (result : Result T E) (last : GateFile) (bytes : List ℕ) (longer : GateFile) (file mid now : File) → IsAppended longer bytes file mid
    → OnOk result (IsCommitted last mid now) → OnOk result (IsPublished last bytes file now)
commits_whole (Err e) last bytes longer file mid now appended ended = tt
commits_whole (Ok v) last bytes longer file mid now appended ended = record {
  front = appended.front;
  made = appended.made;
  shows = subst (λ seen. Shows last.root seen now.seen) appended.seen ended.shows;
  size = ended.size ∙ ap length appended.seen;
  whole = ended.settled_now;
  keeps = ended.keeps;
}

pub returns-then-is_used_up-clause-disk : goal.returns-then-is_used_up-clause-disk
returns-then-is_used_up-clause-disk g c =
    let gate = c.args.self.now in
    let next = published_root gate (length c.args.bytes.now) c.args.skipped in
    told_file_none gate.name (Keeps gate) (g.F.Folder.disk c.args.folder.now) (ShowsEither gate next c.args.bytes.now) (λ file now. Unit {0})
    (λ file image keeps is. inl (still_shows gate file keeps image is)) (λ file keeps. tt) c.requires.keeps

pub returns-in_err-at-clause-disk : goal.returns-in_err-at-clause-disk
returns-in_err-at-clause-disk g c =
    let gate = c.args.self.now in
    let bytes = c.args.bytes.now in
    let next = published_root gate (length bytes) c.args.skipped in
    told_file_weaker gate.name (Keeps gate) (g.F.Folder.disk c.args.folder.now) (g.F.Folder.disk c.append.new.folder)
    (λ file image. Shows gate.root file.durable image) (ShowsEither gate next bytes)
    (λ file now. OnOk c.append.result (IsAppended (appended gate (length bytes)) bytes file now))
    (λ file now. OnOk c.from_residual.result (IsPublished (published gate (length bytes) c.args.skipped) bytes file now))
    (λ file image keeps left. inl left)
    (λ file now keeps ended. ended_err c.from_residual.result (IsPublished (published gate (length bytes) c.args.skipped) bytes file now) c.from_residual.ensures.0)
    c.requires.keeps c.append.ensures.disk

pub returns-clause-disk : goal.returns-clause-disk
returns-clause-disk g c =
    let gate = c.args.self.now in
    let bytes = c.args.bytes.now in
    let longer = appended gate (length bytes) in
    let next = published_root gate (length bytes) c.args.skipped in
    let last = committed longer next in
    let of_gate : (G : GateFile) (at : ℕ) → Type 0 = λ G at. Tells (g.F.Folder.disk c.append.new.folder) (g.F.Folder.disk c.commit.new.folder)
    (MovesFile G.name (λ file image. Shows G.root file.durable image ⊎ Shows (Some (next_root G (at + c.args.skipped) (length bytes - c.args.skipped))) file.seen image)
    (λ file now. OnOk c.commit.result (IsCommitted (committed G (next_root G (at + c.args.skipped) (length bytes - c.args.skipped))) file now))) in
    let late : of_gate longer (start_of gate) = subst (λ at. of_gate longer at) c.in_ok-at.ensures.place (subst (λ G. of_gate G c.in_ok-at.at) c.in_ok-at.ensures.done c.commit.ensures.disk) in
    told_file_then gate.name (Keeps gate) (g.F.Folder.disk c.args.folder.now) (g.F.Folder.disk c.append.new.folder) (g.F.Folder.disk c.commit.new.folder)
    (λ file image. Shows gate.root file.durable image)
    (λ file image. Shows gate.root file.durable image ⊎ Shows (Some next) file.seen image)
    (ShowsEither gate next bytes)
    (λ file now. OnOk c.append.result (IsAppended longer bytes file now))
    (λ file now. OnOk c.commit.result (IsCommitted last file now))
    (λ file now. OnOk c.commit.result (IsPublished last bytes file now))
    (λ file image keeps left. inl left)
    (λ file mid image keeps ended left. committing gate next bytes longer file mid image refl (on_ok c.append.result c.in_ok-at.at (IsAppended longer bytes file mid) c.in_ok-at.was ended) left)
    (λ file mid now keeps ended later. commits_whole c.commit.result last bytes longer file mid now (on_ok c.append.result c.in_ok-at.at (IsAppended longer bytes file mid) c.in_ok-at.was ended) later)
    c.requires.keeps c.append.ensures.disk late
