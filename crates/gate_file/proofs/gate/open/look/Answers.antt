use Rattle.std.proofs.Common.{◌≡◌, ◌∙◌, ℕ, ap, refl, subst, length, OnOk, Option, Some, None}
use Rattle.view_ports.specs.File.{settled, synced}
use Rattle.view_ports.specs.Disk.{MovesNone}
use Rattle.view_ports.specs.FolderCalls.{Changes, Passes}
use Rattle.view_ports.proofs.Told.{told_refl, told_map, told_then, told_back, told_pair}
use Rattle.view_ports.proofs.DiskRuns.{on_ok, none_refl}
use Rattle.gate_file.specs.Header.{slot_at, open_root, IsFit}
use Rattle.view_ports.specs.declared.file_name.FileName.{FileName}
use Rattle.gate_file.specs.declared.root.Root.{Root}
use Rattle.gate_file.specs.GateFile.{name_of}
use Rattle.gate_file.specs.Header.{newer}
use Rattle.gate_file.specs.Open.{found, found_newest}
use Rattle.gate_file.proofs.Stepped.{ended_err}
use Rattle.gate_file.proofs.Looks.{told_looked, told_none, told_none_then, SeenSame, found-same}
use Rattle.gate_file.proofs.gate.open.look.Goals as goal

pub returns-in_err-sync-clause-disk : goal.returns-in_err-sync-clause-disk
returns-in_err-sync-clause-disk g c =
    told_looked c.args.name c.sync.result (λ file now. OnOk c.from_residual.result (now ≡ settled file.seen)) (λ file now ok. ended_err c.from_residual.result (now ≡ settled file.seen) c.from_residual.ensures.0)
    (g.F.Folder.disk c.args.folder.now) (g.F.Folder.disk c.sync.new.self) (g.F.Folder.disk c.sync.new.self) (g.met.F.Folder.seen_may_stay c.args.folder.now) c.sync.ensures.disk (told_refl (g.F.Folder.disk c.sync.new.self) MovesNone (λ d. none_refl d))

pub returns-in_err-size-clause-disk : goal.returns-in_err-size-clause-disk
returns-in_err-size-clause-disk g c =
    told_looked c.args.name c.sync.result (λ file now. OnOk c.from_residual-in_err-size.result (now ≡ settled file.seen)) (λ file now ok. ended_err c.from_residual-in_err-size.result (now ≡ settled file.seen) c.from_residual-in_err-size.ensures.0)
    (g.F.Folder.disk c.args.folder.now) (g.F.Folder.disk c.sync.new.self) (g.F.Folder.disk c.len.new.self) (g.met.F.Folder.seen_may_stay c.args.folder.now) c.sync.ensures.disk (told_none (g.F.Folder.disk c.sync.new.self) (g.F.Folder.disk c.len.new.self) (g.F.Folder.disk c.len.new.self) c.len.ensures.disk)

pub returns-in_err-low-clause-disk : goal.returns-in_err-low-clause-disk
returns-in_err-low-clause-disk g c =
    told_looked c.args.name c.sync.result (λ file now. OnOk c.from_residual-in_err-low.result (now ≡ settled file.seen)) (λ file now ok. ended_err c.from_residual-in_err-low.result (now ≡ settled file.seen) c.from_residual-in_err-low.ensures.0)
    (g.F.Folder.disk c.args.folder.now) (g.F.Folder.disk c.sync.new.self) (g.F.Folder.disk c.read_slot.new.folder) (g.met.F.Folder.seen_may_stay c.args.folder.now) c.sync.ensures.disk (told_none_then (g.F.Folder.disk c.sync.new.self) (g.F.Folder.disk c.len.new.self) (g.F.Folder.disk c.read_slot.new.folder) (told_none (g.F.Folder.disk c.sync.new.self) (g.F.Folder.disk c.len.new.self) (g.F.Folder.disk c.len.new.self) c.len.ensures.disk) (told_none (g.F.Folder.disk c.len.new.self) (g.F.Folder.disk c.read_slot.new.folder) (g.F.Folder.disk c.read_slot.new.folder) c.read_slot.ensures.disk))

pub returns-in_err-high-clause-disk : goal.returns-in_err-high-clause-disk
returns-in_err-high-clause-disk g c =
    told_looked c.args.name c.sync.result (λ file now. OnOk c.from_residual-in_err-high.result (now ≡ settled file.seen)) (λ file now ok. ended_err c.from_residual-in_err-high.result (now ≡ settled file.seen) c.from_residual-in_err-high.ensures.0)
    (g.F.Folder.disk c.args.folder.now) (g.F.Folder.disk c.sync.new.self) (g.F.Folder.disk c.read_slot-2.new.folder) (g.met.F.Folder.seen_may_stay c.args.folder.now) c.sync.ensures.disk (told_none_then (g.F.Folder.disk c.sync.new.self) (g.F.Folder.disk c.read_slot.new.folder) (g.F.Folder.disk c.read_slot-2.new.folder) (told_none_then (g.F.Folder.disk c.sync.new.self) (g.F.Folder.disk c.len.new.self) (g.F.Folder.disk c.read_slot.new.folder) (told_none (g.F.Folder.disk c.sync.new.self) (g.F.Folder.disk c.len.new.self) (g.F.Folder.disk c.len.new.self) c.len.ensures.disk) (told_none (g.F.Folder.disk c.len.new.self) (g.F.Folder.disk c.read_slot.new.folder) (g.F.Folder.disk c.read_slot.new.folder) c.read_slot.ensures.disk)) (told_none (g.F.Folder.disk c.read_slot.new.folder) (g.F.Folder.disk c.read_slot-2.new.folder) (g.F.Folder.disk c.read_slot-2.new.folder) c.read_slot-2.ensures.disk))

pub returns-clause-disk : goal.returns-clause-disk
returns-clause-disk g c =
    told_looked c.args.name c.sync.result (λ file now. now ≡ settled file.seen) (λ file now ok. on_ok c.sync.result c.in_ok-sync.field-0 (now ≡ settled file.seen) c.in_ok-sync.was ok)
    (g.F.Folder.disk c.args.folder.now) (g.F.Folder.disk c.sync.new.self) (g.F.Folder.disk c.read_slot-2.new.folder) (g.met.F.Folder.seen_may_stay c.args.folder.now) c.sync.ensures.disk (told_none_then (g.F.Folder.disk c.sync.new.self) (g.F.Folder.disk c.read_slot.new.folder) (g.F.Folder.disk c.read_slot-2.new.folder) (told_none_then (g.F.Folder.disk c.sync.new.self) (g.F.Folder.disk c.len.new.self) (g.F.Folder.disk c.read_slot.new.folder) (told_none (g.F.Folder.disk c.sync.new.self) (g.F.Folder.disk c.len.new.self) (g.F.Folder.disk c.len.new.self) c.len.ensures.disk) (told_none (g.F.Folder.disk c.len.new.self) (g.F.Folder.disk c.read_slot.new.folder) (g.F.Folder.disk c.read_slot.new.folder) c.read_slot.ensures.disk)) (told_none (g.F.Folder.disk c.read_slot.new.folder) (g.F.Folder.disk c.read_slot-2.new.folder) (g.F.Folder.disk c.read_slot-2.new.folder) c.read_slot-2.ensures.disk))

pub returns-clause-found : goal.returns-clause-found
returns-clause-found g c =
    let name = c.args.name in
    let first = told_map (g.F.Folder.disk c.args.folder.now) (g.F.Folder.disk c.sync.new.self) (Changes name synced c.sync.result) (SeenSame name)
    (λ a b changes. ap (λ file. file.seen) (on_ok c.sync.result c.in_ok-sync.field-0 (b.now name ≡ synced (a.now name)) c.in_ok-sync.was changes.ok)) c.sync.ensures.disk in
    let second = told_then (g.F.Folder.disk c.args.folder.now) (g.F.Folder.disk c.sync.new.self) (g.F.Folder.disk c.len.new.self) (SeenSame name) Passes (SeenSame name) (λ a b c early late. ap (λ file. file.seen) (late.same name) ∙ early) first c.len.ensures.disk in
    let third = told_then (g.F.Folder.disk c.args.folder.now) (g.F.Folder.disk c.len.new.self) (g.F.Folder.disk c.read_slot.new.folder) (SeenSame name) Passes (SeenSame name) (λ a b c early late. ap (λ file. file.seen) (late.same name) ∙ early) second c.read_slot.ensures.disk in
    let size = told_back (g.F.Folder.disk c.args.folder.now) (g.F.Folder.disk c.sync.new.self) (λ d. c.in_ok-size.size ≡ length (d.now name).seen) (λ d. c.in_ok-size.size ≡ length (d.now name).seen) (SeenSame name)
    (λ a b same is. is ∙ ap length same) first c.in_ok-size.ensures.length in
    let low = told_back (g.F.Folder.disk c.args.folder.now) (g.F.Folder.disk c.len.new.self) (λ d. (c.in_ok-low.low ≡ open_root (slot_at (d.now name).seen 0)) × IsFit 0 (d.now name).seen) (λ d. (c.in_ok-low.low ≡ open_root (slot_at (d.now name).seen 0)) × IsFit 0 (d.now name).seen) (SeenSame name)
    (λ a b same is. subst (λ bytes. (c.in_ok-low.low ≡ open_root (slot_at bytes 0)) × IsFit 0 bytes) same is) second c.in_ok-low.ensures.root in
    let high = told_back (g.F.Folder.disk c.args.folder.now) (g.F.Folder.disk c.read_slot.new.folder) (λ d. (c.in_ok-high.high ≡ open_root (slot_at (d.now name).seen 4096)) × IsFit 4096 (d.now name).seen) (λ d. (c.in_ok-high.high ≡ open_root (slot_at (d.now name).seen 4096)) × IsFit 4096 (d.now name).seen) (SeenSame name)
    (λ a b same is. subst (λ bytes. (c.in_ok-high.high ≡ open_root (slot_at bytes 4096)) × IsFit 4096 bytes) same is) third c.in_ok-high.ensures.root in
    let both = told_pair (g.F.Folder.disk c.args.folder.now) (λ d. (c.in_ok-low.low ≡ open_root (slot_at (d.now name).seen 0)) × IsFit 0 (d.now name).seen) (λ d. (c.in_ok-high.high ≡ open_root (slot_at (d.now name).seen 4096)) × IsFit 4096 (d.now name).seen)
    (λ d. ((c.in_ok-low.low ≡ open_root (slot_at (d.now name).seen 0)) × IsFit 0 (d.now name).seen) × ((c.in_ok-high.high ≡ open_root (slot_at (d.now name).seen 4096)) × IsFit 4096 (d.now name).seen))
    (λ d a b. (a, b)) low high in
    told_pair (g.F.Folder.disk c.args.folder.now) (λ d. c.in_ok-size.size ≡ length (d.now name).seen)
    (λ d. ((c.in_ok-low.low ≡ open_root (slot_at (d.now name).seen 0)) × IsFit 0 (d.now name).seen) × ((c.in_ok-high.high ≡ open_root (slot_at (d.now name).seen 4096)) × IsFit 4096 (d.now name).seen))
    (λ d. (c.found_with.result ≡ found name (d.now name).seen) × IsFit 0 (d.now name).seen × IsFit 4096 (d.now name).seen)
    (λ d is slots. (c.found_with.ensures ∙ found-same name c.in_ok-size.size c.in_ok-low.low c.in_ok-high.high (d.now name).seen is slots.0.0 slots.1.0, slots.0.1, slots.1.1)) size both

-- a file is of its name
found_name : (name : FileName) (size : ℕ) (low high newest : Option Root) → name_of (found_newest name size low high newest) ≡ name
found_name name size low high None = refl
found_name name size low high (Some root) = refl

pub returns-clause-named : goal.returns-clause-named
returns-clause-named g c = ap name_of c.found_with.ensures ∙ found_name c.args.name c.in_ok-size.size c.in_ok-low.low c.in_ok-high.high (newer c.in_ok-low.low c.in_ok-high.high)
