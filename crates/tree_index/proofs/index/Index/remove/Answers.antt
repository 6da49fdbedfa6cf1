-- The pair is opened, and the side that was taken is cleared.
use Rattle.std.specs.Prelude.{◌≡◌, ◌⊎◌, Option, None, IfOk, Result, Err}
use Rattle.std.proofs.Common.{subst, inl, rules}
use Rattle.view_ports.specs.Disk.{Disk, IfTold, Moves, Tells}
use Rattle.view_ports.specs.File.{File}
use Rattle.view_ports.specs.declared.file_name.FileName.{FileName}
use Rattle.view_ports.specs.declared.file_name.Stem.{Stem}
use Rattle.view_ports.specs.declared.file_name.Stem.TheVariants.{View}
use Rattle.view_ports.proofs.DiskRuns.{moves_wider, on_ok}
use Rattle.view_ports.proofs.Told.{told_all, told_given, told_map, told_now, told_pair, told_then}
use Rattle.gate_file.specs.declared.fault.GateFault.TheVariants.{Damaged}
use Rattle.gate_file.specs.declared.gate.GateFile.{GateFile}
use Rattle.gate_file.specs.GateFile.{name_of}
use Rattle.gate_file.specs.Open.{opened, AreFitSlots, IsOpened, WhileOpening}
use Rattle.gate_file.specs.Opens.{Empties}
use Rattle.gate_file.proofs.Emptied.{failed_done, opened_by, removed_empty}
use Rattle.gate_file.proofs.Opened.{undamaged_seen}
use Rattle.tree_index.specs.Held.{HoldsIndex, HoldsPicture, IsFileOf, OnlyOpens, Stands}
use Rattle.tree_index.specs.Removes.{AreEmpty}
use Rattle.tree_index.proofs.Opened.{opening_only, removed_only}
use Rattle.tree_index.proofs.Opening.{stands_failed}
use Rattle.tree_index.proofs.Removing.{removed}
use Rattle.tree_index.proofs.index.Index.remove.Goals as goal

pub returns-in_err-file : goal.returns-in_err-file
returns-in_err-file g c =
    let old = g.F.Folder.disk c.args.folder.now in
    let new = g.F.Folder.disk c.open.new.folder in
    let stem : Stem = View c.args.sig in
    let ends : (FileName → File) → (FileName → File) → Type 0 = λ old files. IfOk c.open.result (λ gate. IsOpened gate old files) in
    record {
      stands = λ functions views picture holds. told_map old new _ _
          (λ a b moved. moves_wider (IsFileOf stem) (IsFileOf stem) (λ image. Stands functions views stem image picture) (λ image. Stands functions views stem image picture ⊎ Stands functions views stem image None) _ _ a b
          (λ n is. is) (λ image framed. inl framed.inside) (λ others ended. failed_done c.from_residual.result (HoldsIndex functions views stem b.now None) c.from_residual.ensures.0) moved)
          (stands_failed stem functions views c.from_residual.result (λ files done. HoldsIndex functions views stem files None) old new picture ends c.from_residual.ensures.0 holds c.open.ensures.disk);
      sound = λ functions views picture. told_now old _ _
          (λ d damaged holds n at failed. let was : c.open.result ≡ Err (Damaged n at) = search rules in undamaged_seen stem (HoldsPicture functions views) d.now picture n at holds.seen (damaged n at was)) c.open.ensures.damaged;
      empty = told_all new _ (λ d. failed_done c.from_residual.result (AreEmpty stem d.now) c.from_residual.ensures.0);
      damaged = told_now old _ _ (λ d damaged n at failed. let was : c.open.result ≡ Err (Damaged n at) = search rules in damaged n at was) c.open.ensures.damaged;
      files = opening_only stem (λ files. Unit {0}) old new ends c.open.ensures.disk;
      faults = search rules;
      cause = search rules;
      reads = search rules;
    }

-- what was opened is cleared
cleared_files : {E : Type 0} (stem : Stem) (file : GateFile) (result : Result (Unit {0}) E) (old mid new : Option (Disk FileName)) → IfTold old (λ d. file ≡ opened stem d.now) → IfTold old (λ d. AreFitSlots stem d.now)
    → Tells old mid (λ a b. Moves (IsFileOf stem) (WhileOpening stem a.now) (IsOpened file a.now) a b) → Tells mid new (Empties (name_of file) result) → Tells old new (OnlyOpens stem (λ files. Unit {0}))
cleared_files stem file result old mid new file_is fit opens clears =
    told_then old mid new (λ a b. ((file ≡ opened stem a.now) × AreFitSlots stem a.now) × Moves (IsFileOf stem) (WhileOpening stem a.now) (IsOpened file a.now) a b) (Empties (name_of file) result) (OnlyOpens stem (λ files. Unit {0}))
    (λ a b d known clears. removed_only stem file result a b d known.0 known.1 clears)
    (told_given old mid (λ d. (file ≡ opened stem d.now) × AreFitSlots stem d.now) (λ a b. Moves (IsFileOf stem) (WhileOpening stem a.now) (IsOpened file a.now) a b) _ (λ a b known moved. (known, moved))
    (told_pair old (λ d. file ≡ opened stem d.now) (λ d. AreFitSlots stem d.now) (λ d. (file ≡ opened stem d.now) × AreFitSlots stem d.now) (λ d is fits. (is, fits)) file_is fit) opens)
    clears

pub returns-in_err-clear : goal.returns-in_err-clear
returns-in_err-clear g c =
    let old = g.F.Folder.disk c.args.folder.now in
    let mid = g.F.Folder.disk c.open.new.folder in
    let new = g.F.Folder.disk c.clear.new.folder in
    let stem : Stem = View c.args.sig in
    let file = c.in_ok-file.file in
    let clears : Tells mid new (Empties (name_of file) c.clear.result) = subst (λ (n : FileName). Tells mid new (Empties n c.clear.result)) c.name.ensures c.clear.ensures.disk in
    let opens = opened_by stem file c.open.result c.in_ok-file.was old mid c.open.ensures.disk in
    record {
      stands = λ functions views picture holds. told_map old new _ _
          (λ a b moved. record { moments = moved.moments; others = moved.others; ended = failed_done c.from_residual-in_err-clear.result (HoldsIndex functions views stem b.now None) c.from_residual-in_err-clear.ensures.0 })
          (removed functions views stem file picture c.clear.result old mid new c.in_ok-file.ensures.opened opens clears holds);
      sound = λ functions views picture. told_all old _ (λ d holds n at failed. let no : ⊥ = search rules in no);
      empty = told_all new _ (λ d. failed_done c.from_residual-in_err-clear.result (AreEmpty stem d.now) c.from_residual-in_err-clear.ensures.0);
      damaged = told_all old _ (λ d n at failed. let no : ⊥ = search rules in absurd no);
      files = cleared_files stem file c.clear.result old mid new c.in_ok-file.ensures.opened c.in_ok-file.ensures.sound opens clears;
      faults = search rules;
      cause = search rules;
      reads = search rules;
    }

pub returns : goal.returns
returns g c =
    let old = g.F.Folder.disk c.args.folder.now in
    let mid = g.F.Folder.disk c.open.new.folder in
    let new = g.F.Folder.disk c.clear.new.folder in
    let stem : Stem = View c.args.sig in
    let file = c.in_ok-file.file in
    let clears : Tells mid new (Empties (name_of file) c.clear.result) = subst (λ (n : FileName). Tells mid new (Empties n c.clear.result)) c.name.ensures c.clear.ensures.disk in
    let opens = opened_by stem file c.open.result c.in_ok-file.was old mid c.open.ensures.disk in
    record {
      stands = λ functions views picture holds. told_map old new _ _
          (λ a b moved. record { moments = moved.moments; others = moved.others; ended = on_ok c.clear.result c.in_ok-clear.field-0 (HoldsIndex functions views stem b.now None) c.in_ok-clear.was moved.ended })
          (removed functions views stem file picture c.clear.result old mid new c.in_ok-file.ensures.opened opens clears holds);
      sound = λ functions views picture. told_all old _ (λ d holds n at failed. let no : ⊥ = search rules in no);
      empty = told_now new _ _ (λ d done. on_ok c.clear.result c.in_ok-clear.field-0 (AreEmpty stem d.now) c.in_ok-clear.was done)
          (removed_empty stem file c.clear.result old mid new c.in_ok-file.ensures.named opens clears);
      damaged = told_all old _ (λ d n at failed. let no : ⊥ = search rules in absurd no);
      files = cleared_files stem file c.clear.result old mid new c.in_ok-file.ensures.opened c.in_ok-file.ensures.sound opens clears;
      faults = search rules;
      cause = search rules;
      reads = search rules;
    }
