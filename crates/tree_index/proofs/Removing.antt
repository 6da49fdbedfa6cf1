-- An index that is removed, and what it stands for meanwhile.
use Rattle.std.proofs.Common.{◌≡◌, ◌⊎◌, ℕ, List, Option, None, Result, OnOk, sym, subst, inl}
use Rattle.view_ports.specs.Disk.{Disk, IfTold, Moves, Tells}
use Rattle.view_ports.specs.File.{File}
use Rattle.view_ports.specs.Functions.{Functions}
use Rattle.view_ports.specs.declared.file_name.FileName.{FileName}
use Rattle.view_ports.specs.declared.file_name.Stem.{Stem}
use Rattle.view_ports.proofs.DiskRuns.{moves_then}
use Rattle.view_ports.proofs.Told.{told_given, told_then}
use Rattle.gate_file.specs.declared.gate.GateFile.{GateFile}
use Rattle.gate_file.specs.GateFile.{name_of, root_of}
use Rattle.gate_file.specs.Open.{opened, IsOpened, WhileOpening}
use Rattle.gate_file.specs.Opens.{Empties}
use Rattle.gate_file.specs.Pair.{IsOpenFile, durable_bytes}
use Rattle.gate_file.proofs.Opened.{opened_open, opened_seen, opening_each}
use Rattle.gate_file.proofs.Published.{all_durable, file_of_pair}
use Rattle.design_docs.specs.declared.design.View.{View}
use Rattle.view_model.specs.Picture.{Picture}
use Rattle.tree_index.specs.Held.{HoldsIndex, HoldsPicture, IsFileOf, Stands}
use Rattle.tree_index.proofs.Carried.{picture_of_root}
use Rattle.tree_index.proofs.Emptying.{clear_file}

module _ (functions : Option Functions) (views : List View) (stem : Stem) (gate : GateFile) (picture : Option Picture) where
  abbrev IsThere : (FileName → File) → Type 0
  IsThere files = IsOpenFile stem gate files × HoldsPicture functions views (root_of gate) (durable_bytes gate files) picture

  -- the pair that was opened stands for what the files stood for
  opens : (old mid : Option (Disk FileName)) → IfTold old (λ d. gate ≡ opened stem d.now) → Tells old mid (λ a b. Moves (IsFileOf stem) (WhileOpening stem a.now) (IsOpened gate a.now) a b)
      → IfTold old (λ d. HoldsIndex functions views stem d.now picture) → Tells old mid (Moves (IsFileOf stem) (λ image. Stands functions views stem image picture) IsThere)
  opens old mid gate_is moves holds =
      let known : (FileName → File) → (FileName → File) → Type 0 = λ old files. (gate ≡ opened stem old) × IsOpened gate old files in
      opening_each stem (HoldsPicture functions views) (picture_of_root functions views) old mid (λ files. HoldsIndex functions views stem files picture) picture known IsThere (λ files each. each)
      (λ a b is ended.
      let pair = opened_open stem gate a.now b.now ended.0 ended.1 in (
        file_of_pair stem gate b.now pair,
        subst (λ bs. HoldsPicture functions views (root_of gate) bs picture) (sym (all_durable stem gate b.now pair)) (opened_seen stem gate a.now b.now ended.0 ended.1 (HoldsPicture functions views) (picture_of_root functions views) picture is.seen),
      )) holds
      (told_given old mid (λ d. gate ≡ opened stem d.now) (λ a b. Moves (IsFileOf stem) (WhileOpening stem a.now) (IsOpened gate a.now) a b) (λ a b. Moves (IsFileOf stem) (WhileOpening stem a.now) (known a.now) a b)
      (λ a b file_is moved. record { moments = moved.moments; others = moved.others; ended = (file_is, moved.ended) }) gate_is moves)

  -- a crash leaves the picture or none, and in the end there is none
  pub removed : {E : Type 0} (result : Result (Unit {0}) E) (old mid new : Option (Disk FileName)) → IfTold old (λ d. gate ≡ opened stem d.now)
      → Tells old mid (λ a b. Moves (IsFileOf stem) (WhileOpening stem a.now) (IsOpened gate a.now) a b) → Tells mid new (Empties (name_of gate) result) → IfTold old (λ d. HoldsIndex functions views stem d.now picture)
      → Tells old new (Moves (IsFileOf stem) (λ image. Stands functions views stem image picture ⊎ Stands functions views stem image None) (λ files. OnOk result (HoldsIndex functions views stem files None)))
  removed result old mid new gate_is moves clears holds =
      let leaves : (FileName → List ℕ) → Type 0 = λ image. Stands functions views stem image picture ⊎ Stands functions views stem image None in
      let ends : (FileName → File) → Type 0 = λ files. OnOk result (HoldsIndex functions views stem files None) in
      told_then old mid new (Moves (IsFileOf stem) (λ image. Stands functions views stem image picture) IsThere) (Empties (name_of gate) result) (Moves (IsFileOf stem) leaves ends)
      (λ a b d first second. moves_then (IsFileOf stem) (λ image. Stands functions views stem image picture) leaves leaves IsThere ends ends a b d
      (λ image stands. inl stands) (λ there image either. either) (λ there done. done) first
      (clear_file functions views stem gate b d picture result first.ended.0 first.ended.1 second))
      (opens old mid gate_is moves holds) clears
