-- What is found at a place of a file, as a folder tells it.
use Rattle.std.proofs.Common.{◌≡◌, ℕ, ◌+◌, ◌-◌, ◌<◌, ◌≤◌, List, length, take, drop, Option, Some, None, Result, Ok, Err, sym, ap, ◌∙◌, subst, arith}
use Rattle.std.specs.Prelude.{IfOk}
use Rattle.std.proofs.lemmas.List.{drop-drop}
use Rattle.view_ports.specs.Disk.{Disk, IfTold, Tells}
use Rattle.view_ports.specs.FolderCalls.{Passes}
use Rattle.view_ports.specs.declared.file_name.FileName.{FileName}
use Rattle.view_ports.proofs.Told.{told_all, told_back, told_now, told_pair}
use Rattle.gate_file.specs.Header.{data_start}
use Rattle.node_file.specs.RecordLaws.{none_in_slots, none_past, whole_there}
use Rattle.node_file.specs.Records.{node_at, size_in}

module _ (now : Option (Disk FileName)) (name : FileName) (at : ℕ) where
  abbrev Seen : Disk FileName → List ℕ
  Seen disk = (disk.now name).seen

  -- no record stands before the slots end
  pub found_slots : at < data_start → IfTold now (λ d. None ≡ node_at (d.now name).seen at)
  found_slots before = told_all now (λ d. None ≡ node_at (d.now name).seen at) (λ d. sym (none_in_slots (Seen d) at before))

  -- nor where the file hasn't its length
  pub found_short : (size : ℕ) → size - at < 8 → IfTold now (λ d. size ≡ length (d.now name).seen) → IfTold now (λ d. None ≡ node_at (d.now name).seen at)
  found_short size short is = told_now now (λ d. size ≡ length (d.now name).seen) (λ d. None ≡ node_at (d.now name).seen at) (λ d same. sym (none_past (Seen d) at (omega arith))) is

  -- nor where it has fewer bytes behind it
  pub found_cut : (size count : ℕ) → at + 8 ≤ size → size - (at + 8) < count → IfTold now (λ d. size ≡ length (d.now name).seen) → IfTold now (λ d. Some count ≡ Some (size_in (drop at (d.now name).seen)))
      → IfTold now (λ d. None ≡ node_at (d.now name).seen at)
  found_cut size count within cut is says =
      told_pair now (λ d. size ≡ length (d.now name).seen) (λ d. Some count ≡ Some (size_in (drop at (d.now name).seen))) (λ d. None ≡ node_at (d.now name).seen at)
      (λ d same said. let n : count ≡ size_in (drop at (Seen d)) = cc in sym (none_past (Seen d) at (omega arith))) is says

  -- and a whole record is read
  pub found_whole : {T E : Type 0} (later : Option (Disk FileName)) (result : Result T E) (items : T → Option (List ℕ)) (size count : ℕ) → data_start ≤ at → at + 8 ≤ size → count ≤ size - (at + 8)
      → IfTold now (λ d. size ≡ length (d.now name).seen) → IfTold now (λ d. Some count ≡ Some (size_in (drop at (d.now name).seen))) → Tells now later Passes
      → IfTold later (λ d. IfOk result (λ value. items value ≡ Some (take count (drop (at + 8) (d.now name).seen))))
      → IfTold now (λ d. IfOk result (λ value. items value ≡ node_at (d.now name).seen at))
  found_whole {T} {E} later result items size count behind within whole is says passes read =
      told_pair now (λ d. size ≡ length (d.now name).seen × (Some count ≡ Some (size_in (drop at (d.now name).seen))))
      (λ d. IfOk result (λ value. items value ≡ Some (take count (drop (at + 8) (d.now name).seen))))
      (λ d. IfOk result (λ value. items value ≡ node_at (d.now name).seen at))
      (λ d known got. there d result known.0 known.1 got)
      (told_pair now (λ d. size ≡ length (d.now name).seen) (λ d. Some count ≡ Some (size_in (drop at (d.now name).seen))) (λ d. (size ≡ length (d.now name).seen) × (Some count ≡ Some (size_in (drop at (d.now name).seen)))) (λ d a b. (a, b)) is says)
      (told_back now later (λ d. IfOk result (λ value. items value ≡ Some (take count (drop (at + 8) (d.now name).seen))))
      (λ d. IfOk result (λ value. items value ≡ Some (take count (drop (at + 8) (d.now name).seen)))) Passes
      (λ a b passed got. subst (λ file. IfOk result (λ value. items value ≡ Some (take count (drop (at + 8) file.seen)))) (passed.same name) got) passes read)
    where
      there : (d : Disk FileName) (result : Result T E) → size ≡ length (d.now name).seen → Some count ≡ Some (size_in (drop at (d.now name).seen)) → IfOk result (λ value. items value ≡ Some (take count (drop (at + 8) (d.now name).seen)))
          → IfOk result (λ value. items value ≡ node_at (d.now name).seen at)
      there d (Err fault) same said got = tt
      there d (Ok value) same said got =
          let n : count ≡ size_in (drop at (Seen d)) = cc in
          got ∙ sym (whole_there (Seen d) at (take count (drop (at + 8) (Seen d)))
          (record { behind = behind; within = omega arith; is = ap (λ k. take k (drop 8 (drop at (Seen d)))) (sym n) ∙ ap (take count) (drop-drop 8 at (Seen d)) }))
