-- The last writes are listed, or a fault says why not.
use Rattle.std.specs.Prelude.{min}
use Rattle.std.proofs.Common.{◌≡◌, ◌<◌, ◌∙◌, ℕ, List, length, map, take, Result, Err, inr, sym, ap, subst, arith}
use Rattle.std.proofs.lemmas.List.{length-map, length-take, take_all}
use Rattle.view_ports.specs.Faults.{CountsFor}
use Rattle.view_ports.specs.Disk.{IfTold}
use Rattle.view_ports.specs.File.{File}
use Rattle.view_ports.specs.declared.file_name.FileName.{FileName}
use Rattle.view_ports.specs.declared.folder.Folder.{Ghosts as Folders}
use Rattle.view_ports.proofs.Told.{told_now, told_pair}
use Rattle.gate_file.specs.GateFile.{name_of}
use Rattle.gate_file.specs.declared.fault.GateFault.TheVariants as gate
use Rattle.doc_file.specs.declared.docs.Docs.{Docs}
use Rattle.doc_file.specs.declared.fault.DocFault.{DocFault}
use Rattle.doc_file.specs.declared.fault.DocFault.TheVariants as doc
use Rattle.doc_file.specs.Changes.{IsSpoiledAfter}
use Rattle.doc_file.specs.Docs.{bytes_in, file_of, is_deleted, IsAt as AreAt, IsLoaded, IsOpen as AreOpen, IsSpoiled}
use Rattle.design_docs.specs.History.{Write}
use Rattle.doc_file.specs.Reads.{FindsDamage, FindsNoDamage, IsReadFault}
use Rattle.view_engine.specs.declared.halt.Halt.{Halt}
use Rattle.view_engine.specs.declared.halt.Halt.TheVariants.{Refused, Stopped}
use Rattle.view_engine.specs.declared.halt.StepFault.{StepFault}
use Rattle.view_engine.specs.declared.halt.StepFault.TheVariants.{NoMemory}
use Rattle.view_engine.specs.Disks.{IfStopped, IsReadReason}
use Rattle.view_engine.specs.Halts.{fault_of, halted_as, IsDamage}
use Rattle.view_engine.proofs.OnDisk.{read_reason}
use Rattle.view_engine.proofs.Reading.{not_full_get}

-- a list that is shorter than what was asked for is whole
pub whole_list : {A B : Type 0} (f : A → B) (items : List A) (n : ℕ) (all : List B) → map f items ≡ take n all → length items < n → map f items ≡ all
whole_list f items n all same short =
    let lengths : length (take n all) ≡ length items = sym (ap length same) ∙ length-map items f in
    let taken : length (take n all) ≡ min n (length all) = length-take n all in
    same ∙ take_all n all (omega (arith, lengths, taken, short))

-- a fault that is no refusal keeps its reason
stopped_reason : (P : StepFault → Type 0) → P NoMemory → (halt : Halt) → IfStopped P halt → P (fault_of halt)
stopped_reason P none (Refused refusal) is = none
stopped_reason P none (Stopped fault) is = is

-- the body of a last write that isn't there is damage
spoiled_is_damage : (docs : Docs) (files : FileName → File) (name : FileName) (at : ℕ) → name ≡ name_of (file_of docs) → IsSpoiledAfter docs (bytes_in docs files) 0 at → IsDamage docs files name at
spoiled_is_damage docs files name at own spoiled = record {
  own = own;
  id = spoiled.id;
  live = ap is_deleted spoiled.found ∙ spoiled.live;
  spoiled = subst (λ last. IsSpoiled spoiled.id (bytes_in docs files) last at) (sym spoiled.found) spoiled.spoiled;
}

abbrev failed : (T : Type 0) → DocFault → Result T DocFault
failed T fault = Err fault

module _ {F : Type 0} (T : Type 0) (f : Folders F) (docs : Docs) (old new : F) (is_open : IfTold (f.disk old) (λ d. AreOpen docs d.now)) where
  pub why_unlisted : (fault : DocFault) → CountsFor (doc.Gate gate.DiskFault) (f.faults old) (f.faults new) (failed T fault)
      → IfTold (f.disk old) (λ d. IsLoaded docs d.now → FindsDamage (λ name at. (name ≡ name_of (file_of docs)) × IsSpoiledAfter docs (bytes_in docs d.now) 0 at) (failed T fault))
      → ((history : List Write) → IfTold (f.disk old) (λ d. AreAt docs d.now history → FindsNoDamage (failed T fault)))
      → IsReadFault fault → IsReadReason f docs old new (fault_of (halted_as fault))
  why_unlisted fault cause damaged sound faults =
      stopped_reason (IsReadReason f docs old new) tt (halted_as fault)
      (read_reason f docs old new fault cause.failed (λ n at is. (
        told_pair (f.disk old) (λ d. AreOpen docs d.now) (λ d. IsLoaded docs d.now → FindsDamage (λ name at. (name ≡ name_of (file_of docs)) × IsSpoiledAfter docs (bytes_in docs d.now) 0 at) (failed T fault))
            (λ d. IsDamage docs d.now n at) (λ d here found. let there = found here.loaded n at (ap Err is) in spoiled_is_damage docs d.now n at there.0 there.1) is_open damaged,
        λ world. told_now (f.disk old) (λ d. AreAt docs d.now world.history → FindsNoDamage (failed T fault)) (λ d. AreAt docs d.now world.history → ⊥)
            (λ d never here. never here n at (ap Err is)) (sound world.history),
      )) (not_full_get fault (inr (inr faults))))
