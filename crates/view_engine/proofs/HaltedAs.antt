-- The halts of calls on documents, and the faults that they come from.
use Rattle.std.proofs.Common.{◌≡◌, ◌∙◌, ℕ, List, Bool, true, false, refl, ap, sym, subst}
use Rattle.view_ports.specs.File.{File}
use Rattle.view_ports.specs.declared.file_name.FileName.{FileName}
use Rattle.gate_file.specs.GateFile.{name_of}
use Rattle.doc_file.specs.declared.docs.Docs.{Docs}
use Rattle.doc_file.specs.Changes.{IsSpoiledAfter}
use Rattle.doc_file.specs.Docs.{bytes_in, file_of, is_deleted, last_of, IsSpoiled}
use Rattle.view_engine.specs.Halts.{IsDamage}

-- ---- where the damage is

pub spoiled_damage : (docs : Docs) (files : FileName → File) (name : FileName) (id : List ℕ) (at : ℕ) → is_deleted (last_of docs id) ≡ false
    → (name ≡ name_of (file_of docs)) × IsSpoiled id (bytes_in docs files) (last_of docs id) at → IsDamage docs files name at
spoiled_damage docs files name id at live spoiled = record { own = spoiled.0; id = id; live = live; spoiled = spoiled.1 }

pub after_damage : (docs : Docs) (files : FileName → File) (name : FileName) (seq at : ℕ) → (name ≡ name_of (file_of docs)) × IsSpoiledAfter docs (bytes_in docs files) seq at → IsDamage docs files name at
after_damage docs files name seq at spoiled =
    let id = spoiled.1.id in
    spoiled_damage docs files name id at (ap is_deleted spoiled.1.found ∙ spoiled.1.live)
    (spoiled.0, subst (λ found. IsSpoiled id (bytes_in docs files) found at) (sym spoiled.1.found) spoiled.1.spoiled)

-- a last write that isn't met as a deletion is none
pub not_deleted : (deleted : Bool) → (deleted ≡ true → ⊥) → deleted ≡ false
not_deleted true never = absurd (never refl)
not_deleted false never = refl
