-- What two calls say that change no file.
use Rattle.std.proofs.Common.{◌≡◌, ℕ, List, Option, None, Some, ap, sym, subst}
use Rattle.view_ports.specs.Disk.{Disk, IfTold, MovesNone, Tells}
use Rattle.view_ports.specs.declared.file_name.FileName.{FileName}
use Rattle.view_ports.proofs.DiskRuns.{none_same}
use Rattle.gate_file.specs.GateFile.{name_of}
use Rattle.doc_file.specs.declared.docs.Docs.{Docs}
use Rattle.doc_file.specs.Docs.{bytes_in, file_of, last_of, IsAt, IsSpoiled}
use Rattle.design_docs.specs.History.{Write}
use Rattle.view_engine.specs.Halts.{IsDamage}
use Rattle.view_engine.proofs.Unmoved.{IsAt-none}

module _ (docs : Docs) (old new : Disk FileName) (moves : MovesNone old new) where
  abbrev own : FileName
  own = name_of (file_of docs)

  bytes_same : bytes_in docs old.now ≡ bytes_in docs new.now
  bytes_same = ap (λ file. file.seen) (sym (none_same old new moves own))

  pub damage_back : (name : FileName) (at : ℕ) → IsDamage docs new.now name at → IsDamage docs old.now name at
  damage_back name at damage = record {
    own = damage.own;
    id = damage.id;
    live = damage.live;
    spoiled = subst (λ bytes. IsSpoiled damage.id bytes (last_of docs damage.id) at) (sym bytes_same) damage.spoiled;
  }

-- what two calls that change no file say of the documents
pub told_known : (x y : Option (Disk FileName)) (docs : Docs) (history : List Write) (P Q : Type 0) → IfTold x (λ d. IsAt docs d.now history) → Tells x y MovesNone
    → IfTold x (λ d. IsAt docs d.now history → P) → IfTold y (λ d. IsAt docs d.now history → Q) → IfTold x (λ d. P × Q)
told_known None None docs history P Q at moves first second = tt
told_known None (Some b) docs history P Q at moves first second = absurd moves
told_known (Some a) None docs history P Q at moves first second = absurd moves
told_known (Some a) (Some b) docs history P Q at moves first second = (first at, second (IsAt-none docs history a b at moves))
