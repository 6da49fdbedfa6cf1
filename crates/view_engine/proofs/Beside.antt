-- Where other files alone have changed, the documents are open as they were, and damaged where they were.
use Rattle.std.proofs.Common.{◌≡◌, ℕ, ap, sym, subst}
use Rattle.view_ports.specs.File.{File}
use Rattle.view_ports.specs.declared.file_name.FileName.{FileName}
use Rattle.view_ports.specs.declared.file_name.Stem.TheVariants.{Docs as DocsStem}
use Rattle.gate_file.specs.GateFile.{commits_of, name_of, root_of}
use Rattle.gate_file.proofs.Beside.{open_beside}
use Rattle.doc_file.specs.declared.docs.Docs.{Docs}
use Rattle.doc_file.specs.Docs.{bytes_in, entries_of, file_of, last_of, seq_of, IsDocsFile, IsOpen, IsSpoiled}
use Rattle.doc_file.specs.Held.{HoldsRoot}
use Rattle.view_engine.specs.Halts.{IsDamage}

module _ (docs : Docs) (old new : FileName → File) (same : (name : FileName) → IsDocsFile name → new name ≡ old name) (is_open : IsOpen docs old) where
  bytes_same : bytes_in docs old ≡ bytes_in docs new
  bytes_same = ap (λ (file : File). file.seen) (sym (same (name_of (file_of docs)) is_open.pair.own))

  pub open_beside_indexes : IsOpen docs new
  open_beside_indexes = record {
    pair = open_beside DocsStem old new same (file_of docs) is_open.pair;
    commits = is_open.commits;
    loaded = subst (λ bytes. HoldsRoot (root_of (file_of docs)) (commits_of (file_of docs)) bytes (seq_of docs) (entries_of docs)) bytes_same is_open.loaded;
  }

  pub damage_beside_indexes : (name : FileName) (at : ℕ) → IsDamage docs old name at → IsDamage docs new name at
  damage_beside_indexes name at damage = record {
    own = damage.own;
    id = damage.id;
    live = damage.live;
    spoiled = subst (λ bytes. IsSpoiled damage.id bytes (last_of docs damage.id) at) bytes_same damage.spoiled;
  }
