-- An open object is at the history whose writes its root holds, and each image that a crash may leave stands for it.
use Rattle.std.proofs.Common.{◌≡◌, ℕ, List, length, Option, Some, None, sym, ◌∙◌, subst}
use Rattle.std.specs.Prelude.{IfSome}
use Rattle.view_ports.specs.Disk.{IsImageOf}
use Rattle.view_ports.specs.File.{File}
use Rattle.view_ports.specs.declared.file_name.FileName.{FileName}
use Rattle.view_ports.specs.declared.file_name.Stem.TheVariants.{Docs as DocsStem}
use Rattle.gate_file.specs.declared.root.Root.{Root}
use Rattle.gate_file.specs.GateFile.{commits_in, commits_of, root_of}
use Rattle.gate_file.proofs.Published.{image_now as image_of_pair, open_holds}
use Rattle.doc_file.specs.declared.docs.Docs.{Docs}
use Rattle.doc_file.specs.declared.entry.Entry.{Entry}
use Rattle.doc_file.specs.Docs.{bytes_in, entries_of, file_of, seq_of, HoldsHistory, IsAt, IsOpen}
use Rattle.doc_file.specs.Held.{HoldsRoot, HoldsWrites, KeepsEach, Stands}
use Rattle.design_docs.specs.History.{Write}
use Rattle.doc_file.proofs.Carried.{writes_of_root}
use Rattle.doc_file.proofs.Entries.{record_bytes-one}

-- the number of a root that is kept is that of its commit
module _ (bytes : List ℕ) (seq : ℕ) (entries : List Entry) where
  pub counted_own : (root : Option Root) (commits : ℕ) → IfSome root (λ r. r.number ≡ commits) → HoldsRoot root commits bytes seq entries → HoldsRoot root (commits_in root) bytes seq entries
  counted_own None commits counted holds = holds
  counted_own (Some root) commits counted holds = subst (λ n. HoldsRoot (Some root) n bytes seq entries) (sym counted) holds

  pub counted_kept : (root : Option Root) (commits : ℕ) → IfSome root (λ r. r.number ≡ commits) → HoldsRoot root (commits_in root) bytes seq entries → HoldsRoot root commits bytes seq entries
  counted_kept None commits counted holds = holds
  counted_kept (Some root) commits counted holds = subst (λ n. HoldsRoot (Some root) n bytes seq entries) counted holds

-- a root record spells one thing
spelled_one : (root : Option Root) (commits other : ℕ) (bytes : List ℕ) (seq seq' : ℕ) (entries entries' : List Entry) → HoldsRoot root commits bytes seq entries → HoldsRoot root other bytes seq' entries' → (seq ≡ seq') × (entries ≡ entries')
spelled_one None commits other bytes seq seq' entries entries' holds holds' = (holds.0 ∙ sym holds'.0, holds.1 ∙ sym holds'.1)
spelled_one (Some root) commits other bytes seq seq' entries entries' holds holds' = record_bytes-one seq seq' entries entries' holds.0 holds'.0 (holds.2.same ∙ sym holds'.2.same)

module _ (docs : Docs) (files : FileName → File) (open_now : IsOpen docs files) (history : List Write) where
  pub at_writes : HoldsWrites (root_of (file_of docs)) (bytes_in docs files) history → IsAt docs files history
  at_writes holds =
      let root = root_of (file_of docs) in
      let one = spelled_one root (commits_of (file_of docs)) (commits_in root) (bytes_in docs files) (seq_of docs) (length history) (entries_of docs) holds.entries open_now.loaded holds.holds in
      record {
        is_open = open_now;
        count = one.0;
        each = subst (KeepsEach history (bytes_in docs files)) (sym one.1) holds.each;
        stored = holds.stored;
      }

  pub writes_at : IsAt docs files history → HoldsWrites (root_of (file_of docs)) (bytes_in docs files) history
  writes_at at = record {
    entries = entries_of docs;
    holds = subst (λ n. HoldsRoot (root_of (file_of docs)) (commits_in (root_of (file_of docs))) (bytes_in docs files) n (entries_of docs)) at.count
        (counted_own (bytes_in docs files) (seq_of docs) (entries_of docs) (root_of (file_of docs)) (commits_of (file_of docs)) open_now.pair.keeps.counted open_now.loaded);
    each = at.each;
    stored = at.stored;
  }

  -- each image that a crash may leave now stands for the history
  pub image_now : IsAt docs files history → (image : FileName → List ℕ) → IsImageOf files image → Stands image history
  image_now at image is = image_of_pair DocsStem (file_of docs) files open_now.pair HoldsWrites writes_of_root history (writes_at at) image (λ n of_pair. is n)

  -- the files hold the history
  pub at_holds : IsAt docs files history → HoldsHistory files history
  at_holds at = open_holds DocsStem (file_of docs) files open_now.pair HoldsWrites writes_of_root history (writes_at at)
