-- Documents that are kept as they were stand where they stood.
use Rattle.std.proofs.Common.{List, sym, ap, subst, ◌∙◌}
use Rattle.view_ports.specs.File.{File}
use Rattle.view_ports.specs.declared.file_name.FileName.{FileName}
use Rattle.gate_file.specs.declared.gate.GateFile.{GateFile}
use Rattle.view_ports.specs.declared.file_name.Stem.TheVariants.{Docs as DocsStem}
use Rattle.gate_file.specs.GateFile.{commits_in, commits_of, name_of, root_of}
use Rattle.gate_file.specs.Pair.{IsOpenPair}
use Rattle.doc_file.specs.declared.docs.Docs.{Docs}
use Rattle.doc_file.specs.declared.entry.Entry.{Entry}
use Rattle.doc_file.specs.Docs.{bytes_in, entries_of, file_of, seq_of, IsAt, IsLoaded, IsOpen, IsSame}
use Rattle.doc_file.specs.Held.{HoldsRoot, KeepsEach}
use Rattle.design_docs.specs.History.{Write}

module _ (old new : Docs) (files : FileName → File) (same : IsSame old new) where
  loaded : IsOpen old files → IsLoaded new files
  loaded is_open =
      subst (λ (g : GateFile). HoldsRoot (root_of g) (commits_of g) (files (name_of g)).seen (seq_of new) (entries_of new)) (sym same.file)
      (subst (λ n. HoldsRoot (root_of (file_of old)) (commits_of (file_of old)) (bytes_in old files) n (entries_of new)) (sym same.seq)
      (subst (λ (entries : List Entry). HoldsRoot (root_of (file_of old)) (commits_of (file_of old)) (bytes_in old files) (seq_of old) entries) (sym same.entries) is_open.loaded))

  pub IsOpen-same : IsOpen old files → IsOpen new files
  IsOpen-same is_open = record {
    pair = subst (λ (g : GateFile). IsOpenPair DocsStem g files) (sym same.file) is_open.pair;
    commits = ap commits_of same.file ∙ is_open.commits ∙ ap (λ (g : GateFile). commits_in (root_of g)) (sym same.file);
    loaded = loaded is_open;
  }

  pub IsAt-same : (history : List Write) → IsAt old files history → IsAt new files history
  IsAt-same history at = record {
    is_open = IsOpen-same at.is_open;
    count = same.seq ∙ at.count;
    each = subst (λ (g : GateFile). KeepsEach history (files (name_of g)).seen (entries_of new)) (sym same.file)
        (subst (λ (entries : List Entry). KeepsEach history (bytes_in old files) entries) (sym same.entries) at.each);
    stored = at.stored;
  }
