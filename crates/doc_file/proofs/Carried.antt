-- What a root holds is carried by each image that has all of the bytes behind the slots.
use Rattle.std.proofs.Common.{ℕ, ◌≤◌, List, [], ◌∷◌, Option, Some, None, length, refl, arith}
use Rattle.json_terms.specs.Json.{Json}
use Rattle.term_codec.specs.Spelling.{spelling}
use Rattle.gate_file.specs.declared.root.Root.{Root}
use Rattle.gate_file.specs.Header.{data_start}
use Rattle.gate_file.specs.Pair.{IsOfRoot}
use Rattle.gate_file.specs.Shown.{HasAll}
use Rattle.gate_file.proofs.FileFacts.{part_carried}
use Rattle.doc_file.specs.declared.entry.LastWrite.{LastWrite}
use Rattle.doc_file.specs.declared.entry.Entry.{Entry}
use Rattle.doc_file.specs.Record.{record_bytes}
use Rattle.design_docs.specs.History.{Write, last_write}
use Rattle.doc_file.specs.Held.{HoldsRoot, HoldsWrites, KeepsLast, KeepsDocument, KeepsEach, SpellsRoot, find_last}

module _ (bytes image : List ℕ) (has : HasAll bytes image) where
  carried_document : (id : List ℕ) (last : LastWrite) (document : Option Json) → KeepsDocument id bytes last document → KeepsDocument id image last document
  carried_document id last None keeps = keeps
  carried_document id last (Some document) keeps =
      (keeps.0, keeps.1, record { body = keeps.2.body; spelled = part_carried bytes image has last.offset last.length (spelling document) keeps.1 keeps.2.spelled })

  carried_keeps : (history : List Write) (last : Option LastWrite) (write : Option Write) → KeepsLast history bytes last write → KeepsLast history image last write
  carried_keeps history None None keeps = tt
  carried_keeps history None (Some write) keeps = absurd keeps
  carried_keeps history (Some last) None keeps = absurd keeps
  carried_keeps history (Some last) (Some write) keeps = record {
    seq = keeps.seq;
    generation = keeps.generation;
    document = carried_document write.id last write.document keeps.document;
  }

  pub carried_each : (history : List Write) (entries : List Entry) → KeepsEach history bytes entries → KeepsEach history image entries
  carried_each history entries each = λ id. carried_keeps history (find_last id entries) (last_write history id) (each id)

  carried_root : (root : Root) (commits seq : ℕ) (entries : List Entry) → data_start ≤ root.offset → HoldsRoot (Some root) commits bytes seq entries → HoldsRoot (Some root) commits image seq entries
  carried_root root commits seq entries behind holds = (holds.0, holds.1, part_carried bytes image has root.offset root.length (record_bytes seq entries) behind holds.2)

pub spells_of_root : IsOfRoot SpellsRoot
spells_of_root = record {
  rootless = λ bytes image spelled holds. holds;
  rooted = λ root bytes image spelled behind has holds. carried_root bytes image has root root.number spelled.0 spelled.1 behind holds;
}

-- without a root there are no writes, whatever the bytes are
no_writes : (bytes image : List ℕ) (history : List Write) → HoldsWrites None bytes history → HoldsWrites None image history
no_writes bytes image [] holds = record { entries = []; holds = (refl, refl); each = λ id. tt; stored = tt }
no_writes bytes image (write ∷ history) holds = absurd (let count = holds.holds.0 in omega arith)

pub writes_of_root : IsOfRoot HoldsWrites
writes_of_root = record {
  rootless = no_writes;
  rooted = λ root bytes image history behind has holds. record {
    entries = holds.entries;
    holds = carried_root bytes image has root root.number (length history) holds.entries behind holds.holds;
    each = carried_each bytes image has history holds.entries holds.each;
    stored = holds.stored;
  };
}
