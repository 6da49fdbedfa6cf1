-- The reply to a write, as what is kept of the documents tells it.
use Rattle.std.specs.Prelude.{◌≡◌, ℕ, List}
use Rattle.view_ports.specs.File.{File}
use Rattle.view_ports.specs.declared.file_name.FileName.{FileName}
use Rattle.doc_file.specs.declared.docs.Docs.{Docs}
use Rattle.doc_file.specs.Docs.{entries_of, seq_of, IsAt}
use Rattle.design_docs.specs.History.{Write}
use Rattle.design_docs.specs.Revision.{revision}
use Rattle.doc_file.specs.Stored.{next_rev, next_revision}
use Rattle.view_engine.specs.Answer.{write_text}

-- the reply to the next write of an id
abbrev pub accepted_reply : Docs → List ℕ → List ℕ
accepted_reply docs id = let rev = next_rev (seq_of docs) (entries_of docs) id in write_text id (revision rev.generation rev.seq)

-- it names the next revision of the history that the documents are at
abbrev pub SaysRevision : Docs → List ℕ → Type 0
SaysRevision docs id =
    (files : FileName → File) (history : List Write) → IsAt docs files history
    → accepted_reply docs id ≡ write_text id (next_revision history id)
