-- A write that is ready to be stored.
use Rattle.std.specs.Prelude.{◌≡◌, ℕ, ◌+◌, ◌^◌, ◌<◌, List, ◌++◌, length, IsUtf8, Option}
use Rattle.json_terms.specs.Json.{Json}
use Rattle.doc_file.specs.declared.draft.Draft.{Draft}
use Rattle.doc_file.specs.declared.entry.Entry.{Entry}
use Rattle.doc_file.specs.Record.{record_bytes}
use Rattle.doc_file.specs.Stored.{body_of, last_of, next_rev, revised, with_last}

-- the draft of a write of an id, of bytes that are appended at `start`, after so many writes
pub record IsDraft (start seq : ℕ) (entries : List Entry) (id : List ℕ) (content : Option Json) (draft : Draft) : Type 0 where
  pub utf8 : IsUtf8 id
  pub place : start < 2 ^ 64
  pub few : length draft.entries.items < 2 ^ 64
  pub rev : draft.rev ≡ next_rev seq entries id
  pub entries_are : draft.entries.items ≡ with_last id (last_of start draft.rev (revised content draft.rev)) entries
  pub bytes : draft.bytes.items ≡ body_of (revised content draft.rev) ++ record_bytes (seq + 1) draft.entries.items
  pub body : draft.body ≡ length (body_of (revised content draft.rev))
