-- What is stored of an accepted write: its body, its entry, and the root record with it.
use Rattle.std.specs.Prelude.{ℕ, ◌+◌, ◌^◌, ◌<◌, List, [], ◌∷◌, ◌++◌, length, Bool, is_none, Option, Some, None, option_map, if◌then◌else◌}
use Rattle.std.specs.Ordering.{nat_cmp, match_ordering}
use Rattle.std.specs.Cmp.Lexicographic.{slice_cmp}
use Rattle.json_terms.specs.Json.{Json}
use Rattle.term_codec.specs.Spelling.{spelling}
use Rattle.doc_file.specs.declared.entry.LastWrite.{LastWrite}
use Rattle.doc_file.specs.declared.entry.Entry.{Entry}
use Rattle.doc_file.specs.declared.rev.Rev.{Rev}
use Rattle.doc_file.specs.Record.{record_bytes}
use Rattle.doc_file.specs.Held.{IsBodyOf, find_last}
use Rattle.design_docs.specs.Revision.{revision, stored_document}
use Rattle.design_docs.specs.History.{IsStoredAs, Write, generation}

abbrev pub entry_of : List ℕ → LastWrite → Entry
entry_of id last = record { id = id; last = last }

-- the entries with this one set, in byte order of id
abbrev pub with_last : List ℕ → LastWrite → List Entry → List Entry
with_last id last [] = entry_of id last ∷ []
with_last id last (entry ∷ entries) =
    match_ordering (slice_cmp nat_cmp id entry.id) (entry_of id last ∷ entry ∷ entries) (entry_of id last ∷ entries) (entry ∷ with_last id last entries)

abbrev pub generation_in : Option LastWrite → ℕ
generation_in None = 0
generation_in (Some last) = last.generation

-- the revision of the next write of an id, after so many writes
abbrev pub next_rev : ℕ → List Entry → List ℕ → Rev
next_rev seq entries id = record { generation = generation_in (find_last id entries) + 1; seq = seq + 1 }

-- the document that is stored under a revision, unless the write is a deletion
abbrev pub revised : Option Json → Rev → Option Json
revised content rev = option_map (λ c. stored_document c (revision rev.generation rev.seq)) content

-- the body of a write; a deletion has none
abbrev pub body_of : Option Json → List ℕ
body_of None = []
body_of (Some document) = spelling document

-- the place of a write's body, for bytes that are appended at `start`; that of a deletion is 0
abbrev pub place_in : ℕ → Bool → ℕ
place_in start deleted = if deleted then 0 else start

-- what the root record keeps of a write whose body stands at `start`
abbrev pub last_of : ℕ → Rev → Option Json → LastWrite
last_of start rev document = record {
  seq = rev.seq;
  generation = rev.generation;
  deleted = is_none document;
  offset = place_in start (is_none document);
  length = length (body_of document);
}

-- what is appended: the body and the root record with the entry of the write
abbrev pub bytes_of : ℕ → ℕ → List Entry → List ℕ → Rev → Option Json → List ℕ
bytes_of start seq entries id rev document = body_of document ++ record_bytes (seq + 1) (with_last id (last_of start rev document) entries)

-- how many bytes are appended for the next write of an id, after so many writes
abbrev pub size_of : ℕ → ℕ → List Entry → List ℕ → Option Json → ℕ
size_of start seq entries id content = let rev = next_rev seq entries id in length (bytes_of start seq entries id rev (revised content rev))

-- ---- over the history

-- the revision of the next write of the id
abbrev pub next_revision : List Write → List ℕ → List ℕ
next_revision history id = revision (generation history id + 1) (length history + 1)

-- the write of a document, which is stored under its revision, or a deletion
abbrev pub write_of : List Write → List ℕ → Option Json → Write
write_of history id content = record { id = id; document = option_map (λ c. stored_document c (next_revision history id)) content }

-- under each revision the content is a document of the id, whose spelling is short enough
pub record IsShort (id : List ℕ) (content : Json) (revision : List ℕ) : Type 0 where
  pub body : IsBodyOf id (stored_document content revision)
  pub short : length (spelling (stored_document content revision)) < 2 ^ 32

-- what a write of an id stores may be written under each revision, and can be stored under each that the id may have
pub record IsContentOf (id : List ℕ) (content : Json) : Type 0 where
  pub written : (rev : Rev) → rev.generation < 2 ^ 64 → IsShort id content (revision rev.generation rev.seq)
  pub stored : (rev : Rev) → 0 < rev.generation → rev.generation < 2 ^ 63 → IsStoredAs id (stored_document content (revision rev.generation rev.seq))

abbrev pub IsStorable : List ℕ → Option Json → Type 0
IsStorable id None = Unit {0}
IsStorable id (Some content) = IsContentOf id content
