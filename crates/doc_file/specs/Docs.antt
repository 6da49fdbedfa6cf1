-- What the object keeps of the documents.
use Rattle.std.specs.Prelude.{◌≡◌, ℕ, List, Bool, false, not, count_by, is_none, length, Option, Some, None}
use Rattle.json_terms.specs.Json.{Json}
use Rattle.gate_file.specs.declared.gate.GateFile.{GateFile}
use Rattle.gate_file.specs.GateFile.{commits_in, commits_of, name_of, root_of}
use Rattle.gate_file.specs.Pair.{IsOpenPair, PairHolds, own_bytes}
use Rattle.gate_file.specs.RootPlace.{IsPairDamage}
use Rattle.view_ports.specs.declared.file_name.FileName.{FileName}
use Rattle.view_ports.specs.declared.file_name.Stem.TheVariants.{Docs as DocsStem}
use Rattle.view_ports.specs.File.{File}
use Rattle.doc_file.specs.declared.docs.Docs.{Docs}
use Rattle.doc_file.specs.declared.docs.Info.{Info}
use Rattle.doc_file.specs.declared.entry.LastWrite.{LastWrite}
use Rattle.doc_file.specs.declared.entry.Entry.{Entry}
use Rattle.doc_file.specs.Held.{HasBody, HoldsIn, HoldsWrites, KeepsEach, SpellsRoot, find_last}
use Rattle.design_docs.specs.History.{AreStored, Write, last_writes, live, update_seq}

abbrev pub file_of : Docs → GateFile
file_of docs = docs.file

-- the number of accepted writes
abbrev pub seq_of : Docs → ℕ
seq_of docs = docs.seq

-- the last write of each id, in byte order of id
abbrev pub entries_of : Docs → List Entry
entries_of docs = docs.entries.items

-- the last write of an id
abbrev pub last_of : Docs → List ℕ → Option LastWrite
last_of docs id = find_last id (entries_of docs)

-- the bytes of the documents' file
abbrev pub bytes_in : Docs → (FileName → File) → List ℕ
bytes_in docs files = own_bytes (file_of docs) files

-- what the object keeps is what the root record of its file holds
abbrev pub IsLoaded : Docs → (FileName → File) → Type 0
IsLoaded docs files = HoldsIn (file_of docs) files (seq_of docs) (entries_of docs)

-- a file of the documents
abbrev pub IsDocsFile : FileName → Type 0
IsDocsFile name = name.stem ≡ DocsStem

-- what the object keeps is what the folder holds: its pair is open, as many commits were made as its root says, and none where
-- it has no root, and the root record is loaded
pub record IsOpen (docs : Docs) (files : FileName → File) : Type 0 where
  pub pair : IsOpenPair DocsStem (file_of docs) files
  pub commits : commits_of (file_of docs) ≡ commits_in (root_of (file_of docs))
  pub loaded : IsLoaded docs files

-- the object and the folder are at the end of this history, whose documents can be stored
pub record IsAt (docs : Docs) (files : FileName → File) (history : List Write) : Type 0 where
  pub is_open : IsOpen docs files
  pub count : seq_of docs ≡ length history
  pub each : KeepsEach history (bytes_in docs files) (entries_of docs)
  pub stored : AreStored history

-- nothing is pending of the documents' files, and they stand for this history
abbrev pub HoldsHistory : (FileName → File) → List Write → Type 0
HoldsHistory files history = PairHolds DocsStem HoldsWrites files history

-- what is damaged of the documents' files as they are opened: their first damaged slot, or else their root record
abbrev pub IsDamagedAt : (FileName → File) → FileName → ℕ → Type 0
IsDamagedAt files name at = IsPairDamage DocsStem SpellsRoot files name at

-- nothing has changed of what is kept
pub record IsSame (old new : Docs) : Type 0 where
  pub file : file_of new ≡ file_of old
  pub seq : seq_of new ≡ seq_of old
  pub entries : entries_of new ≡ entries_of old

abbrev pub is_deleted : Option LastWrite → Bool
is_deleted None = false
is_deleted (Some last) = last.deleted

-- the document is the body of an id's last write, which is no deletion
abbrev pub IsLive : List ℕ → List ℕ → Option LastWrite → Json → Type 0
IsLive id bytes None document = ⊥
IsLive id bytes (Some last) document = (last.deleted ≡ false) × HasBody id bytes last document

-- the place of the body of an id's last write, and that no document of the id is spelled there
abbrev pub IsSpoiled : List ℕ → List ℕ → Option LastWrite → ℕ → Type 0
IsSpoiled id bytes None at = ⊥
IsSpoiled id bytes (Some last) at = (at ≡ last.offset) × ((document : Json) → HasBody id bytes last document → ⊥)

-- the same in the file of the documents, which is the one of this name
abbrev pub IsSpoiledIn : Docs → (FileName → File) → List ℕ → FileName → ℕ → Type 0
IsSpoiledIn docs files id name at = (name ≡ name_of (file_of docs)) × IsSpoiled id (bytes_in docs files) (last_of docs id) at

abbrev pub info_of : Docs → Info
info_of docs = record {
  doc_count = count_by (λ entry. not (entry.last).deleted) (entries_of docs);
  doc_del_count = count_by (λ entry. (entry.last).deleted) (entries_of docs);
  update_seq = seq_of docs;
}

-- the counts of a history
abbrev pub info_in : List Write → Info
info_in history = record {
  doc_count = length (live history);
  doc_del_count = count_by (λ entry. is_none (entry.1).document) (last_writes history);
  update_seq = update_seq history;
}
