-- What was written since a sequence, each write with its number.
use Rattle.std.specs.Prelude.{◌≡◌, ◌≢◌, ◌<◌, ◌≤◌, ℕ, List, [], ◌∷◌, map, Option, Some, All, Contains}
use Rattle.json_terms.specs.Json.{Json}
use Rattle.view_ports.specs.Disk.{IfTold}
use Rattle.view_ports.specs.File.{File}
use Rattle.view_ports.specs.declared.file_name.FileName.{FileName}
use Rattle.view_ports.specs.declared.folder.Folder.{Ghosts as Folders}
use Rattle.gate_file.specs.GateFile.{name_of}
use Rattle.design_docs.specs.History.{Write, mapped_after}
use Rattle.query_protocol.specs.CommandLines.{document_of}
use Rattle.doc_file.specs.declared.docs.Docs.{Docs}
use Rattle.doc_file.specs.declared.entry.LastWrite.{LastWrite}
use Rattle.doc_file.specs.Changes.{IsSpoiledAfter, IsStored}
use Rattle.doc_file.specs.Docs.{bytes_in, entries_of, file_of, last_of, IsLoaded as AreLoaded}
use Rattle.view_model.specs.Since.{mapped_of}

-- the write is the last one of its id
pub record IsLastWrite (docs : Docs) (bytes : List ℕ) (change : ℕ × Write) : Type 0 where
  pub last : LastWrite
  pub found : last_of docs (change.1).id ≡ Some last
  pub seq : change.0 ≡ last.seq
  pub document : IsStored (change.1).id bytes last (change.1).document

-- each number is greater than those before it, and than `seq`
abbrev pub AreRising : ℕ → List (ℕ × Write) → Type 0
AreRising seq [] = Unit {0}
AreRising seq (change ∷ changes) = (seq < change.0) × AreRising change.0 changes

-- one of them has this number
abbrev pub HasNumber : List (ℕ × Write) → ℕ → Type 0
HasNumber changes number = Contains (map (λ change. change.0) changes) number

-- each last write with a number after `seq`, but not after another one, has the number of one of them
abbrev pub CoverUpTo : Docs → ℕ → ℕ → List (ℕ × Write) → Type 0
CoverUpTo docs seq after changes = All (λ entry. seq < (entry.last).seq → (entry.last).seq ≤ after → HasNumber changes (entry.last).seq) (entries_of docs)

-- each one with a number after `seq`
abbrev pub CoverAll : Docs → ℕ → List (ℕ × Write) → Type 0
CoverAll docs seq changes = All (λ entry. seq < (entry.last).seq → HasNumber changes (entry.last).seq) (entries_of docs)

-- they are of numbers after `seq`, in their order, and last writes of what is stored, where the documents are loaded
pub record AreLastWrites {F : Type 0} (f : Folders F) (docs : Docs) (folder : F) (seq : ℕ) (changes : List (ℕ × Write)) : Type 0 where
  pub rise : AreRising seq changes
  pub each : IfTold (f.disk folder) (λ d. AreLoaded docs d.now → All (IsLastWrite docs (bytes_in docs d.now)) changes)

-- the documents that are mapped of these writes
abbrev pub documents_of : List (ℕ × Write) → List (List (List ℕ × Json))
documents_of changes = map (λ entry. document_of entry.1) (mapped_of changes)

-- those of a history that are mapped since a sequence
abbrev pub documents_since : ℕ → List Write → List (List (List ℕ × Json))
documents_since seq history = map (λ entry. document_of entry.1) (mapped_after seq history)

-- ---- damage

-- this is the place of the body of a last write in the documents' file, where no document of its id is spelled
abbrev pub IsBodyDamaged : Docs → (FileName → File) → FileName → ℕ → Type 0
IsBodyDamaged docs files name at = (name ≡ name_of (file_of docs)) × (seq : ℕ) × IsSpoiledAfter docs (bytes_in docs files) seq at

-- the last write of another id has this number too, and what is stored of it can be read
pub record IsShared (docs : Docs) (bytes id : List ℕ) (number : ℕ) : Type 0 where
  pub other : List ℕ
  pub apart : other ≢ id
  pub last : LastWrite
  pub found : last_of docs other ≡ Some last
  pub same : last.seq ≡ number
  pub document : Option Json
  pub stored : IsStored other bytes last document

-- no body is damaged of a last write with a number after `seq`, unless it shares its number
abbrev pub AreUndamaged : Docs → List ℕ → ℕ → Type 0
AreUndamaged docs bytes seq = (at : ℕ) (spoiled : IsSpoiledAfter docs bytes seq at) → IsShared docs bytes spoiled.id (spoiled.last).seq
