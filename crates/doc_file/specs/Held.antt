-- What the documents' file holds, and the history that it stands for.
use Rattle.std.specs.Prelude.{◌≡◌, ℕ, ◌≤◌, List, [], ◌∷◌, length, true, false, Option, Some, None, bytes_eq, if◌then◌else◌, IsTrue}
use Rattle.json_terms.specs.Json.{Json, object, number, is_false, is_null, is_true, array, string, depth}
use Rattle.json_terms.specs.Terms.{IsTerm}
use Rattle.term_codec.specs.Spelling.{spelling}
use Rattle.term_codec.specs.SpelledAt.{CountsFit}
use Rattle.gate_file.specs.declared.root.Root.{Root}
use Rattle.gate_file.specs.declared.gate.GateFile.{GateFile}
use Rattle.gate_file.specs.Header.{data_start}
use Rattle.gate_file.specs.Open.{IsPart}
use Rattle.gate_file.specs.GateFile.{commits_in, commits_of, root_of}
use Rattle.gate_file.specs.Pair.{StandsFor, own_bytes}
use Rattle.view_ports.specs.File.{File}
use Rattle.view_ports.specs.declared.file_name.FileName.{FileName}
use Rattle.view_ports.specs.declared.file_name.Stem.TheVariants.{Docs as DocsStem}
use Rattle.design_docs.specs.Documents.{is_design_id}
use Rattle.design_docs.specs.Faults.{HasDesign}
use Rattle.doc_file.specs.declared.entry.LastWrite.{LastWrite}
use Rattle.doc_file.specs.declared.entry.Entry.{Entry}
use Rattle.doc_file.specs.Record.{IsRoot, record_bytes}
use Rattle.doc_file.specs.Counts.{are_counted}
use Rattle.design_docs.specs.History.{AreStored, Write, last_write, last_seq, generation}

abbrev pub IsObject : Json → Type 0
IsObject (object ms) = Unit {0}
IsObject (number n) = ⊥
IsObject is_false = ⊥
IsObject is_null = ⊥
IsObject is_true = ⊥
IsObject (array ts) = ⊥
IsObject (string s) = ⊥

-- an object of depth 64 at most
pub record IsDocument (t : Json) : Type 0 where
  pub term : IsTerm t
  pub object : IsObject t
  pub shallow : depth t ≤ 64
  pub counts : CountsFit t

-- what the body of an id spells: a document, and under the id of a design document one that has a design
pub record IsBodyOf (id : List ℕ) (document : Json) : Type 0 where
  pub document_is : IsDocument document
  pub design : IsTrue (is_design_id id) → HasDesign document

-- the body of an id's last write is the spelling of this document
pub record HasBody (id bytes : List ℕ) (last : LastWrite) (document : Json) : Type 0 where
  pub body : IsBodyOf id document
  pub spelled : IsPart bytes last.offset last.length (spelling document)

-- what the root record holds that the root names, after so many commits; without a root there was no write
abbrev pub HoldsRoot : Option Root → ℕ → List ℕ → ℕ → List Entry → Type 0
HoldsRoot None commits bytes seq entries = (seq ≡ 0) × (entries ≡ [])
HoldsRoot (Some root) commits bytes seq entries =
    IsRoot seq entries × IsTrue (are_counted commits seq entries) × IsPart bytes root.offset root.length (record_bytes seq entries)

-- what the root record of an object's file holds
abbrev pub HoldsIn : GateFile → (FileName → File) → ℕ → List Entry → Type 0
HoldsIn gate files seq entries = HoldsRoot (root_of gate) (commits_of gate) (own_bytes gate files) seq entries

-- the last write of an id
abbrev pub find_last : List ℕ → List Entry → Option LastWrite
find_last id [] = None
find_last id (entry ∷ entries) = if bytes_eq id entry.id then Some entry.last else find_last id entries

-- the stored document of an id's last write, behind the slots of the file, or a tombstone
abbrev pub KeepsDocument : List ℕ → List ℕ → LastWrite → Option Json → Type 0
KeepsDocument id bytes last None = last.deleted ≡ true
KeepsDocument id bytes last (Some document) = (last.deleted ≡ false) × (data_start ≤ last.offset) × HasBody id bytes last document

-- what is kept of an id is its last write
pub record IsKept (history : List Write) (bytes : List ℕ) (last : LastWrite) (write : Write) : Type 0 where
  pub seq : last.seq ≡ last_seq history write.id
  pub generation : last.generation ≡ generation history write.id
  pub document : KeepsDocument write.id bytes last write.document

abbrev pub KeepsLast : List Write → List ℕ → Option LastWrite → Option Write → Type 0
KeepsLast history bytes None None = Unit {0}
KeepsLast history bytes None (Some write) = ⊥
KeepsLast history bytes (Some last) None = ⊥
KeepsLast history bytes (Some last) (Some write) = IsKept history bytes last write

-- what is kept of each id is its last write
abbrev pub KeepsEach : List Write → List ℕ → List Entry → Type 0
KeepsEach history bytes entries = (id : List ℕ) → KeepsLast history bytes (find_last id entries) (last_write history id)

-- What the root record spells that a root names: the number of writes, and the last write of each id. Counts that no history has
-- spell no root.
abbrev pub SpellsRoot : Option Root → List ℕ → ℕ × List Entry → Type 0
SpellsRoot root bytes spelled = HoldsRoot root (commits_in root) bytes spelled.0 spelled.1

-- a root holds the history, whose documents can be stored: its record spells the last write of each id
pub record HoldsWrites (root : Option Root) (bytes : List ℕ) (history : List Write) : Type 0 where
  pub entries : List Entry
  pub holds : HoldsRoot root (commits_in root) bytes (length history) entries
  pub each : KeepsEach history bytes entries
  pub stored : AreStored history

-- an image of the disk stands for the history, as far as documents go
abbrev pub Stands : (FileName → List ℕ) → List Write → Type 0
Stands image history = StandsFor DocsStem HoldsWrites image history
