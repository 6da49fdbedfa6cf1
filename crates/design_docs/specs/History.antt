-- The history of the documents: the accepted writes, the newest first.
use Rattle.std.specs.Prelude.{◌≡◌, ℕ, List, [], ◌∷◌, ◌++◌, not, Option, Some, None, option_map, option_and_then, bytes_eq, if◌then◌else◌, count_by, filter, length, nat_lt, MatchOption}
use Rattle.std.specs.List.{filter_map, AllByRecursion}
use Rattle.std.specs.Ordering.{nat_cmp}
use Rattle.std.specs.Cmp.Lexicographic.{slice_cmp}
use Rattle.std.specs.BTreeMap.{insert_entry}
use Rattle.json_terms.specs.Json.{Json}
use Rattle.view_ports.specs.Stored.{IsStoredDocument}
use Rattle.design_docs.specs.Documents.{id_of, is_design_id}

-- an accepted write: the stored document of an id, or a deletion (a tombstone), which stores none
pub record Write : Type 0 where
  pub id : List ℕ
  pub document : Option Json

-- a document that can be stored, of this id
pub record IsStoredAs (id : List ℕ) (document : Json) : Type 0 where
  pub stored : IsStoredDocument document
  pub named : id_of document ≡ id

abbrev pub IsStoredIn : Write → Type 0
IsStoredIn write = MatchOption write.document (Unit {0}) (λ document. IsStoredAs write.id document)

-- each write stores a document that can be stored, of its id, or none
abbrev pub AreStored : List Write → Type 0
AreStored history = AllByRecursion IsStoredIn history

-- the number of accepted writes: the newest one has this number
abbrev pub update_seq : List Write → ℕ
update_seq history = length history

-- how many writes the id has had
abbrev pub generation : List Write → List ℕ → ℕ
generation history id = count_by (λ write. bytes_eq id write.id) history

-- the newest write of the id
abbrev pub last_write : List Write → List ℕ → Option Write
last_write [] id = None
last_write (write ∷ older) id = if bytes_eq id write.id then Some write else last_write older id

-- the number of the newest write of the id, 0 where it has none
abbrev pub last_seq : List Write → List ℕ → ℕ
last_seq [] id = 0
last_seq (write ∷ older) id = if bytes_eq id write.id then length (write ∷ older) else last_seq older id

-- the newest write of each id, in byte order of id
abbrev pub last_writes : List Write → List (List ℕ × Write)
last_writes [] = []
last_writes (write ∷ older) = insert_entry (slice_cmp nat_cmp) (last_writes older) write.id write

-- the stored document of a write beside its id, unless the write is a deletion
abbrev pub stored : List ℕ × Write → Option (List ℕ × Json)
stored entry = option_map (λ document. (entry.0, document)) (entry.1).document

-- the live documents: those whose last write is no deletion, in byte order of id
abbrev pub live : List Write → List (List ℕ × Json)
live history = filter_map stored (last_writes history)

-- the live document of the id
abbrev pub live_document : List Write → List ℕ → Option Json
live_document history id = option_and_then (λ write. write.document) (last_write history id)

-- the live documents that views map: all but the design documents
abbrev pub mapped : List Write → List (List ℕ × Json)
mapped history = filter (λ entry. not (is_design_id entry.0)) (live history)

-- of these writes, each with its number, those of other ids
abbrev pub of_others : List ℕ → List (ℕ × Write) → List (ℕ × Write)
of_others id changes = filter (λ change. not (bytes_eq id (change.1).id)) changes

-- the last write of each id that was written after the first `seq` writes, with its number, in the order of the numbers
abbrev pub changes_after : ℕ → List Write → List (ℕ × Write)
changes_after seq [] = []
changes_after seq (write ∷ older) =
    if nat_lt seq (length (write ∷ older)) then of_others write.id (changes_after seq older) ++ (length (write ∷ older), write) ∷ [] else []

-- what a write leaves to be mapped: its document beside its id, unless it is a deletion or a design document
abbrev pub mapped_by : Write → Option (List ℕ × Json)
mapped_by write = if is_design_id write.id then None else option_map (λ document. (write.id, document)) write.document

-- the documents that views map of the last writes after the first `seq` writes, in the order of their numbers
abbrev pub mapped_after : ℕ → List Write → List (List ℕ × Json)
mapped_after seq history = filter_map (λ change. mapped_by change.1) (changes_after seq history)
