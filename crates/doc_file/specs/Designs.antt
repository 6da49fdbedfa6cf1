-- The ids of the live design documents.
use Rattle.std.specs.Prelude.{◌≡◌, ℕ, List, true, false, Option, Some, None, All, Contains}
use Rattle.json_terms.specs.Json.{Json}
use Rattle.design_docs.specs.Documents.{is_design_id}
use Rattle.doc_file.specs.declared.docs.Docs.{Docs}
use Rattle.doc_file.specs.declared.entry.LastWrite.{LastWrite}
use Rattle.doc_file.specs.Docs.{last_of}
use Rattle.design_docs.specs.History.{Write, live_document}

-- the last write of an id is there, and is no deletion
abbrev pub IsLiveEntry : Option LastWrite → Type 0
IsLiveEntry None = ⊥
IsLiveEntry (Some last) = last.deleted ≡ false

-- these are the ids of the design documents whose last write is no deletion, as the object keeps them
pub record AreDesignIds (docs : Docs) (ids : List (List ℕ)) : Type 0 where
  pub each : All (λ id. (is_design_id id ≡ true) × IsLiveEntry (last_of docs id)) ids
  pub all : (id : List ℕ) → is_design_id id ≡ true → IsLiveEntry (last_of docs id) → Contains ids id

-- these are the ids of the live design documents of a history
pub record AreDesignsOf (history : List Write) (ids : List (List ℕ)) : Type 0 where
  pub each : All (λ id. (is_design_id id ≡ true) × ((document : Json) × (live_document history id ≡ Some document))) ids
  pub all : (id : List ℕ) (document : Json) → is_design_id id ≡ true → live_document history id ≡ Some document → Contains ids id
