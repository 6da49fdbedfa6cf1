-- What has changed since a write: the last writes with greater numbers.
use Rattle.std.specs.Prelude.{◌≡◌, ◌⊎◌, ℕ, ◌<◌, ◌≤◌, ◌^◌, List, [], ◌∷◌, length, map, true, false, Option, Some, None, option_map, IfSome, All, AllPairs, Contains}
use Rattle.json_terms.specs.Json.{Json}
use Rattle.json_terms.specs.Seen.{json}
use Rattle.doc_file.specs.declared.docs.Docs.{Docs}
use Rattle.doc_file.specs.declared.docs.changes.Change.{Change}
use Rattle.doc_file.specs.declared.entry.LastWrite.{LastWrite}
use Rattle.doc_file.specs.declared.entry.Entry.{Entry}
use Rattle.doc_file.specs.Docs.{entries_of, last_of, IsSpoiled}
use Rattle.doc_file.specs.Held.{HasBody, IsBodyOf}
use Rattle.design_docs.specs.History.{Write}

-- a change as its number and its write
abbrev pub numbered : Change → ℕ × Write
numbered change = (change.seq, record { id = change.id; document = option_map json change.doc })

-- the number of the last of these changes, or this one where there are none
abbrev pub last_number : ℕ → List (ℕ × Write) → ℕ
last_number seq [] = seq
last_number seq (change ∷ changes) = last_number change.0 changes

-- the stored document of an id's last write; a deletion has none
abbrev pub IsStored : List ℕ → List ℕ → LastWrite → Option Json → Type 0
IsStored id bytes last None = last.deleted ≡ true
IsStored id bytes last (Some document) = (last.deleted ≡ false) × HasBody id bytes last document

-- what is stored is a document of the change's id
abbrev pub HasDocument : Change → Type 0
HasDocument change = IfSome (option_map json change.doc) (IsBodyOf change.id)

-- its id is short
abbrev pub HasShortId : Change → Type 0
HasShortId change = length change.id < 2 ^ 32

-- the change is the last write of its id
pub record IsChange (docs : Docs) (bytes : List ℕ) (change : Change) : Type 0 where
  pub last : LastWrite
  pub found : last_of docs change.id ≡ Some last
  pub seq : change.seq ≡ last.seq
  pub document : IsStored change.id bytes last (option_map json change.doc)

-- each number is after `seq`, and less than those of the later changes
pub record AreInOrder (seq : ℕ) (changes : List Change) : Type 0 where
  pub after : All (λ change. seq < change.seq) changes
  pub rise : AllPairs (λ change later. change.seq < later.seq) changes

-- a last write with a number after `seq` is one of the changes, or there are n changes with lesser numbers
abbrev pub IsTold : ℕ → ℕ → List Change → Entry → Type 0
IsTold seq n changes entry = seq < (entry.last).seq → Contains (map (λ change. change.seq) changes) (entry.last).seq
    ⊎ ((length changes ≡ n) × All (λ change. change.seq < (entry.last).seq) changes)

-- of no last write with a number after `seq` nothing is said, unless n others come first
abbrev pub AreWhole : Docs → ℕ → ℕ → List Change → Type 0
AreWhole docs seq n changes = All (IsTold seq n changes) (entries_of docs)

-- the place of the body of a last write with a number after `seq`, and that no document of the id is spelled there
pub record IsSpoiledAfter (docs : Docs) (bytes : List ℕ) (seq at : ℕ) : Type 0 where
  pub id : List ℕ
  pub last : LastWrite
  pub found : last_of docs id ≡ Some last
  pub after : seq < last.seq
  pub live : last.deleted ≡ false
  pub spoiled : IsSpoiled id bytes (Some last) at

-- the entry with the least number after `seq`
abbrev pub IsNext : ℕ → List Entry → Option Entry → Type 0
IsNext seq entries None = All (λ entry. (entry.last).seq ≤ seq) entries
IsNext seq entries (Some next) = Contains entries next × (seq < (next.last).seq) × All (λ entry. seq < (entry.last).seq → (next.last).seq ≤ (entry.last).seq) entries
