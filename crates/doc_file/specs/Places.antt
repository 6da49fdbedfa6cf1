-- Where the entry of an id stands among entries, or would stand.
use Rattle.std.specs.Prelude.{◌≡◌, ℕ, ◌≤◌, List, ◌∷◌, ◌++◌, length, take, drop}
use Rattle.doc_file.specs.declared.entry.LastWrite.{LastWrite}
use Rattle.doc_file.specs.declared.entry.Entry.{Entry}
use Rattle.doc_file.specs.declared.last_writes.Place.{Place}
use Rattle.doc_file.specs.Stored.{entry_of, with_last}

-- to set the last write of an id is to put its entry between these
pub record IsPlace (id : List ℕ) (entries : List Entry) (place : Place) : Type 0 where
  pub ordered : place.before ≤ place.behind
  pub within : place.behind ≤ length entries
  pub set : (last : LastWrite) → with_last id last entries ≡ take place.before entries ++ (entry_of id last ∷ drop place.behind entries)
