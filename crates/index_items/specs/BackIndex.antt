-- The back-index: which rows each document has in the views.
use Rattle.std.specs.Prelude.{◌≡◌, ◌≢◌, ◌↔◌, ℕ, suc, List, [], ◌∷◌, ◌++◌, Bool, map, filter, bytes_eq, Contains}
use Rattle.json_terms.specs.declared.term.Row.{Row}
use Rattle.index_items.specs.declared.back_row.BackRow.{BackRow}
use Rattle.index_items.specs.BackItem.{BackEntry}

-- where a row of the view with this number stands
abbrev pub back_row : ℕ → Row → BackRow
back_row view row = record { view = view; key = row.key; place = row.place }

abbrev pub is_of : List ℕ → Row → Bool
is_of id row = bytes_eq row.id id

-- where the rows of a document stand in these views, of which the first has this number: by view, and then in the order of the
-- view's rows
abbrev pub places_from : ℕ → List (List Row) → List ℕ → List BackRow
places_from view [] id = []
places_from view (rows ∷ views) id = map (back_row view) (filter (is_of id) rows) ++ places_from (suc view) views id

abbrev pub places_in : List (List Row) → List ℕ → List BackRow
places_in views id = places_from 0 views id

-- the entry of a document with a row: where all its rows stand
pub record IsEntryOf (views : List (List Row)) (entry : BackEntry) : Type 0 where
  pub some : entry.rows ≢ []
  pub all : entry.rows ≡ places_in views entry.id

-- the entries are exactly those of the documents that have a row
abbrev pub IsBackIndex : List (List Row) → List BackEntry → Type 0
IsBackIndex views entries = (entry : BackEntry) → Contains entries entry ↔ IsEntryOf views entry
