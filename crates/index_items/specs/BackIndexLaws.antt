-- What is said of each back-index.
use Rattle.std.specs.Prelude.{◌≡◌, ◌<◌, ℕ, List, [], length, Contains, slice_index_or}
use Rattle.std.specs.List.Sorted.{IsStrictlySortedBy}
use Rattle.json_terms.specs.declared.term.Row.{Row}
use Rattle.index_items.specs.declared.back_row.BackRow.{BackRow}
use Rattle.index_items.specs.BackItem.{BackEntry, entry_cmp}
use Rattle.index_items.specs.BackIndex.{IsBackIndex, back_row}

-- at most one list of entries that rise by id is the back-index of the views
abbrev pub HasOneIndex : List (List Row) → Type 0
HasOneIndex views = (xs ys : List BackEntry) → IsStrictlySortedBy entry_cmp xs → IsStrictlySortedBy entry_cmp ys → IsBackIndex views xs → IsBackIndex views ys → xs ≡ ys

-- the view with this number has the row
pub record HasRow (views : List (List Row)) (view : ℕ) (row : Row) : Type 0 where
  pub within : view < length views
  pub there : Contains (slice_index_or views view []) row

-- an entry of the row's document, with the row
pub record IsEntryWith (entries : List BackEntry) (view : ℕ) (row : Row) (entry : BackEntry) : Type 0 where
  pub there : Contains entries entry
  pub of : entry.id ≡ row.id
  pub holds : Contains entry.rows (back_row view row)

-- this is where the row stands, which is one of the document with this id
pub record IsRowAt (views : List (List Row)) (id : List ℕ) (place : BackRow) (row : Row) : Type 0 where
  pub there : HasRow views place.view row
  pub of : row.id ≡ id
  pub is : place ≡ back_row place.view row

-- each row of each view stands in an entry
abbrev pub HoldsAllRows : List (List Row) → List BackEntry → Type 0
HoldsAllRows views entries = (view : ℕ) (row : Row) → HasRow views view row → (entry : BackEntry) × IsEntryWith entries view row entry

-- what stands in an entry is a row of its document
abbrev pub HoldsNoOthers : List (List Row) → List BackEntry → Type 0
HoldsNoOthers views entries = (entry : BackEntry) (place : BackRow) → Contains entries entry → Contains entry.rows place → (row : Row) × IsRowAt views entry.id place row
