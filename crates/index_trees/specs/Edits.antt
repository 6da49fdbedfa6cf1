-- The edits by which the rows of documents are exchanged in the trees of an index.
use Rattle.std.specs.Prelude.{ℕ, zero, suc, List, [], ◌∷◌, ◌++◌, map, filter, length, Bool, not, ◌&&◌, ◌+◌, nat_eq, slice_index_or}
use Rattle.std.specs.List.{list_any}
use Rattle.std.specs.Ordering.{is_eq}
use Rattle.json_terms.specs.Json.{Json}
use Rattle.json_terms.specs.Seen.{json}
use Rattle.json_terms.specs.declared.term.Row.{Row}
use Rattle.json_terms.specs.declared.term.Term.TheVariants.{Null}
use Rattle.raw_collation.specs.Collation.{json_cmp}
use Rattle.raw_collation.specs.Sorting.{sorted_rows}
use Rattle.view_model.specs.Rows.{rows_from}
use Rattle.reduce_tree.specs.declared.edit.Edit.{Edit}
use Rattle.reduce_tree.specs.declared.edit.Edit.TheVariants.{Insert, Remove}
use Rattle.row_exchange.specs.declared.doc_rows.DocRows.{DocRows}
use Rattle.row_exchange.specs.Replaced.{ids_of, new_rows}
use Rattle.index_items.specs.declared.back_row.BackRow.{BackRow}
use Rattle.index_items.specs.BackItem.{BackEntry}
use Rattle.index_items.specs.BackIndex.{back_row, places_in}

-- ---- the rows of a view

-- a row of a document that stands there, whatever its value
abbrev pub row_at : List ℕ → BackRow → Row
row_at id here = record { key = here.key; id = id; place = here.place; value = Null }

-- one of these rows of the document takes the place of the one that stands there
abbrev pub is_replaced : List Row → BackRow → Bool
is_replaced new here = list_any (λ (row : Row). nat_eq row.place here.place && is_eq (json_cmp (json row.key) (json here.key))) new

-- the new rows of a document in a view
abbrev pub own_rows : ℕ → DocRows → List Row
own_rows view change = rows_from 0 change.id (slice_index_or change.rows view [])

-- the old rows of a document in a view that no new one replaces
abbrev pub gone : ℕ → DocRows → List BackRow → List BackRow
gone view change old = filter (λ here. nat_eq here.view view && not (is_replaced (own_rows view change) here)) old

-- each new row of a document is inserted, and each old one that isn't replaced is removed
abbrev pub row_edits : ℕ → DocRows → List BackRow → List (Edit Row)
row_edits view change old = map Insert (own_rows view change) ++ map (λ here. Remove (row_at change.id here)) (gone view change old)

-- the same of all documents, where their old rows stood so
abbrev pub view_edits : ℕ → List DocRows → List (List BackRow) → List (Edit Row)
view_edits view [] olds = []
view_edits view (change ∷ changes) [] = []
view_edits view (change ∷ changes) (old ∷ olds) = row_edits view change old ++ view_edits view changes olds

-- ---- the back-index

-- where the new rows of a document stand in these views, of which the first has this number
abbrev pub new_places : ℕ → List ℕ → List (List (Json × Json)) → List BackRow
new_places view id [] = []
new_places view id (list ∷ lists) = map (back_row view) (sorted_rows (rows_from 0 id list)) ++ new_places (suc view) id lists

-- the entry of a document is exchanged, or goes where it has no row any more
abbrev pub entry_edits : List ℕ → List BackRow → List BackRow → List (Edit BackEntry)
entry_edits id [] [] = []
entry_edits id [] (here ∷ old) = Remove (record { id = id; rows = [] }) ∷ []
entry_edits id (here ∷ new) old = Insert (record { id = id; rows = here ∷ new }) ∷ []

abbrev pub back_edits : List DocRows → List (List BackRow) → List (Edit BackEntry)
back_edits [] olds = []
back_edits (change ∷ changes) [] = []
back_edits (change ∷ changes) (old ∷ olds) = entry_edits change.id (new_places 0 change.id change.rows) old ++ back_edits changes olds

-- ---- how many there are

-- where the old rows of the documents stand in these views
abbrev pub old_places : List DocRows → List (List Row) → List (List BackRow)
old_places changes views = map (places_in views) (ids_of changes)

-- how many rows are removed, added or replaced in so many views, the first of which has this number
abbrev pub row_edit_count : ℕ → ℕ → List DocRows → List (List BackRow) → ℕ
row_edit_count view zero changes olds = 0
row_edit_count view (suc count) changes olds = length (view_edits view changes olds) + row_edit_count (suc view) count changes olds

-- and in all views, with the entries of the back-index
abbrev pub edit_count : List DocRows → List (List Row) → ℕ
edit_count changes rows = row_edit_count 0 (length rows) changes (old_places changes rows) + length (back_edits changes (old_places changes rows))

-- how many rows are inserted in so many views, the first of which has this number, whatever is removed
abbrev pub row_insert_count : ℕ → ℕ → List DocRows → ℕ
row_insert_count view zero changes = 0
row_insert_count view (suc count) changes = length (new_rows changes view) + row_insert_count (suc view) count changes

-- 1 for a document that has a row in one of the views, and else 0
abbrev pub one_entry : List (List (Json × Json)) → ℕ
one_entry [] = 0
one_entry ([] ∷ lists) = one_entry lists
one_entry ((row ∷ list) ∷ lists) = 1

-- how many entries of the back-index are inserted: one for each document that has a new row
abbrev pub entry_insert_count : List DocRows → ℕ
entry_insert_count [] = 0
entry_insert_count (change ∷ changes) = one_entry change.rows + entry_insert_count changes

-- how many rows and entries are inserted, with so many views
abbrev pub insert_count : List DocRows → ℕ → ℕ
insert_count changes views = row_insert_count 0 views changes + entry_insert_count changes
