-- What a replacement makes of rows: those of the named documents go, and the new ones come.
use Rattle.std.specs.Prelude.{ℕ, suc, List, [], ◌∷◌, ◌++◌, map, filter, length, take, drop, Bool, true, not, ◌&&◌, bytes_eq, nat_eq}
use Rattle.std.specs.List.{list_all, list_any}
use Rattle.json_terms.specs.Json.{Json}
use Rattle.json_terms.specs.declared.term.Row.{Row}
use Rattle.query_protocol.specs.Replies.{is_within_bounds}
use Rattle.raw_collation.specs.Sorting.{sorted_rows}
use Rattle.view_model.specs.Rows.{emitted_at, emitted_rows}
use Rattle.row_exchange.specs.declared.doc_rows.DocRows.{DocRows}
use Rattle.row_exchange.specs.Rows.{is_id}

-- the id is one of these
abbrev pub is_among : List (List ℕ) → List ℕ → Bool
is_among ids id = list_any (bytes_eq id) ids

-- the rows of the ids that aren't these
abbrev pub of_others : (List ℕ → Bool) → List Row → List Row
of_others these rows = filter (λ row. not (these row.id)) rows

-- the ids of the documents
abbrev pub ids_of : List DocRows → List (List ℕ)
ids_of changes = map (λ (change : DocRows). change.id) changes

-- the new rows of a view
abbrev pub new_rows : List DocRows → ℕ → List Row
new_rows changes view = emitted_rows (ids_of changes) (emitted_at view (map (λ (change : DocRows). change.rows) changes))

-- a view's rows after the replacement
abbrev pub replaced : List DocRows → ℕ → List Row → List Row
replaced changes view rows = sorted_rows (of_others (is_among (ids_of changes)) rows ++ new_rows changes view)

-- each element by its number, the first of which is this one
abbrev pub each_from : {X : Type 0} → (ℕ → X → X) → ℕ → List X → List X
each_from f number [] = []
each_from f number (x ∷ xs) = f number x ∷ each_from f (suc number) xs

-- the first so many of them are made, and the others are as they were
abbrev pub so_far : {X : Type 0} → (ℕ → X → X) → ℕ → List X → ℕ → List X
so_far f number xs done = each_from f number (take done xs) ++ drop done xs

-- the same of each view
abbrev pub replaced_views : List DocRows → List (List Row) → List (List Row)
replaced_views changes views = each_from (replaced changes) 0 views

-- ---- which replacements are made

-- a key and a value within the bounds
abbrev pub is_emission : Json × Json → Bool
is_emission emission = is_within_bounds emission.0 && is_within_bounds emission.1

-- what one function emitted for a document, which may have any id where this is nothing
abbrev pub is_list : List ℕ → List (Json × Json) → Bool
is_list id [] = true
is_list id (emission ∷ emissions) = is_id id && list_all is_emission (emission ∷ emissions)

-- a list for each of so many views
abbrev pub is_change : ℕ → DocRows → Bool
is_change views change = nat_eq (length change.rows) views && list_all (is_list change.id) change.rows
