-- The rows of the documents that were written, as a replacement takes them.
use Rattle.std.specs.Prelude.{ℕ, List, [], ◌∷◌, drop, is_some, replicate, slice_index_or, if◌then◌else◌}
use Rattle.json_terms.specs.Json.{Json}
use Rattle.design_docs.specs.History.{Write, mapped_by}
use Rattle.row_exchange.specs.declared.doc_rows.DocRows.{DocRows}

-- for each of these writes the rows of its document: a mapped one has the next of these lists, and a deletion or a design document
-- has an empty list for each of so many views
abbrev pub changed_rows : ℕ → List (ℕ × Write) → List (List (List (Json × Json))) → List DocRows
changed_rows count [] lists = []
changed_rows count (change ∷ changes) lists =
    if is_some (mapped_by change.1) then record { id = (change.1).id; rows = slice_index_or lists 0 [] } ∷ changed_rows count changes (drop 1 lists)
    else record { id = (change.1).id; rows = replicate count [] } ∷ changed_rows count changes lists
