-- The rows of a view of a history: those of all mapped documents, in order.
use Rattle.std.specs.Prelude.{ℕ, suc, List, [], ◌∷◌, ◌++◌, map, Bool, true, false, not, ◌&&◌, ◌||◌, if◌then◌else◌, bytes_eq, nat_eq, slice_index_or}
use Rattle.std.specs.List.{flat_map, IsDistinct}
use Rattle.json_terms.specs.Json.{Json}
use Rattle.json_terms.specs.Seen.{term}
use Rattle.json_terms.specs.declared.term.Row.{Row}
use Rattle.view_ports.specs.Functions.{Functions}
use Rattle.query_protocol.specs.CommandLines.{document_of}
use Rattle.raw_collation.specs.Sorting.{insert_row, sorted_rows}
use Rattle.design_docs.specs.History.{Write, mapped}
use Rattle.design_docs.specs.declared.design.View.{View}
use Rattle.design_docs.specs.declared.design.Reduce.{Reduce}
use Rattle.design_docs.specs.declared.design.Reduce.TheVariants.{Source}
use Rattle.std.specs.List.Sorted.{IsStrictlySortedBy}
use Rattle.raw_collation.specs.Collation.{rows_cmp}

-- the emissions of a document as rows, numbered by place
abbrev pub rows_from : ℕ → List ℕ → List (Json × Json) → List Row
rows_from place id [] = []
rows_from place id (emission ∷ emissions) =
    record { key = term emission.0; id = id; place = place; value = term emission.1 } ∷ rows_from (suc place) id emissions

-- the rows of documents with these ids, where these are the emissions of each
abbrev pub emitted_rows : List (List ℕ) → List (List (Json × Json)) → List Row
emitted_rows [] emitted = []
emitted_rows (id ∷ ids) [] = []
emitted_rows (id ∷ ids) (emissions ∷ emitted) = rows_from 0 id emissions ++ emitted_rows ids emitted

-- what one function emitted for each document
abbrev pub emitted_at : ℕ → List (List (List (Json × Json))) → List (List (Json × Json))
emitted_at view lists = map (λ emitted. slice_index_or emitted view []) lists

-- what a map function emits for a document
abbrev pub emitted_by : Functions → List ℕ → List ℕ × Json → List (Json × Json)
emitted_by functions source entry = functions.map_of source (document_of entry.1)

-- the rows of a document
abbrev pub document_rows : Functions → List ℕ → List ℕ × Json → List Row
document_rows functions source entry = rows_from 0 entry.0 (emitted_by functions source entry)

-- the rows of a view: those of all mapped documents, in order
abbrev pub view_rows : Functions → List ℕ → List Write → List Row
view_rows functions source history = sorted_rows (flat_map (document_rows functions source) (mapped history))

-- the rows of each view
abbrev pub rows_of : Functions → List View → List Write → List (List Row)
rows_of functions views history = map (λ view. view_rows functions view.map history) views

-- these rows, and then each of those inserted before the first greater one
abbrev pub inserted : List Row → List Row → List Row
inserted rows [] = rows
inserted rows (row ∷ more) = inserted (insert_row row rows) more

-- ---- rows are told apart by id and place

abbrev pub same_place : Row → Row → Bool
same_place one other = bytes_eq one.id other.id && nat_eq one.place other.place

-- no two rows have one id and place, and each is less than those after it
pub record RiseStrictly (rows : List Row) : Type 0 where
  pub apart : IsDistinct same_place rows
  pub rises : IsStrictlySortedBy rows_cmp rows

-- ---- views that can't be answered

abbrev pub has_some : {X : Type 0} → List X → Bool
has_some [] = false
has_some (x ∷ xs) = true

-- all map sources compile
abbrev pub maps_compile : Functions → List View → Bool
maps_compile functions [] = true
maps_compile functions (view ∷ views) = functions.compiles view.map && maps_compile functions views

-- the reduce source is wanted, since there are rows, and doesn't compile
abbrev pub reduce_fails : Functions → Reduce → List Row → Bool
reduce_fails functions (Source source) rows = has_some rows && not (functions.reduce_compiles source)
reduce_fails functions other rows = false

abbrev pub some_reduce_fails : Functions → List View → List (List Row) → Bool
some_reduce_fails functions [] rows = false
some_reduce_fails functions (view ∷ views) [] = false
some_reduce_fails functions (view ∷ views) (own ∷ rows) = reduce_fails functions view.reduce own || some_reduce_fails functions views rows

-- a document is mapped and a map source doesn't compile, or all do, and some view has rows and a reduce source that doesn't
abbrev pub spoiled : Functions → List View → List Write → Bool
spoiled functions views history =
    if maps_compile functions views then some_reduce_fails functions views (rows_of functions views history) else has_some (mapped history)
