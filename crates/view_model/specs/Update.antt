-- What an update makes of a picture.
use Rattle.std.specs.Prelude.{◌≡◌, zero, suc, ◌≢◌, Contains, ℕ, List, [], ◌∷◌, ◌++◌, map, filter, not, length, bytes_eq, true, IsSorted}
use Rattle.std.specs.List.{AllByRecursion}
use Rattle.json_terms.specs.Json.{Json}
use Rattle.json_terms.specs.declared.term.Row.{Row}
use Rattle.view_ports.specs.Functions.{Functions}
use Rattle.raw_collation.specs.Sorting.{sorted_rows}
use Rattle.raw_collation.specs.Collation.{rows_cmp}
use Rattle.design_docs.specs.History.{Write, changes_after, mapped, mapped_after}
use Rattle.view_model.specs.Since.{is_among}
use Rattle.view_model.specs.Rows.{emitted_by, emitted_rows, rows_from, emitted_at}
use Rattle.view_model.specs.Picture.{Picture}
use Rattle.design_docs.specs.declared.design.View.{View}

abbrev pub ids_of : List (List ℕ × Json) → List (List ℕ)
ids_of documents = map (λ entry. entry.0) documents

-- the rows of ids that these writes aren't of
abbrev pub unchanged_rows : List (ℕ × Write) → List Row → List Row
unchanged_rows changes rows = filter (λ row. not (is_among changes row.id)) rows

-- the rows of a view after these writes: the rows of other ids stay, and those of these ids are what was emitted for each
abbrev pub updated_rows : List (ℕ × Write) → List (List ℕ) → List Row → List (List (Json × Json)) → List Row
updated_rows changes ids old emitted = sorted_rows (unchanged_rows changes old ++ emitted_rows ids emitted)

-- the same of each view
abbrev pub updated_views : List (ℕ × Write) → List (List ℕ) → List (List Row) → List (List (List (Json × Json))) → List (List Row)
updated_views changes ids [] emitted = []
updated_views changes ids (rows ∷ views) [] = []
updated_views changes ids (rows ∷ views) (lists ∷ emitted) = updated_rows changes ids rows lists ∷ updated_views changes ids views emitted

-- what the functions emit: for each view, a list for each document
abbrev pub emitted_for : Functions → List View → List (List ℕ × Json) → List (List (List (Json × Json)))
emitted_for functions views documents = map (λ view. map (emitted_by functions view.map) documents) views

-- the new picture is of the whole history. For each view there is a list of emissions for each mapped document that was
-- written since, which on an honest path is that of the map function.
pub record IsUpdated (functions : Functions) (honest : Type 0) (views : List View) (history : List Write) (old new : Picture) : Type 0 where
  pub emitted : List (List (List (Json × Json)))
  pub each_view : length emitted ≡ length views
  pub each_document : AllByRecursion (λ lists. length lists ≡ length (mapped_after old.seq history)) emitted
  pub right : honest → emitted ≡ emitted_for functions views (mapped_after old.seq history)
  pub seq : new.seq ≡ length history
  pub rows : new.rows ≡ updated_views (changes_after old.seq history) (ids_of (mapped_after old.seq history)) old.rows emitted

-- ---- what an update makes of one view

-- the new rows of a view are made of its own old rows and of what was emitted for it, which on an honest path is what its own map
-- function emits
pub record IsUpdatedView (functions : Functions) (honest : Type 0) (view : View) (history : List Write) (seq : ℕ) (old new : List Row) : Type 0 where
  pub emitted : List (List (Json × Json))
  pub each_document : length emitted ≡ length (mapped_after seq history)
  pub right : honest → emitted ≡ map (emitted_by functions view.map) (mapped_after seq history)
  pub rows : new ≡ updated_rows (changes_after seq history) (ids_of (mapped_after seq history)) old emitted

-- ---- what an update leaves free, whatever was emitted

-- the rows of an id are of one mapped document's emissions, with places from 0
pub record AreOfOne (history : List Write) (id : List ℕ) (rows : List Row) : Type 0 where
  pub emissions : List (Json × Json)
  pub is_mapped : emissions ≢ [] → (document : Json) × Contains (mapped history) (id, document)
  pub are : filter (λ row. bytes_eq id row.id) rows ≡ sorted_rows (rows_from 0 id emissions)

-- the new rows are in order, those of ids without a write since are the old ones, and those of each other id are of one
-- mapped document
pub record IsFreeUpdate (history : List Write) (seq : ℕ) (old new : List Row) : Type 0 where
  pub sorted : IsSorted rows_cmp new
  pub stay : unchanged_rows (changes_after seq history) new ≡ unchanged_rows (changes_after seq history) old
  pub others : (id : List ℕ) → is_among (changes_after seq history) id ≡ true → AreOfOne history id new

-- ---- emissions as they come, for each document a list for each view

-- what each of so many functions emitted for each document, from this function on
abbrev pub by_view : ℕ → ℕ → List (List (List (Json × Json))) → List (List (List (Json × Json)))
by_view from zero lists = []
by_view from (suc count) lists = emitted_at from lists ∷ by_view (suc from) count lists
