-- The laws on which an index stands.
use Rattle.std.specs.Prelude.{take, ◌≡◌, ◌-◌, ◌++◌, map, filter, drop, bytes_eq, nat_lt, if◌then◌else◌, ◌≤◌, ℕ, List, [], ◌∷◌, length, false, IsPermutation, IsSorted, None, ◌<◌, slice_index_or}
use Rattle.std.specs.List.{AllByRecursion, AllZip, IsDistinct}
use Rattle.raw_collation.specs.Collation.{rows_cmp}
use Rattle.raw_collation.specs.Sorting.{sorted_rows}
use Rattle.view_ports.specs.Functions.{Functions}
use Rattle.design_docs.specs.History.{Write, changes_after, last_seq, mapped, mapped_after}
use Rattle.view_model.specs.Since.{first, is_among, mapped_of}
use Rattle.view_model.specs.Rows.{view_rows, emitted_rows, inserted, emitted_by, rows_of, spoiled, maps_compile, some_reduce_fails, has_some, same_place, RiseStrictly}
use Rattle.view_model.specs.Picture.{Picture, IsTrueOf, picture_or_none, IsShaped}
use Rattle.view_model.specs.Update.{by_view, emitted_for, ids_of, unchanged_rows, updated_rows, IsFreeUpdate, IsUpdated, IsUpdatedView}
use Rattle.json_terms.specs.Json.{Json}
use Rattle.json_terms.specs.declared.term.Row.{Row}
use Rattle.design_docs.specs.declared.design.View.{View}

-- the documents that were written since are of distinct ids
abbrev pub MapsDistinctIds : Type 0
MapsDistinctIds = (history : List Write) (seq : ℕ) → IsDistinct bytes_eq (ids_of (mapped_after seq history))

-- an id has a write since where its last write is after the sequence
abbrev pub ChangedIsWrittenSince : Type 0
ChangedIsWrittenSince = (history : List Write) (seq : ℕ) (id : List ℕ) → is_among (changes_after seq history) id ≡ nat_lt seq (last_seq history id)

-- and the documents since are those whose last write is
abbrev pub MapsWrittenSince : Type 0
MapsWrittenSince = (history : List Write) (seq : ℕ) → mapped_after seq history ≡ filter (λ entry. nat_lt seq (last_seq history entry.0)) (mapped_after 0 history)

-- the first writes are all but the newest
abbrev pub FirstDropsNewest : Type 0
FirstDropsNewest = (count : ℕ) (history : List Write) → first count history ≡ drop (length history - count) history

module _ (functions : Functions) (honest : Type 0) (views : List View) where
  -- an update of a true picture on an honest path gives the rows that mapping all documents afresh gives
  abbrev pub UpdatesAreAfresh : Type 0
  UpdatesAreAfresh = (history : List Write) (old new : Picture) → IsTrueOf functions views history old → honest → IsUpdated functions honest views history old new → new.rows ≡ rows_of functions views history

  -- so it is true, where the views can be answered
  abbrev pub UpdatesStayTrue : Type 0
  UpdatesStayTrue = (history : List Write) (old new : Picture) → IsTrueOf functions views history old → honest → IsUpdated functions honest views history old new → spoiled functions views history ≡ false → IsTrueOf functions views history new

  -- whether the views are spoiled is met in the update: where a map source doesn't compile in that a document is mapped, and
  -- else in the new rows
  abbrev pub IsSpoiledAsMet : Type 0
  IsSpoiledAsMet =
      (history : List Write) (old new : Picture) → IsTrueOf functions views history old → honest → IsUpdated functions honest views history old new
      → spoiled functions views history ≡ (if maps_compile functions views then some_reduce_fails functions views new.rows else has_some (mapped_after old.seq history))

  -- there is an update of each picture
  abbrev pub UpdatesExist : Type 0
  UpdatesExist = (history : List Write) (old : Picture) → (new : Picture) × IsUpdated functions honest views history old new

  -- whatever was emitted, rows of ids without a write since stay, and the others are of mapped documents, in order
  abbrev pub UpdatesAreFree : Type 0
  UpdatesAreFree =
      (history : List Write) (old new : Picture) → length old.rows ≡ length views → AllByRecursion (IsSorted rows_cmp) old.rows
      → IsUpdated functions honest views history old new → AllZip (IsFreeUpdate history old.seq) old.rows new.rows

  -- whatever was emitted, in each view the rows of ids without a write since are the old ones, in their order
  abbrev pub RowsOfOthers : Type 0
  RowsOfOthers =
      (history : List Write) (old new : Picture) → length old.rows ≡ length views → AllByRecursion (IsSorted rows_cmp) old.rows → IsUpdated functions honest views history old new
      → map (unchanged_rows (changes_after old.seq history)) new.rows ≡ map (unchanged_rows (changes_after old.seq history)) old.rows

  -- so where nothing was written since, all rows stay
  abbrev pub UpdatesOfNothing : Type 0
  UpdatesOfNothing =
      (history : List Write) (old new : Picture) → length old.rows ≡ length views → AllByRecursion (IsSorted rows_cmp) old.rows → IsUpdated functions honest views history old new
      → old.seq ≡ length history → new.rows ≡ old.rows

  -- and each view is updated by itself, so that no row of one gets into another
  abbrev pub ViewsAreUpdatedApart : Type 0
  ViewsAreUpdatedApart =
      (history : List Write) (old new : Picture) → length old.rows ≡ length views → IsUpdated functions honest views history old new
      → (place : ℕ) (view : View) → place < length views
      → IsUpdatedView functions honest (slice_index_or views place view) history old.seq (slice_index_or old.rows place []) (slice_index_or new.rows place [])

  -- and the shape stays
  abbrev pub UpdatesKeepShape : Type 0
  UpdatesKeepShape = (history : List Write) (old new : Picture) → IsShaped views old → IsUpdated functions honest views history old new → IsShaped views new

module _ (functions : Functions) (views : List View) where
  -- no picture is a true one
  abbrev pub NoPictureIsTrue : Type 0
  NoPictureIsTrue = (history : List Write) → IsTrueOf functions views history (picture_or_none views None)

  -- a true picture has the shape of the views
  abbrev pub TruePicturesAreShaped : Type 0
  TruePicturesAreShaped = (history : List Write) (picture : Picture) → IsTrueOf functions views history picture → IsShaped views picture

  -- a write leaves a true picture true
  abbrev pub StaysTrue : Type 0
  StaysTrue = (history : List Write) (write : Write) (picture : Picture) → IsTrueOf functions views history picture → IsTrueOf functions views (write ∷ history) picture

  -- a true picture is true of the first writes, as far as they reach its sequence
  abbrev pub IsTrueBefore : Type 0
  IsTrueBefore =
      (history : List Write) (count : ℕ) (picture : Picture) → picture.seq ≤ count → IsTrueOf functions views history picture → IsTrueOf functions views (first count history) picture

  -- where a map source doesn't compile, a true picture has mapped no document, so an update maps all
  abbrev pub ComplaintsMeetAll : Type 0
  ComplaintsMeetAll =
      (history : List Write) (picture : Picture) → IsTrueOf functions views history picture → maps_compile functions views ≡ false → IsPermutation (mapped history) (mapped_after picture.seq history)

  -- and the views are spoiled where it maps one
  abbrev pub IsSpoiledByMapped : Type 0
  IsSpoiledByMapped =
      (history : List Write) (picture : Picture) → IsTrueOf functions views history picture → maps_compile functions views ≡ false → spoiled functions views history ≡ has_some (mapped_after picture.seq history)

-- emissions document by document are taken view by view: so many as there are views and documents
abbrev pub AreTakenByView : Type 0
AreTakenByView =
    (count : ℕ) (lists : List (List (List (Json × Json)))) → (length (by_view 0 count lists) ≡ count) × AllByRecursion (λ column. length column ≡ length lists) (by_view 0 count lists)

-- and those of the functions where they are these
abbrev pub AreEmittedByView : Type 0
AreEmittedByView =
    (functions : Functions) (views : List View) (documents : List (List ℕ × Json))
    → by_view 0 (length views) (map (λ entry. map (λ view. emitted_by functions view.map entry) views) documents) ≡ emitted_for functions views documents

-- two updates one after another are one of all their writes, where no id of the first has a write in the second
abbrev pub UpdatesGoInBatches : Type 0
UpdatesGoInBatches =
    (changes more : List (ℕ × Write)) (ids others : List (List ℕ)) (old : List Row) (emitted rest : List (List (Json × Json)))
    → length ids ≡ length emitted → AllByRecursion (λ id. is_among more id ≡ false) ids
    → updated_rows more others (updated_rows changes ids old emitted) rest ≡ updated_rows (changes ++ more) (ids ++ others) old (emitted ++ rest)

-- rows are in order as inserting them one after another gives it, each before the first greater one
abbrev pub AreInsertedInOrder : Type 0
AreInsertedInOrder = (rows : List Row) → inserted [] rows ≡ sorted_rows rows

-- a list in order with the rows of ids that stay and the emitted ones is the updated one
abbrev pub IsUpdatedInOrder : Type 0
IsUpdatedInOrder =
    (changes : List (ℕ × Write)) (ids : List (List ℕ)) (old new : List Row) (emitted : List (List (Json × Json)))
    → IsSorted rows_cmp new → IsPermutation (unchanged_rows changes old ++ emitted_rows ids emitted) new → new ≡ updated_rows changes ids old emitted

-- what the functions emit for the documents by sequence are the rows of the view
abbrev pub RowsAreBySequence : Type 0
RowsAreBySequence =
    (functions : Functions) (source : List ℕ) (history : List Write)
    → sorted_rows (emitted_rows (ids_of (mapped_after 0 history)) (map (emitted_by functions source) (mapped_after 0 history))) ≡ view_rows functions source history

-- the rows of a view rise strictly
abbrev pub RowsRise : Type 0
RowsRise = (functions : Functions) (source : List ℕ) (history : List Write) → RiseStrictly (view_rows functions source history)

-- rows that rise strictly are in order
abbrev pub RisingRowsAreSorted : Type 0
RisingRowsAreSorted = (rows : List Row) → RiseStrictly rows → IsSorted rows_cmp rows

-- updated rows rise strictly where no two old ones have one id and place
abbrev pub UpdatesRise : Type 0
UpdatesRise =
    (history : List Write) (seq : ℕ) (old : List Row) (emitted : List (List (Json × Json))) → IsDistinct same_place old
    → RiseStrictly (updated_rows (changes_after seq history) (ids_of (mapped_after seq history)) old emitted)

-- so an update may take the writes page by page
abbrev pub UpdatesGoInPages : Type 0
UpdatesGoInPages =
    (history : List Write) (seq count : ℕ) (old : List Row) (emitted rest : List (List (Json × Json)))
    → length emitted ≡ length (mapped_of (take count (changes_after seq history)))
    → updated_rows (drop count (changes_after seq history)) (ids_of (mapped_of (drop count (changes_after seq history))))
    (updated_rows (take count (changes_after seq history)) (ids_of (mapped_of (take count (changes_after seq history)))) old emitted) rest
    ≡ updated_rows (changes_after seq history) (ids_of (mapped_after seq history)) old (emitted ++ rest)
