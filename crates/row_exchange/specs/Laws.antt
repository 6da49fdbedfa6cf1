-- Laws of replacements.
use Rattle.std.specs.Prelude.{◌≡◌, ◌+◌, ℕ, List, [], ◌++◌, map, length, take, drop, false}
use Rattle.std.specs.List.{AllByRecursion}
use Rattle.json_terms.specs.Json.{Json}
use Rattle.json_terms.specs.declared.term.Row.{Row}
use Rattle.design_docs.specs.History.{Write, changes_after, mapped_after}
use Rattle.raw_collation.specs.Sorting.{sorted_rows}
use Rattle.view_model.specs.Since.{mapped_of}
use Rattle.view_model.specs.Update.{by_view, updated_views, ids_of as ids_of_documents}
use Rattle.row_exchange.specs.declared.doc_rows.DocRows.{DocRows}
use Rattle.row_exchange.specs.Changed.{changed_rows}
use Rattle.row_exchange.specs.Replaced.{ids_of, is_among, replaced_views}

-- a replacement of the rows of all documents that were written since is an update, where these lists are what was emitted for the
-- mapped ones in their order
abbrev pub ReplacementsAreUpdates : Type 0
ReplacementsAreUpdates =
    (history : List Write) (seq count : ℕ) (lists : List (List (List (Json × Json)))) (views : List (List Row)) → length views ≡ count
    → replaced_views (changed_rows count (changes_after seq history) lists) views
    ≡ updated_views (changes_after seq history) (ids_of_documents (mapped_after seq history)) views (by_view 0 count lists)

-- two replacements one after another are one of all their documents, where no id of the first is among those of the second
abbrev pub ReplacementsGoInBatches : Type 0
ReplacementsGoInBatches =
    (changes more : List DocRows) (views : List (List Row)) → AllByRecursion (λ id. is_among (ids_of more) id ≡ false) (ids_of changes)
    → replaced_views more (replaced_views changes views) ≡ replaced_views (changes ++ more) views

-- so the writes since a sequence may be taken page by page, each page with the lists of its own mapped documents
abbrev pub ReplacementsGoInPages : Type 0
ReplacementsGoInPages =
    (history : List Write) (seq count done page : ℕ) (lists rest : List (List (List (Json × Json)))) (views : List (List Row))
    → length lists ≡ length (mapped_of (take done (changes_after seq history)))
    → replaced_views (changed_rows count (take page (drop done (changes_after seq history))) rest)
    (replaced_views (changed_rows count (take done (changes_after seq history)) lists) views)
    ≡ replaced_views (changed_rows count (take (done + page) (changes_after seq history)) (lists ++ rest)) views

-- and a replacement of no document leaves the rows of each view, in order
abbrev pub ReplacementsOfNothing : Type 0
ReplacementsOfNothing = (views : List (List Row)) → replaced_views [] views ≡ map sorted_rows views
