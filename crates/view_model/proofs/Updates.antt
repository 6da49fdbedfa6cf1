-- An update of a true picture gives the rows of the whole history.
use Rattle.std.specs.Prelude.{◌≡◌, ℕ, List, [], ◌∷◌, ◌++◌, map, filter, refl, not, length, suc, IsPermutation}
use Rattle.std.specs.List.{flat_map, AllByRecursion}
use Rattle.std.proofs.Common.{ap, sym, ◌∙◌, arith}
use Rattle.std.proofs.lemmas.List.Sorted.{IsPermutation-refl, IsPermutation-sym, IsPermutation-trans, IsPermutation-append}
use Rattle.json_terms.specs.Json.{Json}
use Rattle.json_terms.specs.declared.term.Row.{Row}
use Rattle.raw_collation.specs.Sorting.{sorted_rows}
use Rattle.raw_collation.proofs.SortedRows.{sorted_rows_permutes, sorted_rows-permutation}
use Rattle.view_ports.specs.Functions.{Functions}
use Rattle.design_docs.specs.History.{Write, changes_after, mapped, mapped_after}
use Rattle.view_model.specs.Since.{first, is_among}
use Rattle.view_model.specs.Rows.{document_rows, emitted_by, view_rows, rows_of, spoiled}
use Rattle.view_model.specs.Picture.{Picture}
use Rattle.view_model.specs.Update.{ids_of, unchanged_rows, updated_rows, updated_views, emitted_for}
use Rattle.view_model.specs.Laws.{RowsAreBySequence, UpdatesAreAfresh, UpdatesExist, UpdatesStayTrue}
use Rattle.view_model.proofs.Lists.{filter-permutation, flat_map-permutation, flat_map-append}
use Rattle.view_model.proofs.Histories.{mapped_since}
use Rattle.view_model.proofs.Firsts.{first_all}
use Rattle.design_docs.proofs.MappedOrder.{mapped_listed}
use Rattle.view_model.proofs.SortedRows.{emitted_rows-are, rows-filter}
use Rattle.design_docs.specs.declared.design.View.{View}

-- ---- one view

module _ (functions : Functions) (source : List ℕ) where
  abbrev rows : List (List ℕ × Json) → List Row
  rows = flat_map (document_rows functions source)

  -- the rows may be those of the documents by sequence
  pub view_rows-by_sequence : (history : List Write) → IsPermutation (rows (mapped_after 0 history)) (view_rows functions source history)
  view_rows-by_sequence history =
      IsPermutation-trans (rows (mapped_after 0 history)) (rows (mapped history)) (view_rows functions source history)
      (IsPermutation-sym (rows (mapped history)) (rows (mapped_after 0 history)) (flat_map-permutation (document_rows functions source) (mapped history) (mapped_after 0 history) (mapped_listed history)))
      (sorted_rows_permutes (rows (mapped history)))

  pub view_rows-sequence : (history : List Write) → view_rows functions source history ≡ sorted_rows (rows (mapped_after 0 history))
  view_rows-sequence history =
      sorted_rows-permutation (rows (mapped history)) (rows (mapped_after 0 history)) (flat_map-permutation (document_rows functions source) (mapped history) (mapped_after 0 history) (mapped_listed history))

  -- the rows of the whole history are those before of ids that didn't change, and those of the documents since
  pub rows_since : (seq : ℕ) (history : List Write)
      → rows (mapped_after 0 history) ≡ unchanged_rows (changes_after seq history) (rows (mapped_after 0 (first seq history))) ++ rows (mapped_after seq history)
  rows_since seq history =
      let changes : List (ℕ × Write) = changes_after seq history in
      let before : List (List ℕ × Json) = mapped_after 0 (first seq history) in
      ap rows (mapped_since seq history)
      ∙ flat_map-append (document_rows functions source) (filter (λ (entry : List ℕ × Json). not (is_among changes entry.0)) before) (mapped_after seq history)
      ∙ ap (λ l. l ++ rows (mapped_after seq history)) (rows-filter (λ id. not (is_among changes id)) functions source before)

  pub view_is_afresh : (seq : ℕ) (history : List Write)
      → updated_rows (changes_after seq history) (ids_of (mapped_after seq history)) (view_rows functions source (first seq history)) (map (emitted_by functions source) (mapped_after seq history))
      ≡ view_rows functions source history
  view_is_afresh seq history =
      let changes : List (ℕ × Write) = changes_after seq history in
      let old : List Row = view_rows functions source (first seq history) in
      let before : List Row = rows (mapped_after 0 (first seq history)) in
      let new : List Row = rows (mapped_after seq history) in
      let same : IsPermutation (unchanged_rows changes before) (unchanged_rows changes old) =
      filter-permutation (λ (row : Row). not (is_among changes row.id)) before old (view_rows-by_sequence (first seq history)) in
      ap (λ l. sorted_rows (unchanged_rows changes old ++ l)) (emitted_rows-are functions source (mapped_after seq history))
      ∙ sym (sorted_rows-permutation (unchanged_rows changes before ++ new) (unchanged_rows changes old ++ new)
      (IsPermutation-append (unchanged_rows changes before) (unchanged_rows changes old) new new same (IsPermutation-refl new)))
      ∙ ap sorted_rows (sym (rows_since seq history))
      ∙ sym (view_rows-sequence history)

-- ---- all views

pub views_are_afresh : (functions : Functions) (views : List View) (seq : ℕ) (history : List Write)
    → updated_views (changes_after seq history) (ids_of (mapped_after seq history)) (rows_of functions views (first seq history)) (emitted_for functions views (mapped_after seq history))
    ≡ rows_of functions views history
views_are_afresh functions [] seq history = refl
views_are_afresh functions (view ∷ views) seq history =
    ap (λ (r : List Row). r ∷ updated_views (changes_after seq history) (ids_of (mapped_after seq history)) (rows_of functions views (first seq history)) (emitted_for functions views (mapped_after seq history)))
    (view_is_afresh functions view.map seq history)
    ∙ ap (λ l. view_rows functions view.map history ∷ l) (views_are_afresh functions views seq history)

-- ---- an update with what the functions emit

pub same_length : {X Y : Type 0} (f : X → Y) (xs : List X) → length (map f xs) ≡ length xs
same_length f [] = refl
same_length f (x ∷ xs) = ap suc (same_length f xs)

each_emitted : (functions : Functions) (views : List View) (documents : List (List ℕ × Json)) → AllByRecursion (λ lists. length lists ≡ length documents) (emitted_for functions views documents)
each_emitted functions [] documents = tt
each_emitted functions (view ∷ views) documents = (same_length (emitted_by functions view.map) documents, each_emitted functions views documents)

module _ (functions : Functions) (honest : Type 0) (views : List View) where
  pub updates_exist : UpdatesExist functions honest views
  updates_exist history old =
      let documents : List (List ℕ × Json) = mapped_after old.seq history in
      let emitted : List (List (List (Json × Json))) = emitted_for functions views documents in
      let new : Picture = record { seq = length history; rows = updated_views (changes_after old.seq history) (ids_of documents) old.rows emitted } in (
        new,
        record {
          emitted = emitted;
          each_view = same_length (λ (view : View). map (emitted_by functions view.map) documents) views;
          each_document = each_emitted functions views documents;
          right = λ is_honest. refl;
          seq = refl;
          rows = refl;
        },
      )

  pub updates_are_afresh : UpdatesAreAfresh functions honest views
  updates_are_afresh history old new is_true is_honest updated =
      let changes : List (ℕ × Write) = changes_after old.seq history in
      let ids : List (List ℕ) = ids_of (mapped_after old.seq history) in
      updated.rows
      ∙ ap (λ l. updated_views changes ids l updated.emitted) is_true.rows
      ∙ ap (updated_views changes ids (rows_of functions views (first old.seq history))) (updated.right is_honest)
      ∙ views_are_afresh functions views old.seq history

  pub updates_stay_true : UpdatesStayTrue functions honest views
  updates_stay_true history old new is_true is_honest updated sound =
      let all : first new.seq history ≡ history = first_all new.seq history (omega (arith, updated.seq)) in
      record {
        within = omega (arith, updated.seq);
        rows = updates_are_afresh history old new is_true is_honest updated ∙ ap (rows_of functions views) (sym all);
        sound = ap (spoiled functions views) all ∙ sound;
      }

pub rows_are_by_sequence : RowsAreBySequence
rows_are_by_sequence functions source history =
    ap sorted_rows (emitted_rows-are functions source (mapped_after 0 history)) ∙ sym (view_rows-sequence functions source history)
