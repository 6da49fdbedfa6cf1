-- Where the rows of a document stand once the rows of documents are exchanged.
use Rattle.std.specs.Prelude.{◌≡◌, ◌+◌, ℕ, suc, List, [], ◌∷◌, ◌++◌, map, filter, length, Contains, Bool, true, false, not, ◌&&◌, bytes_eq, slice_index_or, refl}
use Rattle.std.specs.List.{AllByRecursion, IsDistinct}
use Rattle.std.specs.List.Sorted.{IsStrictlySortedBy}
use Rattle.std.proofs.Common.{inl, inr, ap, sym, ◌∙◌, subst, arith, append-nil, get_or}
use Rattle.std.proofs.lemmas.Bool.{and_right, cases_Bool, not_from_false, not_from_true, and_left}
use Rattle.std.proofs.lemmas.List.Elements.{filter-append, filter_agree}
use Rattle.std.proofs.lemmas.Slice.Eq.{bytes_eq-Decides}
use Rattle.json_terms.specs.Json.{Json}
use Rattle.json_terms.specs.declared.term.Row.{Row}
use Rattle.raw_collation.specs.Sorting.{sorted_rows}
use Rattle.builtin_reduces.specs.Kept.{item_cmp}
use Rattle.view_model.specs.Rows.{rows_from}
use Rattle.view_model.proofs.Lists.{filter_both}
use Rattle.view_model.proofs.Histories.{bytes_eq-sym}
use Rattle.view_model.proofs.SortedRows.{filter-sorted_rows, rows_from_fail, rows_from_pass}
use Rattle.reduce_tree.proofs.Order.{filter_none}
use Rattle.row_exchange.specs.declared.doc_rows.DocRows.{DocRows}
use Rattle.row_exchange.specs.Replaced.{each_from, ids_of, is_among, new_rows, of_others, replaced}
use Rattle.index_items.specs.BackIndex.{back_row, is_of, places_from}
use Rattle.index_items.proofs.Rising.{contains-cases, contains-none}
use Rattle.index_trees.specs.Edits.{new_places}
use Rattle.index_trees.proofs.ItemOrder.{rising_stay}
use Rattle.index_trees.proofs.Members.{any_from_member, any_none, contains-map, of_member}

-- ---- the ids of documents

-- a document among them has another id than the first, where all differ
apart_from : (id : List ℕ) (changes : List DocRows) (change : DocRows) → AllByRecursion (λ other. bytes_eq id other ≡ false) (ids_of changes) → Contains changes change
    → bytes_eq id change.id ≡ false
apart_from id changes change apart there = of_member (λ other. bytes_eq id other ≡ false) (ids_of changes) change.id apart (contains-map (λ (c : DocRows). c.id) changes change there)

differ_back : (a b : List ℕ) → bytes_eq a b ≡ false → bytes_eq b a ≡ false
differ_back a b differ = bytes_eq-sym b a ∙ differ

-- ---- the old rows of a document

module _ (these : List ℕ → Bool) (id : List ℕ) where
  -- the test of a row that stays and is of the document
  abbrev both : Row → Bool
  both row = not (these row.id) && is_of id row

  same_test : (row : Row) → bytes_eq row.id id ≡ true → these row.id ≡ these id
  same_test row same = ap these ((bytes_eq-Decides row.id id).0 same)

  kept_of : these id ≡ false → (row : Row) → both row ≡ is_of id row
  kept_of out row = elim (cases_Bool (bytes_eq row.id id)) [
    | inl same ↦ ap (λ b. b && is_of id row) (not_from_false (these row.id) (same_test row same ∙ out))
    | inr differ ↦ and_right (not (these row.id)) (is_of id row) differ ∙ sym differ
  ]

  gone_of : these id ≡ true → (row : Row) → both row ≡ false
  gone_of among row = elim (cases_Bool (bytes_eq row.id id)) [
    | inl same ↦ and_left (not (these row.id)) (is_of id row) (not_from_true (these row.id) (same_test row same ∙ among))
    | inr differ ↦ and_right (not (these row.id)) (is_of id row) differ
  ]

  old_stay : these id ≡ false → (rows : List Row) → filter (is_of id) (of_others these rows) ≡ filter (is_of id) rows
  old_stay out rows = filter_both (is_of id) (λ (row : Row). not (these row.id)) rows ∙ filter_agree both (is_of id) (kept_of out) rows

  old_go : these id ≡ true → (rows : List Row) → filter (is_of id) (of_others these rows) ≡ []
  old_go among rows = filter_both (is_of id) (λ (row : Row). not (these row.id)) rows ∙ filter_none both rows (λ k d within. gone_of among (get_or rows k d))

-- ---- and the new ones

new_of_first : (id : List ℕ) (change : DocRows) (changes : List DocRows) (view : ℕ)
    → filter (is_of id) (new_rows (change ∷ changes) view) ≡ filter (is_of id) (rows_from 0 change.id (slice_index_or change.rows view [])) ++ filter (is_of id) (new_rows changes view)
new_of_first id change changes view = filter-append (is_of id) (rows_from 0 change.id (slice_index_or change.rows view [])) (new_rows changes view)

none_new : (id : List ℕ) (changes : List DocRows) (view : ℕ) → AllByRecursion (λ other. bytes_eq id other ≡ false) (ids_of changes) → filter (is_of id) (new_rows changes view) ≡ []
none_new id [] view apart = refl
none_new id (c ∷ changes) view apart =
    let none : filter (is_of id) (rows_from 0 c.id (slice_index_or c.rows view [])) ≡ [] =
    rows_from_fail (λ other. bytes_eq other id) 0 c.id (slice_index_or c.rows view []) (differ_back id c.id apart.0) in
    new_of_first id c changes view ∙ ap (λ l. l ++ filter (is_of id) (new_rows changes view)) none ∙ none_new id changes view apart.1

own_new : (changes : List DocRows) (change : DocRows) (view : ℕ) → IsDistinct bytes_eq (ids_of changes) → Contains changes change
    → filter (is_of change.id) (new_rows changes view) ≡ rows_from 0 change.id (slice_index_or change.rows view [])
unfolding IsDistinct
own_new [] change view apart there = absurd (contains-none change there)
own_new (c ∷ changes) change view apart there =
    elim (contains-cases change c changes there) [
      | inl here ↦
          let own : List Row = rows_from 0 c.id (slice_index_or c.rows view []) in
          let pass : filter (is_of c.id) own ≡ own = rows_from_pass (λ other. bytes_eq other c.id) 0 c.id (slice_index_or c.rows view []) ((bytes_eq-Decides c.id c.id).1 refl) in
          let are : filter (is_of c.id) (new_rows (c ∷ changes) view) ≡ own =
          new_of_first c.id c changes view ∙ (λ i. pass i ++ none_new c.id changes view apart.0 i) ∙ append-nil own in
          subst (λ (d : DocRows). filter (is_of d.id) (new_rows (c ∷ changes) view) ≡ rows_from 0 d.id (slice_index_or d.rows view [])) here are
      | inr later ↦
          let none : filter (is_of change.id) (rows_from 0 c.id (slice_index_or c.rows view [])) ≡ [] =
          rows_from_fail (λ other. bytes_eq other change.id) 0 c.id (slice_index_or c.rows view []) (apart_from c.id changes change apart.0 later) in
          new_of_first change.id c changes view
          ∙ ap (λ l. l ++ filter (is_of change.id) (new_rows changes view)) none
          ∙ own_new changes change view apart.1 later
    ]

among_them : (changes : List DocRows) (change : DocRows) → Contains changes change → is_among (ids_of changes) change.id ≡ true
among_them changes change there =
    any_from_member (bytes_eq change.id) (ids_of changes) change.id (contains-map (λ (c : DocRows). c.id) changes change there) ((bytes_eq-Decides change.id change.id).1 refl)

-- ---- both together

module _ (changes : List DocRows) (id : List ℕ) (view : ℕ) (rows : List Row) where
  rows_after : filter (is_of id) (replaced changes view rows) ≡ sorted_rows (filter (is_of id) (of_others (is_among (ids_of changes)) rows) ++ filter (is_of id) (new_rows changes view))
  rows_after =
      let kept : List Row = of_others (is_among (ids_of changes)) rows in
      filter-sorted_rows (is_of id) (kept ++ new_rows changes view) ∙ ap sorted_rows (filter-append (is_of id) kept (new_rows changes view))

  -- another document's rows are what they were
  other_rows : is_among (ids_of changes) id ≡ false → IsStrictlySortedBy item_cmp rows → filter (is_of id) (replaced changes view rows) ≡ filter (is_of id) rows
  other_rows out rise =
      let old : filter (is_of id) (of_others (is_among (ids_of changes)) rows) ≡ filter (is_of id) rows = old_stay (is_among (ids_of changes)) id out rows in
      let new : filter (is_of id) (new_rows changes view) ≡ [] = none_new id changes view (any_none (bytes_eq id) (ids_of changes) out) in
      rows_after
      ∙ (λ i. sorted_rows (old i ++ new i))
      ∙ ap sorted_rows (append-nil (filter (is_of id) rows))
      ∙ sym (filter-sorted_rows (is_of id) rows)
      ∙ ap (filter (is_of id)) (rising_stay rows rise)

-- a changed document has its new rows
changed_rows : (changes : List DocRows) (change : DocRows) (view : ℕ) (rows : List Row) → IsDistinct bytes_eq (ids_of changes) → Contains changes change
    → filter (is_of change.id) (replaced changes view rows) ≡ sorted_rows (rows_from 0 change.id (slice_index_or change.rows view []))
changed_rows changes change view rows apart there =
    let old = old_go (is_among (ids_of changes)) change.id (among_them changes change there) rows in
    let new = own_new changes change view apart there in
    rows_after changes change.id view rows ∙ (λ i. sorted_rows (old i ++ new i))

-- ---- of all views

-- a document that isn't one of these has its places still
pub other_places : (changes : List DocRows) (id : List ℕ) → is_among (ids_of changes) id ≡ false → (from : ℕ) (views : List (List Row)) → AllByRecursion (IsStrictlySortedBy item_cmp) views
    → places_from from (each_from (replaced changes) from views) id ≡ places_from from views id
other_places changes id out from [] rise = refl
other_places changes id out from (rows ∷ views) rise =
    let first : filter (is_of id) (replaced changes from rows) ≡ filter (is_of id) rows = other_rows changes id from rows out rise.0 in
    let rest = other_places changes id out (suc from) views rise.1 in
    λ i. map (back_row from) (first i) ++ rest i

-- and each of these its new ones
pub changed_places : (changes : List DocRows) (change : DocRows) → IsDistinct bytes_eq (ids_of changes) → Contains changes change
    → (from : ℕ) (views : List (List Row)) (lists : List (List (Json × Json))) → length lists ≡ length views
    → ((k : ℕ) → slice_index_or change.rows (from + k) [] ≡ slice_index_or lists k [])
    → places_from from (each_from (replaced changes) from views) change.id ≡ new_places from change.id lists
changed_places changes change apart there from [] [] same at = refl
changed_places changes change apart there from [] (list ∷ lists) same at = absurd (omega (arith, same))
changed_places changes change apart there from (rows ∷ views) [] same at = absurd (omega (arith, same))
changed_places changes change apart there from (rows ∷ views) (list ∷ lists) same at =
    let here : from ≡ from + 0 = omega arith in
    let next : (k : ℕ) → suc from + k ≡ from + suc k = λ k. omega arith in
    let emitted : slice_index_or change.rows from [] ≡ list = ap (λ n. slice_index_or change.rows n []) here ∙ at 0 in
    let first : filter (is_of change.id) (replaced changes from rows) ≡ sorted_rows (rows_from 0 change.id list) =
    changed_rows changes change from rows apart there ∙ ap (λ l. sorted_rows (rows_from 0 change.id l)) emitted in
    let rest = changed_places changes change apart there (suc from) views lists (omega (arith, same)) (λ k. ap (λ n. slice_index_or change.rows n []) (next k) ∙ at (suc k)) in
    λ i. map (back_row from) (first i) ++ rest i
