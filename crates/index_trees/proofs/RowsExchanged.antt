-- The edits of a view make of its rows what the exchange of the documents' rows makes of them.
use Rattle.std.specs.Prelude.{◌≡◌, ◌≢◌, ℕ, List, [], ◌++◌, map, true, false, not, bytes_eq, nat_eq, Contains, IsPermutation, IsSorted, slice_index_or, refl}
use Rattle.std.specs.Cmp.{IsTotalOrder}
use Rattle.std.specs.List.{AllByRecursion, IsDistinct}
use Rattle.std.specs.List.Sorted.{IsStrictlySortedBy}
use Rattle.std.specs.Ordering.{eq_by_cmp}
use Rattle.std.specs.declared.cmp.Ordering.{Ordering}
use Rattle.std.specs.declared.cmp.Ordering.TheVariants.{Equal}
use Rattle.std.proofs.Common.{inl, inr, ap, sym, ◌∙◌, subst}
use Rattle.std.proofs.lemmas.Bool.{and_from, eq-eqb, false≢true, not-true, not_from_false}
use Rattle.std.proofs.lemmas.Cmp.{eq_by_cmp_equiv, on_total}
use Rattle.std.proofs.lemmas.List.Elements.{Contains-append_cases, Contains-append_left, Contains-append_right}
use Rattle.std.proofs.lemmas.List.Sorted.{All-permutation, Contains-permutation, IsPermutation-sym}
use Rattle.std.proofs.lemmas.Map.Keys.{IsDistinct-from_sorted, IsDistinct-IsPermutation}
use Rattle.std.proofs.lemmas.Slice.Eq.{bytes_eq-Decides}
use Rattle.json_terms.specs.declared.term.Row.{Row}
use Rattle.raw_collation.specs.Sorting.{sorted_rows}
use Rattle.raw_collation.proofs.SortedRows.{sorted_rows_is_sorted, sorted_rows_permutes}
use Rattle.view_model.specs.Rows.{emitted_at, same_place}
use Rattle.view_model.proofs.Strict.{all_each, distinct_append, distinct_part, emitted_apart, emitted_ids}
use Rattle.reduce_tree.specs.declared.edit.Edit.{Edit}
use Rattle.reduce_tree.specs.declared.edit.Edit.TheVariants.{Insert}
use Rattle.reduce_tree.specs.Applied.{applied, edit_key, AreEdits, IsEdited}
use Rattle.reduce_tree.proofs.Made.{made}
use Rattle.builtin_reduces.specs.ItemLaws.{item_cmp_total}
use Rattle.builtin_reduces.specs.Kept.{item_cmp}
use Rattle.row_exchange.specs.declared.doc_rows.DocRows.{DocRows}
use Rattle.row_exchange.specs.Replaced.{ids_of, is_among, new_rows, of_others, replaced}
use Rattle.index_items.proofs.Rising.{rising_same}
use Rattle.index_trees.specs.Edits.{old_places, view_edits}
use Rattle.index_trees.proofs.ItemOrder.{differ_unless, rises_strictly, sorted_items}
use Rattle.index_trees.proofs.Members.{any_from_member, contains-filter, distinct_also, each_member, from_filter}
use Rattle.index_trees.proofs.RowPlaces.{all_edits, view_edits_are}
use Rattle.index_trees.proofs.RowsApart.{edits_apart, name_one}
use Rattle.index_trees.proofs.RowsNamed.{comes_in, is_new, others_unnamed, unnamed_of_others}

-- the order of the edits
abbrev pub edit_cmp : Edit Row → Edit Row → Ordering
edit_cmp a b = item_cmp (edit_key a) (edit_key b)

edit_cmp_total : IsTotalOrder edit_cmp
edit_cmp_total = on_total edit_key item_cmp_total

-- sorted edits of documents with ids of their own, over the rows of a view where they stood
pub record AreSortedEdits (view : ℕ) (changes : List DocRows) (views : List (List Row)) (rows : List Row) (edits : List (Edit Row)) : Type 0 where
  pub ids : IsDistinct bytes_eq (ids_of changes)
  pub are : rows ≡ slice_index_or views view []
  pub rise : IsStrictlySortedBy item_cmp rows
  pub permutation : IsPermutation (view_edits view changes (old_places changes views)) edits
  pub sorted : IsSorted edit_cmp edits

module _ (view : ℕ) (changes : List DocRows) (views : List (List Row)) (rows : List Row) (edits : List (Edit Row)) (given : AreSortedEdits view changes views rows edits) where
  all : List (Edit Row)
  all = all_edits view changes rows

  permuted : IsPermutation all edits
  unfolding all
  permuted = subst (λ l. IsPermutation l edits) (view_edits_are view views rows given.are changes) given.permutation

  -- the edits name their rows in order, each once
  pub edits_rise : AreEdits item_cmp edits
  unfolding all
  edits_rise = rises_strictly edit_cmp_total edits given.sorted
      (IsDistinct-IsPermutation name_one (eq_by_cmp_equiv edit_cmp_total).symm all edits permuted (edits_apart view changes rows given.ids given.rise))

  -- ---- the rows afterwards rise

  stay : List Row
  stay = of_others (is_among (ids_of changes)) rows

  come : List Row
  come = new_rows changes view

  come_apart : IsDistinct (eq_by_cmp item_cmp) come
  unfolding come
  come_apart = distinct_also same_place (eq_by_cmp item_cmp) (λ a b apart. differ_unless a b (λ tied.
      false≢true (sym apart ∙ and_from (bytes_eq a.id b.id) (nat_eq a.place b.place) ((bytes_eq-Decides a.id b.id).1 tied.ids) (eq-eqb a.place b.place tied.places)))) come
      (emitted_apart (ids_of changes) (emitted_at view (map (λ (change : DocRows). change.rows) changes)) given.ids)

  differ : (row other : Row) → is_among (ids_of changes) row.id ≡ false → is_among (ids_of changes) other.id ≡ true → eq_by_cmp item_cmp row other ≡ false
  differ row other out within = differ_unless row other (λ tied. false≢true (sym out ∙ ap (is_among (ids_of changes)) tied.ids ∙ within))

  each_among : AllByRecursion (λ (row : Row). is_among (ids_of changes) row.id ≡ true) come
  unfolding come
  each_among = emitted_ids (λ id. is_among (ids_of changes) id ≡ true) (ids_of changes) (emitted_at view (map (λ (change : DocRows). change.rows) changes))
      (each_member (λ id. is_among (ids_of changes) id ≡ true) (ids_of changes) (λ id there. any_from_member (bytes_eq id) (ids_of changes) id there ((bytes_eq-Decides id id).1 refl)))

  across : AllByRecursion (λ row. AllByRecursion (λ other. eq_by_cmp item_cmp row other ≡ false) come) stay
  unfolding stay
  across = each_member (λ row. AllByRecursion (λ other. eq_by_cmp item_cmp row other ≡ false) come) stay (λ row there.
      let out = not-true (is_among (ids_of changes) row.id) (from_filter (λ (r : Row). not (is_among (ids_of changes) r.id)) rows row there).1 in
      all_each (λ (other : Row). is_among (ids_of changes) other.id ≡ true) (λ other. eq_by_cmp item_cmp row other ≡ false) (λ other within. differ row other out within) come each_among)

  both_apart : IsDistinct (eq_by_cmp item_cmp) (stay ++ come)
  unfolding stay
  both_apart = distinct_append (eq_by_cmp item_cmp) stay come (distinct_part (eq_by_cmp item_cmp) (λ row. not (is_among (ids_of changes) row.id)) rows (IsDistinct-from_sorted item_cmp rows given.rise)) come_apart across

  replaced_rise : IsStrictlySortedBy item_cmp (replaced changes view rows)
  unfolding stay come
  replaced_rise = rises_strictly item_cmp_total (sorted_rows (stay ++ come)) (sorted_items (sorted_rows (stay ++ come)) (sorted_rows_is_sorted (stay ++ come)))
      (IsDistinct-IsPermutation (eq_by_cmp item_cmp) (eq_by_cmp_equiv item_cmp_total).symm (stay ++ come) (sorted_rows (stay ++ come)) (sorted_rows_permutes (stay ++ come)) both_apart)

  -- ---- and are the same

  is_edited : IsEdited item_cmp edits rows (applied item_cmp edits rows)
  is_edited = made item_cmp item_cmp_total edits rows edits_rise given.rise

  there_after : (row : Row) → Contains (applied item_cmp edits rows) row → Contains (replaced changes view rows) row
  unfolding all stay come
  there_after row there = Contains-permutation (stay ++ come) (sorted_rows (stay ++ come)) row (sorted_rows_permutes (stay ++ come)) (elim (is_edited.only row there) [
    | inl comes ↦ Contains-append_right stay come row (is_new view rows changes row (Contains-permutation edits all (Insert row) (IsPermutation-sym all edits permuted) comes))
    | inr stays ↦ Contains-append_left stay come row (contains-filter (λ (r : Row). not (is_among (ids_of changes) r.id)) rows row stays.0 (not_from_false (is_among (ids_of changes) row.id)
        (unnamed_of_others view rows row stays.0 changes (All-permutation (λ e. item_cmp row (edit_key e) ≢ Equal) edits all (IsPermutation-sym all edits permuted) stays.1))))
  ])

  there_before : (row : Row) → Contains (replaced changes view rows) row → Contains (applied item_cmp edits rows) row
  unfolding all stay come
  there_before row there = elim (Contains-append_cases stay come row (Contains-permutation (sorted_rows (stay ++ come)) (stay ++ come) row (IsPermutation-sym (stay ++ come) (sorted_rows (stay ++ come)) (sorted_rows_permutes (stay ++ come))) there)) [
    | inl stays ↦ (
        let old = from_filter (λ (r : Row). not (is_among (ids_of changes) r.id)) rows row stays in
        is_edited.stays row old.0 (All-permutation (λ e. item_cmp row (edit_key e) ≢ Equal) all edits permuted (others_unnamed view changes rows row (not-true (is_among (ids_of changes) row.id) old.1)))
        )
    | inr comes ↦ is_edited.comes row (Contains-permutation all edits (Insert row) permuted (comes_in view rows changes row comes))
  ]

  pub rows_exchanged : applied item_cmp edits rows ≡ replaced changes view rows
  rows_exchanged = rising_same item_cmp item_cmp_total (applied item_cmp edits rows) (replaced changes view rows) is_edited.rises replaced_rise (λ row. (there_after row, there_before row))
