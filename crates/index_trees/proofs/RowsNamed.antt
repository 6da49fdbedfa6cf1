-- Which rows the edits of a view name, and which they insert.
use Rattle.std.specs.Prelude.{◌≡◌, ◌≢◌, ℕ, List, [], ◌∷◌, map, filter, Bool, true, false, not, ◌&&◌, bytes_eq, nat_eq, Contains, slice_index_or, refl}
use Rattle.std.specs.Ordering.{is_eq}
use Rattle.std.specs.declared.cmp.Ordering.TheVariants.{Equal}
use Rattle.std.proofs.Common.{inl, inr, sym, ◌∙◌, subst}
use Rattle.std.proofs.lemmas.Bool.{and_from, and_parts, cases_Bool, eqb-true, false≢true, false_from_ne_true, not_from_false, or_cases}
use Rattle.std.proofs.lemmas.Cmp.{tied_back}
use Rattle.std.proofs.lemmas.List.Elements.{All-contains, All-from_recursion, Contains-append_cases, Contains-append_left, Contains-append_right}
use Rattle.std.proofs.lemmas.Slice.Eq.{bytes_eq-Decides}
use Rattle.json_terms.specs.Seen.{json}
use Rattle.json_terms.specs.declared.term.Row.{Row}
use Rattle.raw_collation.specs.Collation.{json_cmp}
use Rattle.raw_collation.proofs.Equals.{json_cmp-refl}
use Rattle.view_model.proofs.Strict.{all_each}
use Rattle.reduce_tree.specs.declared.edit.Edit.{Edit}
use Rattle.reduce_tree.specs.declared.edit.Edit.TheVariants.{Insert}
use Rattle.reduce_tree.specs.Applied.{edit_key, IsUnnamed}
use Rattle.builtin_reduces.specs.ItemLaws.{item_cmp_total}
use Rattle.builtin_reduces.specs.Kept.{item_cmp}
use Rattle.row_exchange.specs.declared.doc_rows.DocRows.{DocRows}
use Rattle.row_exchange.specs.Replaced.{ids_of, is_among, new_rows}
use Rattle.index_items.specs.BackIndex.{back_row, is_of}
use Rattle.index_items.proofs.Rising.{contains-none}
use Rattle.index_trees.specs.Edits.{is_replaced, own_rows, row_at}
use Rattle.index_trees.proofs.ItemOrder.{equal_from_test, equal_from_tied, tied_from_equal}
use Rattle.index_trees.proofs.Members.{any_none, contains-filter, contains-map, from_map, member_from_any, of_member}
use Rattle.index_trees.proofs.RowPlaces.{all_edits, edits_at, leaves, removal}
use Rattle.index_trees.proofs.RowsApart.{ids_from, ids_of_edits}

-- ---- the rows that are inserted are the new ones

module _ (view : ℕ) (rows : List Row) where
  pub comes_in : (changes : List DocRows) (row : Row) → Contains (new_rows changes view) row → Contains (all_edits view changes rows) (Insert row)
  comes_in [] row there = absurd (contains-none row there)
  comes_in (change ∷ changes) row there =
      let come : List (Edit Row) = map Insert (own_rows view change) in
      let go : List (Edit Row) = map (removal view change.id) (filter (leaves view change) rows) in
      elim (Contains-append_cases (own_rows view change) (new_rows changes view) row there) [
        | inl own ↦ Contains-append_left (edits_at view change rows) (all_edits view changes rows) (Insert row) (Contains-append_left come go (Insert row) (contains-map Insert (own_rows view change) row own))
        | inr later ↦ Contains-append_right (edits_at view change rows) (all_edits view changes rows) (Insert row) (comes_in changes row later)
      ]

  same_row : (one row : Row) → Insert one ≡ Insert row → one ≡ row
  same_row one row is = cc

  no_removal : (id : List ℕ) (one row : Row) → removal view id one ≡ Insert row → ⊥
  no_removal id one row is = cc

  pub is_new : (changes : List DocRows) (row : Row) → Contains (all_edits view changes rows) (Insert row) → Contains (new_rows changes view) row
  is_new [] row there = absurd (contains-none (Insert row) there)
  is_new (change ∷ changes) row there =
      let own : List Row = own_rows view change in
      let go : List Row = filter (leaves view change) rows in
      elim (Contains-append_cases (edits_at view change rows) (all_edits view changes rows) (Insert row) there) [
        | inl here ↦ elim (Contains-append_cases (map Insert own) (map (removal view change.id) go) (Insert row) here) [
          | inl comes ↦ (let from = from_map Insert own (Insert row) comes in Contains-append_left own (new_rows changes view) row (subst (Contains own) (same_row from.0 row from.2) from.1))
          | inr goes ↦ (let from = from_map (removal view change.id) go (Insert row) goes in absurd (no_removal change.id from.0 row from.2))
        ]
        | inr later ↦ Contains-append_right own (new_rows changes view) row (is_new changes row later)
      ]

-- ---- rows of other documents have no name

pub others_unnamed : (view : ℕ) (changes : List DocRows) (rows : List Row) (row : Row) → is_among (ids_of changes) row.id ≡ false → IsUnnamed item_cmp (all_edits view changes rows) row
others_unnamed view changes rows row other =
    let edits : List (Edit Row) = all_edits view changes rows in
    All-from_recursion (λ edit. item_cmp row (edit_key edit) ≢ Equal) edits
    (all_each (λ (edit : Edit Row). bytes_eq row.id (edit_key edit).id ≡ false) (λ edit. item_cmp row (edit_key edit) ≢ Equal)
    (λ edit apart equal. false≢true (sym apart ∙ (bytes_eq-Decides row.id (edit_key edit).id).1 (tied_from_equal row (edit_key edit) equal).ids)) edits
    (ids_of_edits (λ id. bytes_eq row.id id ≡ false) view changes rows (any_none (bytes_eq row.id) (ids_of changes) other)))

-- ---- each row of the documents has one

-- an edit that names the row
record IsNamed (edits : List (Edit Row)) (row : Row) : Type 0 where
  edit : Edit Row
  there : Contains edits edit
  equal : item_cmp row (edit_key edit) ≡ Equal

module _ (view : ℕ) (rows : List Row) (row : Row) (there : Contains rows row) where
  named_by_new : (change : DocRows) → row.id ≡ change.id → is_replaced (own_rows view change) (back_row view row) ≡ true → IsNamed (edits_at view change rows) row
  named_by_new change of_it replaced =
      let own : List Row = own_rows view change in
      let test : Row → Bool = λ r. nat_eq r.place row.place && is_eq (json_cmp (json r.key) (json row.key)) in
      let found = member_from_any test own replaced in
      let new : Row = found.0 in
      let parts = and_parts (nat_eq new.place row.place) (is_eq (json_cmp (json new.key) (json row.key))) found.2 in
      let id : new.id ≡ change.id = of_member (λ (r : Row). r.id ≡ change.id) own new (ids_from (λ id. id ≡ change.id) 0 change.id (slice_index_or change.rows view []) refl) found.1 in
      record {
        edit = Insert new;
        there = Contains-append_left (map Insert own) (map (removal view change.id) (filter (leaves view change) rows)) (Insert new) (contains-map Insert own new found.1);
        equal = tied_back item_cmp_total new row (equal_from_tied new row (record { keys = equal_from_test (json_cmp (json new.key) (json row.key)) parts.1; ids = id ∙ sym of_it; places = eqb-true new.place row.place parts.0 }));
      }

  named_by_removal : (change : DocRows) → row.id ≡ change.id → is_replaced (own_rows view change) (back_row view row) ≡ false → IsNamed (edits_at view change rows) row
  named_by_removal change of_it stays =
      let leave : leaves view change row ≡ true = and_from (is_of change.id row) (not (is_replaced (own_rows view change) (back_row view row)))
      ((bytes_eq-Decides row.id change.id).1 of_it) (not_from_false (is_replaced (own_rows view change) (back_row view row)) stays) in
      record {
        edit = removal view change.id row;
        there = Contains-append_right (map Insert (own_rows view change)) (map (removal view change.id) (filter (leaves view change) rows)) (removal view change.id row)
            (contains-map (removal view change.id) (filter (leaves view change) rows) row (contains-filter (leaves view change) rows row there leave));
        equal = equal_from_tied row (row_at change.id (back_row view row)) (record { keys = json_cmp-refl (json row.key); ids = of_it; places = refl });
      }

  named_by_change : (change : DocRows) → row.id ≡ change.id → IsNamed (edits_at view change rows) row
  named_by_change change of_it = elim (cases_Bool (is_replaced (own_rows view change) (back_row view row))) [
    | inl replaced ↦ named_by_new change of_it replaced
    | inr stays ↦ named_by_removal change of_it stays
  ]

  named : (changes : List DocRows) → is_among (ids_of changes) row.id ≡ true → IsNamed (all_edits view changes rows) row
  named [] among = absurd (false≢true among)
  named (change ∷ changes) among = elim (or_cases (bytes_eq row.id change.id) (is_among (ids_of changes) row.id) among) [
    | inl same ↦ (
        let by = named_by_change change ((bytes_eq-Decides row.id change.id).0 same) in
        record { edit = by.edit; there = Contains-append_left (edits_at view change rows) (all_edits view changes rows) by.edit by.there; equal = by.equal }
        )
    | inr later ↦ (
        let by = named changes later in
        record { edit = by.edit; there = Contains-append_right (edits_at view change rows) (all_edits view changes rows) by.edit by.there; equal = by.equal }
        )
  ]

  -- so a row that no edit names is of another document
  pub unnamed_of_others : (changes : List DocRows) → IsUnnamed item_cmp (all_edits view changes rows) row → is_among (ids_of changes) row.id ≡ false
  unnamed_of_others changes unnamed = false_from_ne_true (is_among (ids_of changes) row.id) (λ among.
      let by = named changes among in
      All-contains (λ edit. item_cmp row (edit_key edit) ≢ Equal) (all_edits view changes rows) by.edit unnamed by.there by.equal)
