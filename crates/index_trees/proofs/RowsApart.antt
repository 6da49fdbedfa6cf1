-- The edits of a view name different rows.
use Rattle.std.specs.Prelude.{◌≡◌, ℕ, suc, List, [], ◌∷◌, map, filter, Bool, true, false, not, ◌&&◌, bytes_eq, nat_eq, Contains, slice_index_or, refl}
use Rattle.std.specs.List.{AllByRecursion, IsDistinct}
use Rattle.std.specs.List.Sorted.{IsStrictlySortedBy}
use Rattle.std.specs.Ordering.{eq_by_cmp, is_eq}
use Rattle.std.proofs.Common.{ap, sym, ◌∙◌, subst}
use Rattle.std.proofs.lemmas.Bool.{and_from, and_parts, eq-eqb, false≢true, not-true}
use Rattle.std.proofs.lemmas.List.{append-nil}
use Rattle.std.proofs.lemmas.Map.Keys.{IsDistinct-from_sorted}
use Rattle.std.proofs.lemmas.Slice.Eq.{bytes_eq-Decides}
use Rattle.json_terms.specs.Json.{Json}
use Rattle.json_terms.specs.Seen.{json}
use Rattle.json_terms.specs.declared.term.Row.{Row}
use Rattle.raw_collation.specs.Collation.{json_cmp}
use Rattle.view_model.specs.Rows.{rows_from, same_place}
use Rattle.view_model.proofs.Strict.{all_append, all_each, distinct_append, distinct_part, emitted_apart}
use Rattle.reduce_tree.specs.declared.edit.Edit.{Edit}
use Rattle.reduce_tree.specs.declared.edit.Edit.TheVariants.{Insert}
use Rattle.reduce_tree.specs.Applied.{edit_key}
use Rattle.builtin_reduces.specs.Kept.{item_cmp}
use Rattle.row_exchange.specs.declared.doc_rows.DocRows.{DocRows}
use Rattle.row_exchange.specs.Replaced.{ids_of}
use Rattle.index_items.specs.BackIndex.{back_row, is_of}
use Rattle.index_trees.specs.Edits.{is_replaced, own_rows, row_at}
use Rattle.index_trees.proofs.ItemOrder.{AreTied, differ_unless, equal_from_tied}
use Rattle.index_trees.proofs.Members.{all_map, any_from_member, distinct_also, distinct_map, distinct_weaker, each_member, from_filter, from_map}
use Rattle.index_trees.proofs.RowPlaces.{all_edits, edits_at, leaves, removal}

-- two edits name rows that compare equal
abbrev pub name_one : Edit Row → Edit Row → Bool
name_one = eq_by_cmp (λ a b. item_cmp (edit_key a) (edit_key b))

-- ---- of which documents the rows are

pub ids_from : (P : List ℕ → Type 0) (place : ℕ) (id : List ℕ) (emissions : List (Json × Json)) → P id → AllByRecursion (λ (row : Row). P row.id) (rows_from place id emissions)
ids_from P place id [] is = tt
ids_from P place id (e ∷ emissions) is = (is, ids_from P (suc place) id emissions is)

ids_of_removals : (P : List ℕ → Type 0) (view : ℕ) (id : List ℕ) (rows : List Row) → P id → AllByRecursion (λ (edit : Edit Row). P (edit_key edit).id) (map (removal view id) rows)
ids_of_removals P view id [] is = tt
ids_of_removals P view id (row ∷ rows) is = (is, ids_of_removals P view id rows is)

ids_at : (P : List ℕ → Type 0) (view : ℕ) (change : DocRows) (rows : List Row) → P change.id → AllByRecursion (λ (edit : Edit Row). P (edit_key edit).id) (edits_at view change rows)
ids_at P view change rows is =
    all_append (λ (edit : Edit Row). P (edit_key edit).id) (map Insert (own_rows view change)) (map (removal view change.id) (filter (leaves view change) rows))
    (all_map Insert (λ (edit : Edit Row). P (edit_key edit).id) (own_rows view change) (ids_from P 0 change.id (slice_index_or change.rows view []) is))
    (ids_of_removals P view change.id (filter (leaves view change) rows) is)

pub ids_of_edits : (P : List ℕ → Type 0) (view : ℕ) (changes : List DocRows) (rows : List Row) → AllByRecursion P (ids_of changes) → AllByRecursion (λ (edit : Edit Row). P (edit_key edit).id) (all_edits view changes rows)
ids_of_edits P view [] rows all = tt
ids_of_edits P view (change ∷ changes) rows all =
    all_append (λ (edit : Edit Row). P (edit_key edit).id) (edits_at view change rows) (all_edits view changes rows) (ids_at P view change rows all.0) (ids_of_edits P view changes rows all.1)

-- ---- the rows of one document

one_apart : (id : List ℕ) → IsDistinct bytes_eq (id ∷ [])
unfolding IsDistinct
one_apart id = (tt, tt)

own_apart : (view : ℕ) (change : DocRows) → IsDistinct (eq_by_cmp item_cmp) (own_rows view change)
own_apart view change =
    let own : List Row = own_rows view change in
    let places : IsDistinct same_place own = subst (IsDistinct same_place) (append-nil own) (emitted_apart (change.id ∷ []) (slice_index_or change.rows view [] ∷ []) (one_apart change.id)) in
    distinct_also same_place (eq_by_cmp item_cmp) (λ a b apart. differ_unless a b (λ tied.
    false≢true (sym apart ∙ and_from (bytes_eq a.id b.id) (nat_eq a.place b.place) ((bytes_eq-Decides a.id b.id).1 tied.ids) (eq-eqb a.place b.place tied.places)))) own places

-- as rows of one document they compare as before
same_as_removed : (view : ℕ) (id : List ℕ) (a b : Row) → a.id ≡ id → b.id ≡ id → AreTied (row_at id (back_row view a)) (row_at id (back_row view b)) → AreTied a b
same_as_removed view id a b first second tied = record { keys = tied.keys; ids = first ∙ sym second; places = tied.places }

removals_apart : (view : ℕ) (change : DocRows) (rows : List Row) → IsStrictlySortedBy item_cmp rows → IsDistinct name_one (map (removal view change.id) (filter (leaves view change) rows))
removals_apart view change rows rise =
    let go : List Row = filter (leaves view change) rows in
    let of_it : AllByRecursion (λ (row : Row). row.id ≡ change.id) go = each_member (λ (row : Row). row.id ≡ change.id) go (λ row there.
    (bytes_eq-Decides row.id change.id).0 (and_parts (is_of change.id row) (not (is_replaced (own_rows view change) (back_row view row))) (from_filter (leaves view change) rows row there).1).0) in
    distinct_map (removal view change.id) name_one go
    (distinct_weaker (λ (row : Row). row.id ≡ change.id) (eq_by_cmp item_cmp) (λ a b. name_one (removal view change.id a) (removal view change.id b))
    (λ a b first second apart. differ_unless (row_at change.id (back_row view a)) (row_at change.id (back_row view b)) (λ tied.
    false≢true (sym apart ∙ ap is_eq (equal_from_tied a b (same_as_removed view change.id a b first second tied))))) go of_it
    (distinct_part (eq_by_cmp item_cmp) (leaves view change) rows (IsDistinct-from_sorted item_cmp rows rise)))

-- a row that leaves is not one that comes
not_replaced : (view : ℕ) (change : DocRows) (own row : Row) → Contains (own_rows view change) own → leaves view change row ≡ true → AreTied own (row_at change.id (back_row view row)) → ⊥
not_replaced view change own row there leave tied =
    let stays = not-true (is_replaced (own_rows view change) (back_row view row)) (and_parts (is_of change.id row) (not (is_replaced (own_rows view change) (back_row view row))) leave).1 in
    let taken : is_replaced (own_rows view change) (back_row view row) ≡ true = any_from_member (λ (r : Row). nat_eq r.place row.place && is_eq (json_cmp (json r.key) (json row.key))) (own_rows view change) own there
    (and_from (nat_eq own.place row.place) (is_eq (json_cmp (json own.key) (json row.key))) (eq-eqb own.place row.place tied.places) (ap is_eq tied.keys)) in
    false≢true (sym stays ∙ taken)

one_document_apart : (view : ℕ) (change : DocRows) (rows : List Row) → IsStrictlySortedBy item_cmp rows → IsDistinct name_one (edits_at view change rows)
one_document_apart view change rows rise =
    let come : List (Edit Row) = map Insert (own_rows view change) in
    let go : List (Edit Row) = map (removal view change.id) (filter (leaves view change) rows) in
    distinct_append name_one come go (distinct_map Insert name_one (own_rows view change) (own_apart view change)) (removals_apart view change rows rise)
    (each_member (λ (edit : Edit Row). AllByRecursion (λ other. name_one edit other ≡ false) go) come (λ edit comes.
    each_member (λ other. name_one edit other ≡ false) go (λ other goes.
    let new = from_map Insert (own_rows view change) edit comes in
    let old = from_map (removal view change.id) (filter (leaves view change) rows) other goes in
    subst (λ e. name_one e other ≡ false) new.2 (subst (λ e. name_one (Insert new.0) e ≡ false) old.2
    (differ_unless new.0 (row_at change.id (back_row view old.0)) (not_replaced view change new.0 old.0 new.1 (from_filter (leaves view change) rows old.0 old.1).1))))))

-- ---- and those of all

other_documents : (view : ℕ) (id : List ℕ) (edit other : Edit Row) → (edit_key edit).id ≡ id → bytes_eq id (edit_key other).id ≡ false → name_one edit other ≡ false
other_documents view id edit other is apart = differ_unless (edit_key edit) (edit_key other) (λ tied.
    false≢true (sym apart ∙ (bytes_eq-Decides id (edit_key other).id).1 (sym is ∙ tied.ids)))

pub edits_apart : (view : ℕ) (changes : List DocRows) (rows : List Row) → IsDistinct bytes_eq (ids_of changes) → IsStrictlySortedBy item_cmp rows → IsDistinct name_one (all_edits view changes rows)
unfolding IsDistinct
edits_apart view [] rows apart rise = tt
edits_apart view (change ∷ changes) rows apart rise =
    let first : List (Edit Row) = edits_at view change rows in
    let rest : List (Edit Row) = all_edits view changes rows in
    distinct_append name_one first rest (one_document_apart view change rows rise) (edits_apart view changes rows apart.1 rise)
    (all_each (λ (edit : Edit Row). (edit_key edit).id ≡ change.id) (λ (edit : Edit Row). AllByRecursion (λ other. name_one edit other ≡ false) rest)
    (λ edit is. all_each (λ (other : Edit Row). bytes_eq change.id (edit_key other).id ≡ false) (λ other. name_one edit other ≡ false) (λ other differ. other_documents view change.id edit other is differ) rest
    (ids_of_edits (λ id. bytes_eq change.id id ≡ false) view changes rows apart.0)) first (ids_at (λ id. id ≡ change.id) view change rows refl))
