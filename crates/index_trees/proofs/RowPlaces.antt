-- The edits of a view by its rows alone: which of them leave.
use Rattle.std.specs.Prelude.{◌≡◌, ◌+◌, ◌≤◌, ℕ, zero, suc, List, [], ◌∷◌, ◌++◌, map, filter, Bool, true, false, not, ◌&&◌, nat_eq, slice_index_or, refl}
use Rattle.std.specs.List.{AllByRecursion}
use Rattle.std.proofs.Common.{ap, sym, ◌∙◌, arith}
use Rattle.std.proofs.lemmas.Bool.{eq-eqb, ne_eqb}
use Rattle.std.proofs.lemmas.List.{append-nil}
use Rattle.std.proofs.lemmas.List.Elements.{All-from_recursion, filter-append}
use Rattle.json_terms.specs.declared.term.Row.{Row}
use Rattle.view_model.proofs.Lists.{filter_both, filter-map}
use Rattle.view_model.proofs.Strict.{all_append, all_each}
use Rattle.reduce_tree.specs.declared.edit.Edit.{Edit}
use Rattle.reduce_tree.specs.declared.edit.Edit.TheVariants.{Insert, Remove}
use Rattle.reduce_tree.proofs.Order.{filter_all, filter_none}
use Rattle.row_exchange.specs.declared.doc_rows.DocRows.{DocRows}
use Rattle.index_items.specs.declared.back_row.BackRow.{BackRow}
use Rattle.index_items.specs.BackIndex.{back_row, is_of, places_from, places_in}
use Rattle.index_trees.specs.Edits.{gone, is_replaced, old_places, own_rows, row_at, row_edits, view_edits}

-- ---- where the rows of a document stand in one of the views

abbrev at_view : ℕ → BackRow → Bool
at_view view here = nat_eq here.view view

all_at : (P : ℕ → Type 0) (view : ℕ) (rows : List Row) → P view → AllByRecursion (λ (here : BackRow). P here.view) (map (back_row view) rows)
all_at P view [] is = tt
all_at P view (row ∷ rows) is = (is, all_at P view rows is)

stand_from : (low view : ℕ) (views : List (List Row)) (id : List ℕ) → low ≤ view → AllByRecursion (λ (here : BackRow). low ≤ here.view) (places_from view views id)
stand_from low view [] id from = tt
stand_from low view (rows ∷ views) id from =
    all_append (λ (here : BackRow). low ≤ here.view) (map (back_row view) (filter (is_of id) rows)) (places_from (suc view) views id)
    (all_at (λ n. low ≤ n) view (filter (is_of id) rows) from) (stand_from low (suc view) views id (omega (arith, from)))

none_at : (view : ℕ) (places : List BackRow) → AllByRecursion (λ (here : BackRow). nat_eq here.view view ≡ false) places → filter (at_view view) places ≡ []
none_at view places others = filter_none (at_view view) places (All-from_recursion (λ (here : BackRow). nat_eq here.view view ≡ false) places others)

all_there : (view : ℕ) (places : List BackRow) → AllByRecursion (λ (here : BackRow). nat_eq here.view view ≡ true) places → filter (at_view view) places ≡ places
all_there view places are = filter_all (at_view view) places (All-from_recursion (λ (here : BackRow). nat_eq here.view view ≡ true) places are)

at_one : (first step view : ℕ) (views : List (List Row)) (id : List ℕ) → first + step ≡ view
    → filter (at_view view) (places_from first views id) ≡ map (back_row view) (filter (is_of id) (slice_index_or views step []))
at_one first zero view [] id is = refl
at_one first (suc step) view [] id is = refl
at_one first zero view (rows ∷ views) id is =
    let here : List BackRow = map (back_row first) (filter (is_of id) rows) in
    let same : first ≡ view = omega arith in
    let behind : filter (at_view view) (places_from (suc first) views id) ≡ [] = none_at view (places_from (suc first) views id)
    (all_each (λ (h : BackRow). suc view ≤ h.view) (λ (h : BackRow). nat_eq h.view view ≡ false) (λ h above. ne_eqb h.view view (λ same. omega (arith, same, above))) (places_from (suc first) views id)
    (stand_from (suc view) (suc first) views id (omega arith))) in
    filter-append (at_view view) here (places_from (suc first) views id)
    ∙ ap (λ l. filter (at_view view) here ++ l) behind
    ∙ append-nil (filter (at_view view) here)
    ∙ all_there view here (all_at (λ n. nat_eq n view ≡ true) first (filter (is_of id) rows) (eq-eqb first view same))
    ∙ ap (λ n. map (back_row n) (filter (is_of id) rows)) same
at_one first (suc step) view (rows ∷ views) id is =
    let here : List BackRow = map (back_row first) (filter (is_of id) rows) in
    filter-append (at_view view) here (places_from (suc first) views id)
    ∙ ap (λ l. l ++ filter (at_view view) (places_from (suc first) views id)) (none_at view here (all_at (λ n. nat_eq n view ≡ false) first (filter (is_of id) rows) (ne_eqb first view (λ same. omega arith))))
    ∙ at_one (suc first) step view views id (omega arith)

-- ---- the rows of a document that leave a view

abbrev pub leaves : ℕ → DocRows → Row → Bool
leaves view change row = is_of change.id row && not (is_replaced (own_rows view change) (back_row view row))

abbrev pub removal : ℕ → List ℕ → Row → Edit Row
removal view id row = Remove (row_at id (back_row view row))

abbrev pub edits_at : ℕ → DocRows → List Row → List (Edit Row)
edits_at view change rows = map Insert (own_rows view change) ++ map (removal view change.id) (filter (leaves view change) rows)

abbrev pub all_edits : ℕ → List DocRows → List Row → List (Edit Row)
all_edits view [] rows = []
all_edits view (change ∷ changes) rows = edits_at view change rows ++ all_edits view changes rows

module _ (view : ℕ) (views : List (List Row)) (rows : List Row) (are : rows ≡ slice_index_or views view []) where
  gone_are : (change : DocRows) → gone view change (places_in views change.id) ≡ map (back_row view) (filter (leaves view change) rows)
  gone_are change =
      let stays : BackRow → Bool = λ here. not (is_replaced (own_rows view change) here) in
      let number : 0 + view ≡ view = omega arith in
      sym (filter_both stays (at_view view) (places_in views change.id))
      ∙ ap (filter stays) (at_one 0 view view views change.id number)
      ∙ ap (λ l. filter stays (map (back_row view) (filter (is_of change.id) l))) (sym are)
      ∙ filter-map stays (back_row view) (filter (is_of change.id) rows)
      ∙ ap (map (back_row view)) (filter_both (λ row. stays (back_row view row)) (is_of change.id) rows)

  map_twice : (id : List ℕ) (some : List Row) → map (λ here. Remove (row_at id here)) (map (back_row view) some) ≡ map (removal view id) some
  map_twice id [] = refl
  map_twice id (row ∷ some) = ap (λ l. removal view id row ∷ l) (map_twice id some)

  row_edits_are : (change : DocRows) → row_edits view change (places_in views change.id) ≡ edits_at view change rows
  row_edits_are change =
      ap (λ l. map Insert (own_rows view change) ++ map (λ here. Remove (row_at change.id here)) l) (gone_are change)
      ∙ ap (λ l. map Insert (own_rows view change) ++ l) (map_twice change.id (filter (leaves view change) rows))

  pub view_edits_are : (changes : List DocRows) → view_edits view changes (old_places changes views) ≡ all_edits view changes rows
  view_edits_are [] = refl
  view_edits_are (change ∷ changes) =
      ap (λ l. l ++ view_edits view changes (old_places changes views)) (row_edits_are change) ∙ ap (λ l. edits_at view change rows ++ l) (view_edits_are changes)
