-- The new rows of documents, and what an exchange makes of the rows of a view.
use Rattle.std.specs.Prelude.{◌≡◌, ℕ, zero, suc, List, [], ◌∷◌, ◌++◌, map, length, filter, Bool, true, false, not, ◌&&◌, ◌||◌, bytes_eq, slice_index_or, if◌then◌else◌, nat_eq, refl}
use Rattle.std.specs.List.{list_all}
use Rattle.std.proofs.Common.{ap, sym, ◌∙◌, append_assoc, append-nil}
use Rattle.std.proofs.lemmas.List.{map-append}
use Rattle.std.proofs.lemmas.List.Elements.{filter-append, filter_agree}
use Rattle.std.proofs.lemmas.List.Folds.{list_all-append, list_any-append}
use Rattle.std.specs.Cmp.{first_so, second_so}
use Rattle.json_terms.specs.Json.{Json}
use Rattle.json_terms.specs.Seen.{json, term}
use Rattle.json_terms.specs.declared.term.Row.{Row}
use Rattle.json_terms.proofs.Sames.{json-term}
use Rattle.query_protocol.specs.Replies.{is_within_bounds}
use Rattle.raw_collation.specs.Sorting.{sorted_rows}
use Rattle.view_model.specs.Rows.{rows_from}
use Rattle.view_model.proofs.Lists.{filter_both}
use Rattle.view_model.proofs.SortedRows.{filter-sorted_rows, sorted_rows-sorted_front}
use Rattle.view_model.proofs.Histories.{bytes_eq-sym}
use Rattle.row_exchange.specs.declared.doc_rows.DocRows.{DocRows}
use Rattle.row_exchange.specs.Rows.{is_id, is_row}
use Rattle.row_exchange.specs.Replaced.{ids_of, is_among, is_change, is_emission, is_list, new_rows, of_others, replaced}

pub both_so : (a b : Bool) → a ≡ true → b ≡ true → (a && b) ≡ true
both_so a b one other = ap (λ c. c && b) one ∙ other

-- ---- one document more

or_step : (among one before : Bool) → (if one then true else (among || before)) ≡ ((among || (one || false)) || before)
or_step true true before = refl
or_step true false before = refl
or_step false true before = refl
or_step false false before = refl

pub among_push : (ids : List (List ℕ)) (last id : List ℕ) (before : Bool) → (if bytes_eq last id then true else (is_among ids id || before)) ≡ (is_among (ids ++ last ∷ []) id || before)
among_push ids last id before =
    ap (λ b. if b then true else (is_among ids id || before)) (bytes_eq-sym last id)
    ∙ or_step (is_among ids id) (bytes_eq id last) before
    ∙ ap (λ b. b || before) (sym (list_any-append (bytes_eq id) ids (last ∷ [])))

pub ids_push : (changes : List DocRows) (change : DocRows) → ids_of (changes ++ change ∷ []) ≡ ids_of changes ++ change.id ∷ []
ids_push changes change = map-append (λ (c : DocRows). c.id) changes (change ∷ [])

pub new_rows_push : (changes : List DocRows) (change : DocRows) (view : ℕ) → new_rows (changes ++ change ∷ []) view ≡ new_rows changes view ++ rows_from 0 change.id (slice_index_or change.rows view [])
new_rows_push [] change view = append-nil (rows_from 0 change.id (slice_index_or change.rows view []))
new_rows_push (c ∷ changes) change view =
    ap (λ l. rows_from 0 c.id (slice_index_or c.rows view []) ++ l) (new_rows_push changes change view)
    ∙ sym (append_assoc (rows_from 0 c.id (slice_index_or c.rows view [])) (new_rows changes view) (rows_from 0 change.id (slice_index_or change.rows view [])))

-- ---- the new rows may be held

fit_from : (place : ℕ) (id : List ℕ) (emissions : List (Json × Json)) → is_id id ≡ true → list_all is_emission emissions ≡ true → list_all is_row (rows_from place id emissions) ≡ true
fit_from place id [] named all = refl
fit_from place id (e ∷ emissions) named all =
    let key : is_within_bounds e.0 ≡ true = first_so (is_within_bounds e.0) (is_within_bounds e.1) (first_so (is_emission e) (list_all is_emission emissions) all) in
    let value : is_within_bounds e.1 ≡ true = second_so (is_within_bounds e.0) (is_within_bounds e.1) (first_so (is_emission e) (list_all is_emission emissions) all) in
    both_so (is_row (record { key = term e.0; id = id; place = place; value = term e.1 })) (list_all is_row (rows_from (suc place) id emissions))
    (both_so (is_id id) (is_within_bounds (json (term e.0)) && is_within_bounds (json (term e.1))) named
    (both_so (is_within_bounds (json (term e.0))) (is_within_bounds (json (term e.1))) (ap is_within_bounds (json-term e.0) ∙ key) (ap is_within_bounds (json-term e.1) ∙ value)))
    (fit_from (suc place) id emissions named (second_so (is_emission e) (list_all is_emission emissions) all))

fit_list : (id : List ℕ) (emissions : List (Json × Json)) → is_list id emissions ≡ true → list_all is_row (rows_from 0 id emissions) ≡ true
fit_list id [] is = refl
fit_list id (e ∷ emissions) is =
    fit_from 0 id (e ∷ emissions) (first_so (is_id id) (list_all is_emission (e ∷ emissions)) is) (second_so (is_id id) (list_all is_emission (e ∷ emissions)) is)

fit_at : (id : List ℕ) (lists : List (List (Json × Json))) (view : ℕ) → list_all (is_list id) lists ≡ true → list_all is_row (rows_from 0 id (slice_index_or lists view [])) ≡ true
fit_at id [] view all = refl
fit_at id (list ∷ lists) zero all = fit_list id list (first_so (is_list id list) (list_all (is_list id) lists) all)
fit_at id (list ∷ lists) (suc view) all = fit_at id lists view (second_so (is_list id list) (list_all (is_list id) lists) all)

pub fit_new : (count : ℕ) (changes : List DocRows) (view : ℕ) → list_all (is_change count) changes ≡ true → list_all is_row (new_rows changes view) ≡ true
fit_new count [] view all = refl
fit_new count (c ∷ changes) view all =
    let one : list_all (is_list c.id) c.rows ≡ true = second_so (nat_eq (length c.rows) count) (list_all (is_list c.id) c.rows) (first_so (is_change count c) (list_all (is_change count) changes) all) in
    list_all-append is_row (rows_from 0 c.id (slice_index_or c.rows view [])) (new_rows changes view)
    ∙ both_so (list_all is_row (rows_from 0 c.id (slice_index_or c.rows view []))) (list_all is_row (new_rows changes view)) (fit_at c.id c.rows view one)
    (fit_new count changes view (second_so (is_change count c) (list_all (is_change count) changes) all))

-- ---- what comes of it

and_not : (a b : Bool) → (not a && not b) ≡ not (b || a)
and_not true true = refl
and_not true false = refl
and_not false true = refl
and_not false false = refl

module _ (changes : List DocRows) (these now : List ℕ → Bool) (touched : (id : List ℕ) → now id ≡ (is_among (ids_of changes) id || these id)) where
  others_twice : (rows : List Row) → of_others (is_among (ids_of changes)) (of_others these rows) ≡ of_others now rows
  others_twice rows =
      filter_both (λ (row : Row). not (is_among (ids_of changes) row.id)) (λ (row : Row). not (these row.id)) rows
      ∙ filter_agree (λ (row : Row). not (these row.id) && not (is_among (ids_of changes) row.id)) (λ (row : Row). not (now row.id))
      (λ row. and_not (these row.id) (is_among (ids_of changes) row.id) ∙ ap not (sym (touched row.id))) rows

  pub exchanged_rows : (view : ℕ) (rows added : List Row)
      → sorted_rows (of_others now rows ++ (of_others (is_among (ids_of changes)) added ++ new_rows changes view)) ≡ replaced changes view (sorted_rows (of_others these rows ++ added))
  exchanged_rows view rows added =
      let test : Row → Bool = λ row. not (is_among (ids_of changes) row.id) in
      let kept : List Row = of_others these rows in
      let new : List Row = new_rows changes view in
      sym (ap (λ l. sorted_rows (l ++ new)) (filter-sorted_rows test (kept ++ added))
      ∙ sorted_rows-sorted_front (filter test (kept ++ added)) new
      ∙ ap (λ l. sorted_rows (l ++ new)) (filter-append test kept added ∙ ap (λ l. l ++ filter test added) (others_twice rows))
      ∙ ap sorted_rows (append_assoc (of_others now rows) (filter test added) new))
