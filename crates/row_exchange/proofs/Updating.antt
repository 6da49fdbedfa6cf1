-- Replacements of the rows of documents that were written are updates, and go in batches.
use Rattle.std.specs.Prelude.{◌≡◌, ℕ, zero, suc, List, [], ◌∷◌, ◌++◌, map, length, take, drop, refl, Bool, true, false, not, ◌||◌, bytes_eq, is_some, replicate, slice_index_or, Option, Some, None, if◌then◌else◌}
use Rattle.std.specs.List.{cons_option, AllByRecursion, IsDistinct}
use Rattle.std.proofs.Common.{ap, sym, ◌∙◌, subst, append_assoc, append-nil, arith}
use Rattle.std.proofs.Math.Bool.{or_comm}
use Rattle.std.proofs.Math.Seq.{take-add}
use Rattle.std.proofs.lemmas.List.{map-append}
use Rattle.std.proofs.lemmas.List.Elements.{filter-append, filter_agree}
use Rattle.std.proofs.lemmas.List.Folds.{list_any-append}
use Rattle.json_terms.specs.Json.{Json}
use Rattle.json_terms.specs.declared.term.Row.{Row}
use Rattle.design_docs.specs.History.{Write, changes_after, mapped_by}
use Rattle.raw_collation.specs.Sorting.{sorted_rows}
use Rattle.view_model.specs.Since.{is_among as is_written, mapped_of}
use Rattle.view_model.specs.Rows.{emitted_at, emitted_rows, rows_from}
use Rattle.view_model.specs.Update.{by_view, unchanged_rows, updated_views, ids_of as ids_of_documents}
use Rattle.view_model.proofs.Distinct.{change_ids, changes_distinct, IsApart}
use Rattle.view_model.proofs.Histories.{left}
use Rattle.view_model.proofs.Lists.{filter_all}
use Rattle.view_model.proofs.SortedRows.{rows_from_pass}
use Rattle.row_exchange.specs.declared.doc_rows.DocRows.{DocRows}
use Rattle.row_exchange.specs.Changed.{changed_rows}
use Rattle.row_exchange.specs.Replaced.{each_from, ids_of, is_among, new_rows, of_others, replaced, replaced_views}
use Rattle.row_exchange.proofs.NewRows.{exchanged_rows}
use Rattle.row_exchange.specs.Laws.{ReplacementsAreUpdates, ReplacementsGoInBatches, ReplacementsGoInPages, ReplacementsOfNothing}

abbrev Lists : Type 0
Lists = List (List (List (Json × Json)))

-- ---- the rows of one write more

abbrev empty_lists : ℕ → List (List (Json × Json))
empty_lists count = replicate count []

no_rows_at : (count view : ℕ) → slice_index_or (empty_lists count) view [] ≡ []
no_rows_at zero view = refl
no_rows_at (suc count) zero = refl
no_rows_at (suc count) (suc view) = no_rows_at count view

none_emitted : (ids : List (List ℕ)) → emitted_rows ids [] ≡ []
none_emitted [] = refl
none_emitted (id ∷ ids) = refl

-- those of a write of this id, where it leaves this to be mapped
abbrev one_more : ℕ → List ℕ → Bool → List (ℕ × Write) → Lists → List DocRows
one_more count id is_mapped changes lists =
    if is_mapped then record { id = id; rows = slice_index_or lists 0 [] } ∷ changed_rows count changes (drop 1 lists)
    else record { id = id; rows = replicate count [] } ∷ changed_rows count changes lists

module _ (count : ℕ) where
  ids_more : (id : List ℕ) (is_mapped : Bool) (changes : List (ℕ × Write)) (lists : Lists) (ids : List (List ℕ))
      → ((ls : Lists) → ids_of (changed_rows count changes ls) ≡ ids) → ids_of (one_more count id is_mapped changes lists) ≡ id ∷ ids
  ids_more id true changes lists ids rest = ap (λ l. id ∷ l) (rest (drop 1 lists))
  ids_more id false changes lists ids rest = ap (λ l. id ∷ l) (rest lists)

  pub ids_written : (changes : List (ℕ × Write)) (lists : Lists) → ids_of (changed_rows count changes lists) ≡ map (λ change. (change.1).id) changes
  ids_written [] lists = refl
  ids_written (c ∷ changes) lists = ids_more (c.1).id (is_some (mapped_by c.1)) changes lists (map (λ change. (change.1).id) changes) (ids_written changes)

  module _ (view : ℕ) where
    -- the new rows of these are what was emitted for the mapped ones
    abbrev AreEmitted : List (ℕ × Write) → Type 0
    AreEmitted changes = (lists : Lists) → new_rows (changed_rows count changes lists) view ≡ emitted_rows (ids_of_documents (mapped_of changes)) (emitted_at view lists)

    unmapped : (id : List ℕ) (changes : List (ℕ × Write)) (lists : Lists) → new_rows (one_more count id false changes lists) view ≡ new_rows (changed_rows count changes lists) view
    unmapped id changes lists = ap (λ l. rows_from 0 id l ++ new_rows (changed_rows count changes lists) view) (no_rows_at count view)

    rows_more : (design : Bool) (id : List ℕ) (document : Option Json) (changes : List (ℕ × Write)) → AreEmitted changes → (lists : Lists)
        → new_rows (one_more count id (is_some (left design id document)) changes lists) view
        ≡ emitted_rows (ids_of_documents (cons_option (left design id document) (mapped_of changes))) (emitted_at view lists)
    rows_more true id document changes rest lists = unmapped id changes lists ∙ rest lists
    rows_more false id None changes rest lists = unmapped id changes lists ∙ rest lists
    rows_more false id (Some d) changes rest [] = rest [] ∙ none_emitted (ids_of_documents (mapped_of changes))
    rows_more false id (Some d) changes rest (list ∷ lists) = ap (λ l. rows_from 0 id (slice_index_or list view []) ++ l) (rest lists)

    rows_written : (changes : List (ℕ × Write)) → AreEmitted changes
    rows_written [] lists = refl
    rows_written (c ∷ changes) lists = rows_more _ (c.1).id (c.1).document changes (rows_written changes) lists

-- ---- a replacement is an update

among_written : (changes : List (ℕ × Write)) (id : List ℕ) → is_among (map (λ change. (change.1).id) changes) id ≡ is_written changes id
among_written [] id = refl
among_written (c ∷ changes) id = ap (λ b. bytes_eq id (c.1).id || b) (among_written changes id)

module _ (count : ℕ) (changes : List (ℕ × Write)) (lists : Lists) where
  stay : (rows : List Row) → of_others (is_among (ids_of (changed_rows count changes lists))) rows ≡ unchanged_rows changes rows
  stay rows =
      filter_agree (λ (row : Row). not (is_among (ids_of (changed_rows count changes lists)) row.id)) (λ (row : Row). not (is_written changes row.id))
      (λ row. ap not (ap (λ ids. is_among ids row.id) (ids_written count changes lists) ∙ among_written changes row.id)) rows

  pub views_updated : (from : ℕ) (views : List (List Row))
      → each_from (replaced (changed_rows count changes lists)) from views ≡ updated_views changes (ids_of_documents (mapped_of changes)) views (by_view from (length views) lists)
  views_updated from [] = refl
  views_updated from (rows ∷ views) =
      let first : replaced (changed_rows count changes lists) from rows ≡ sorted_rows (unchanged_rows changes rows ++ emitted_rows (ids_of_documents (mapped_of changes)) (emitted_at from lists)) =
      (λ i. sorted_rows (stay rows i ++ rows_written count from changes lists i)) in
      λ i. first i ∷ views_updated (suc from) views i

pub replacements_are_updates : ReplacementsAreUpdates
replacements_are_updates history seq count lists views same =
    views_updated count (changes_after seq history) lists 0 views
    ∙ ap (λ n. updated_views (changes_after seq history) (ids_of_documents (mapped_of (changes_after seq history))) views (by_view 0 n lists)) same

-- ---- replacements of other documents one after another

among-append : (changes more : List DocRows) (id : List ℕ) → is_among (ids_of (changes ++ more)) id ≡ (is_among (ids_of more) id || is_among (ids_of changes) id)
among-append changes more id =
    ap (λ ids. is_among ids id) (map-append (λ (c : DocRows). c.id) changes more)
    ∙ list_any-append (bytes_eq id) (ids_of changes) (ids_of more)
    ∙ or_comm (is_among (ids_of changes) id) (is_among (ids_of more) id)

new_rows-append : (changes more : List DocRows) (view : ℕ) → new_rows (changes ++ more) view ≡ new_rows changes view ++ new_rows more view
new_rows-append [] more view = refl
new_rows-append (c ∷ changes) more view =
    let own : List Row = rows_from 0 c.id (slice_index_or c.rows view []) in
    ap (λ l. own ++ l) (new_rows-append changes more view) ∙ sym (append_assoc own (new_rows changes view) (new_rows more view))

new_pass : (others : List (List ℕ)) (view : ℕ) (changes : List DocRows) → AllByRecursion (λ id. is_among others id ≡ false) (ids_of changes)
    → of_others (is_among others) (new_rows changes view) ≡ new_rows changes view
new_pass others view [] apart = refl
new_pass others view (c ∷ changes) apart =
    let own : List Row = rows_from 0 c.id (slice_index_or c.rows view []) in
    filter-append (λ (row : Row). not (is_among others row.id)) own (new_rows changes view)
    ∙ (λ i. rows_from_pass (λ id. not (is_among others id)) 0 c.id (slice_index_or c.rows view []) (ap not apart.0) i ++ new_pass others view changes apart.1 i)

module _ (changes more : List DocRows) (apart : AllByRecursion (λ id. is_among (ids_of more) id ≡ false) (ids_of changes)) where
  one_view : (view : ℕ) (rows : List Row) → replaced more view (replaced changes view rows) ≡ replaced (changes ++ more) view rows
  one_view view rows =
      let now : List ℕ → Bool = is_among (ids_of (changes ++ more)) in
      sym (exchanged_rows more (is_among (ids_of changes)) now (among-append changes more) view rows (new_rows changes view))
      ∙ ap (λ l. sorted_rows (of_others now rows ++ l)) (ap (λ l. l ++ new_rows more view) (new_pass (ids_of more) view changes apart) ∙ sym (new_rows-append changes more view))

  views_twice : (from : ℕ) (views : List (List Row)) → each_from (replaced more) from (each_from (replaced changes) from views) ≡ each_from (replaced (changes ++ more)) from views
  views_twice from [] = refl
  views_twice from (rows ∷ views) = λ i. one_view from rows i ∷ views_twice (suc from) views i

pub replacements_go_in_batches : ReplacementsGoInBatches
replacements_go_in_batches changes more views apart = views_twice changes more apart 0 views

-- ---- page by page

module _ (count : ℕ) (page : List (ℕ × Write)) (rest : Lists) where
  abbrev later : List DocRows
  later = changed_rows count page rest

  append_more : (design : Bool) (id : List ℕ) (document : Option Json) (changes : List (ℕ × Write))
      → ((ls : Lists) → length ls ≡ length (mapped_of changes) → changed_rows count (changes ++ page) (ls ++ rest) ≡ changed_rows count changes ls ++ changed_rows count page rest)
      → (lists : Lists) → length lists ≡ length (cons_option (left design id document) (mapped_of changes))
      → one_more count id (is_some (left design id document)) (changes ++ page) (lists ++ rest)
      ≡ one_more count id (is_some (left design id document)) changes lists ++ changed_rows count page rest
  append_more true id document changes each lists same = ap (λ l. record { id = id; rows = empty_lists count } ∷ l) (each lists same)
  append_more false id None changes each lists same = ap (λ l. record { id = id; rows = empty_lists count } ∷ l) (each lists same)
  append_more false id (Some d) changes each [] same = absurd (omega (arith, same))
  append_more false id (Some d) changes each (list ∷ lists) same = ap (λ l. record { id = id; rows = list } ∷ l) (each lists (omega (arith, same)))

  pub changed_rows-append : (changes : List (ℕ × Write)) (lists : Lists) → length lists ≡ length (mapped_of changes)
      → changed_rows count (changes ++ page) (lists ++ rest) ≡ changed_rows count changes lists ++ changed_rows count page rest
  changed_rows-append [] [] same = refl
  changed_rows-append [] (list ∷ lists) same = absurd (omega (arith, same))
  changed_rows-append (c ∷ changes) lists same = append_more _ (c.1).id (c.1).document changes (changed_rows-append changes) lists same

apart_ids : (count : ℕ) (changes page : List (ℕ × Write)) (rest : Lists) → AllByRecursion (λ change. is_written page (change.1).id ≡ false) changes
    → AllByRecursion (λ id. is_among (ids_of (changed_rows count page rest)) id ≡ false) (map (λ change. (change.1).id) changes)
apart_ids count [] page rest apart = tt
apart_ids count (c ∷ changes) page rest apart =
    (ap (λ ids. is_among ids (c.1).id) (ids_written count page rest) ∙ among_written page (c.1).id ∙ apart.0, apart_ids count changes page rest apart.1)

-- first these writes, and then others
pub changed_after : (count : ℕ) (changes page : List (ℕ × Write)) (lists rest : Lists) (views : List (List Row))
    → AllByRecursion (λ change. is_written page (change.1).id ≡ false) changes → length lists ≡ length (mapped_of changes)
    → replaced_views (changed_rows count page rest) (replaced_views (changed_rows count changes lists) views) ≡ replaced_views (changed_rows count (changes ++ page) (lists ++ rest)) views
changed_after count changes page lists rest views apart same =
    let ids : AllByRecursion (λ id. is_among (ids_of (changed_rows count page rest)) id ≡ false) (ids_of (changed_rows count changes lists)) =
    subst (AllByRecursion (λ id. is_among (ids_of (changed_rows count page rest)) id ≡ false)) (sym (ids_written count changes lists)) (apart_ids count changes page rest apart) in
    replacements_go_in_batches (changed_rows count changes lists) (changed_rows count page rest) views ids
    ∙ ap (λ l. replaced_views l views) (sym (changed_rows-append count page rest changes lists same))

none_taken : (id : List ℕ) (changes : List (ℕ × Write)) (n : ℕ) → IsApart id (change_ids changes) → is_written (take n changes) id ≡ false
none_taken id [] zero apart = refl
none_taken id [] (suc n) apart = refl
none_taken id (c ∷ changes) zero apart = refl
none_taken id (c ∷ changes) (suc n) apart = ap (λ b. b || is_written (take n changes) id) apart.0 ∙ none_taken id changes n apart.1

none_behind : (id : List ℕ) (changes : List (ℕ × Write)) (done page : ℕ) → IsApart id (change_ids changes) → is_written (take page (drop done changes)) id ≡ false
none_behind id [] zero page apart = none_taken id [] page tt
none_behind id [] (suc done) page apart = none_taken id [] page tt
none_behind id (c ∷ changes) zero page apart = none_taken id (c ∷ changes) page apart
none_behind id (c ∷ changes) (suc done) page apart = none_behind id changes done page apart.1

pages_apart : (changes : List (ℕ × Write)) (done page : ℕ) → IsDistinct bytes_eq (change_ids changes)
    → AllByRecursion (λ change. is_written (take page (drop done changes)) (change.1).id ≡ false) (take done changes)
unfolding IsDistinct
pages_apart [] zero page apart = tt
pages_apart [] (suc done) page apart = tt
pages_apart (c ∷ changes) zero page apart = tt
pages_apart (c ∷ changes) (suc done) page apart = (none_behind (c.1).id changes done page apart.0, pages_apart changes done page apart.1)

pub replacements_go_in_pages : ReplacementsGoInPages
replacements_go_in_pages history seq count done page lists rest views same =
    let all : List (ℕ × Write) = changes_after seq history in
    changed_after count (take done all) (take page (drop done all)) lists rest views (pages_apart all done page (changes_distinct seq history)) same
    ∙ ap (λ l. replaced_views (changed_rows count l (lists ++ rest)) views) (sym (take-add done page all))

-- ---- no document

none_replaced : (from : ℕ) (views : List (List Row)) → each_from (replaced []) from views ≡ map sorted_rows views
none_replaced from [] = refl
none_replaced from (rows ∷ views) =
    let first : replaced [] from rows ≡ sorted_rows rows = ap sorted_rows (append-nil (of_others (is_among []) rows) ∙ filter_all rows) in
    λ i. first i ∷ none_replaced (suc from) views i

pub replacements_of_nothing : ReplacementsOfNothing
replacements_of_nothing views = none_replaced 0 views
