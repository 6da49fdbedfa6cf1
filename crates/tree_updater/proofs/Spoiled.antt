-- Which reduces are wanted of the rows that an exchange makes.
use Rattle.std.specs.Prelude.{◌≡◌, ◌≢◌, ◌⊎◌, ◌+◌, ◌<◌, ◌++◌, ◌||◌, ◌&&◌, ℕ, zero, suc, List, [], ◌∷◌, Bool, true, false, not, length, map, filter, nat_eq, slice_index_or, if◌then◌else◌}
use Rattle.std.specs.Ordering.{is_lt}
use Rattle.std.proofs.Common.{refl, sym, ap, ◌∙◌, subst, inl, inr, arith}
use Rattle.std.proofs.lemmas.Bool.{cases_eq}
use Rattle.std.proofs.lemmas.Bool.Decides.{nat_tests}
use Rattle.std.proofs.lemmas.List.Elements.{filter-append}
use Rattle.json_terms.specs.declared.term.Row.{Row}
use Rattle.raw_collation.specs.Collation.{rows_cmp}
use Rattle.raw_collation.specs.Sorting.{insert_row, sorted_rows}
use Rattle.design_docs.specs.declared.design.Reduce.{Reduce}
use Rattle.design_docs.specs.declared.design.Reduce.TheVariants.{Absent, Builtin, Source}
use Rattle.design_docs.specs.declared.design.View.{View}
use Rattle.view_ports.specs.Functions.{Functions}
use Rattle.child_pool.specs.ReduceTalk.{reduce_in}
use Rattle.view_model.specs.Rows.{has_some, reduce_fails, some_reduce_fails}
use Rattle.reduce_tree.specs.declared.edit.Edit.TheVariants.{Insert, Remove}
use Rattle.row_exchange.specs.declared.doc_rows.DocRows.{DocRows}
use Rattle.row_exchange.specs.Replaced.{each_from, ids_of, is_among, new_rows, of_others, replaced, replaced_views}
use Rattle.index_items.specs.declared.back_row.BackRow.{BackRow}
use Rattle.index_items.specs.BackIndex.{back_row, is_of, places_from, places_in}
use Rattle.index_trees.specs.Edits.{gone, is_replaced, old_places, own_rows, row_at, row_edits, view_edits}

-- ---- tests

either : (a b : Bool) → (a || b) ≡ true → (a ≡ true) ⊎ (b ≡ true)
either true b is = inl refl
either false b is = inr is

or_later : (a b : Bool) → b ≡ true → (a || b) ≡ true
or_later true b later = refl
or_later false b later = later

-- ---- a source that is wanted

module _ (functions : Functions) where
  -- a source that doesn't compile is wanted where its view has rows
  own_fails : (reduce : Reduce) (own : List Row) (source : List ℕ) → reduce ≡ Source source → own ≢ [] → functions.reduce_compiles source ≡ false → reduce_fails functions reduce own ≡ true
  own_fails reduce [] source is some fails = absurd (some refl)
  own_fails reduce (row ∷ own) source is some fails = ap (λ r. reduce_fails functions r (row ∷ own)) is ∙ ap not fails

  pub fails_in_place : (views : List View) (rows : List (List Row)) (place : ℕ) (source : List ℕ) → reduce_in views place ≡ Source source → slice_index_or rows place [] ≢ []
      → functions.reduce_compiles source ≡ false → some_reduce_fails functions views rows ≡ true
  fails_in_place [] rows place source is some fails = absurd (let never : Absent ≡ Source source = is in cc)
  fails_in_place (view ∷ views) [] place source is some fails = absurd (some refl)
  fails_in_place (view ∷ views) (own ∷ rows) zero source is some fails = ap (λ b. b || some_reduce_fails functions views rows) (own_fails view.reduce own source is some fails)
  fails_in_place (view ∷ views) (own ∷ rows) (suc place) source is some fails =
      or_later (reduce_fails functions view.reduce own) (some_reduce_fails functions views rows) (fails_in_place views rows place source is some fails)

-- a source stands only where there is a view
pub source_within : (views : List View) (place : ℕ) (source : List ℕ) → reduce_in views place ≡ Source source → place < length views
source_within [] place source is = absurd (let never : Absent ≡ Source source = is in cc)
source_within (view ∷ views) zero source is = omega arith
source_within (view ∷ views) (suc place) source is = let within = source_within views place source is in omega (arith, within)

-- ---- after an exchange

module _ (changes : List DocRows) where
  -- a view without rows gets none but new ones
  replaced_none : (view : ℕ) → new_rows changes view ≡ [] → replaced changes view [] ≡ []
  replaced_none view none = ap sorted_rows none

  module _ (functions : Functions) where
    -- where the source of each view compiles that gets a row
    abbrev pub AreUsable : ℕ → List View → Type 0
    AreUsable number views = (place : ℕ) (source : List ℕ) → reduce_in views place ≡ Source source → new_rows changes (number + place) ≢ [] → functions.reduce_compiles source ≡ true

    own_before : (number : ℕ) (reduce : Reduce) (own fresh : List Row) → new_rows changes number ≡ fresh → ((source : List ℕ) → reduce ≡ Source source → fresh ≢ [] → functions.reduce_compiles source ≡ true)
        → reduce_fails functions reduce (replaced changes number own) ≡ true → reduce_fails functions reduce own ≡ true
    own_before number Absent own fresh are usable fails = fails
    own_before number (Builtin kind) own fresh are usable fails = fails
    own_before number (Source source) [] [] are usable fails =
        let none : replaced changes number [] ≡ [] = replaced_none number are in
        let never : false ≡ true = sym (ap (λ (rows : List Row). has_some rows && not (functions.reduce_compiles source)) none) ∙ fails in
        absurd (let clash : ⊥ = cc in clash)
    own_before number (Source source) [] (row ∷ fresh) are usable fails =
        let compiles : functions.reduce_compiles source ≡ true = usable source refl (λ none. cc) in
        let never : false ≡ true = sym (no_fault (has_some (replaced changes number [])) (functions.reduce_compiles source) compiles) ∙ fails in
        absurd (let clash : ⊥ = cc in clash)
      where
        no_fault : (a b : Bool) → b ≡ true → (a && not b) ≡ false
        no_fault true b is = ap not is
        no_fault false b is = refl
    own_before number (Source source) (row ∷ own) fresh are usable fails = second (has_some (replaced changes number (row ∷ own))) (not (functions.reduce_compiles source)) fails
      where
        second : (a b : Bool) → (a && b) ≡ true → b ≡ true
        second true b is = is
        second false b is = absurd (let clash : ⊥ = cc in clash)

    -- a source is wanted that doesn't compile only where one was before
    pub spoiled_before : (number : ℕ) (views : List View) (rows : List (List Row)) → AreUsable number views → some_reduce_fails functions views (each_from (replaced changes) number rows) ≡ true
        → some_reduce_fails functions views rows ≡ true
    spoiled_before number [] rows usable fails = fails
    spoiled_before number (view ∷ views) [] usable fails = fails
    spoiled_before number (view ∷ views) (own ∷ rows) usable fails = elim (either (reduce_fails functions view.reduce (replaced changes number own)) (some_reduce_fails functions views (each_from (replaced changes) (suc number) rows)) fails) [
      | inl here ↦ ap (λ b. b || some_reduce_fails functions views rows)
          (own_before number view.reduce own (new_rows changes number) refl (λ source is some. usable 0 source is (subst (λ (n : ℕ). new_rows changes n ≢ []) (let same : number ≡ number + 0 = omega arith in same) some)) here)
      | inr later ↦ or_later (reduce_fails functions view.reduce own) (some_reduce_fails functions views rows)
          (spoiled_before (suc number) views rows (λ place source is some. usable (suc place) source is (subst (λ (n : ℕ). new_rows changes n ≢ []) (let same : suc number + place ≡ number + suc place = omega arith in same) some)) later)
    ]

-- ---- a view whose rows change has old rows or new ones

front_none : {X : Type 0} (xs ys : List X) → xs ++ ys ≡ [] → xs ≡ []
front_none [] ys none = refl
front_none (x ∷ xs) ys none = absurd (let clash : ⊥ = cc in clash)

rest_none : {X : Type 0} (xs ys : List X) → xs ++ ys ≡ [] → ys ≡ []
rest_none [] ys none = none
rest_none (x ∷ xs) ys none = absurd (let clash : ⊥ = cc in clash)

both_none : {X : Type 0} (xs ys : List X) → xs ≡ [] → ys ≡ [] → xs ++ ys ≡ []
both_none xs ys one two = ap (λ l. l ++ ys) one ∙ two

module _ (view : ℕ) (p : BackRow → Bool) where
  -- a place in this view of which the test holds
  abbrev is_here : BackRow → Bool
  is_here here = nat_eq here.view view && p here

  of_other : (number : ℕ) → nat_eq number view ≡ false → (rows : List Row) → filter is_here (map (back_row number) rows) ≡ []
  of_other number other [] = refl
  of_other number other (row ∷ rows) =
      ap (λ b. if b && p (back_row number row) then back_row number row ∷ filter is_here (map (back_row number) rows) else filter is_here (map (back_row number) rows)) other ∙ of_other number other rows

  of_view : (number : ℕ) (rows : List Row) (id : List ℕ) → (number ≡ view → rows ≡ []) → filter is_here (map (back_row number) (filter (is_of id) rows)) ≡ []
  of_view number rows id none = elim (cases_eq number view) [
    | inl same ↦ ap (λ l. filter is_here (map (back_row number) (filter (is_of id) l))) (none same)
    | inr differs ↦ of_other number (let other : nat_eq number view ≡ false = grind (arith, nat_tests) in other) (filter (is_of id) rows)
  ]

  no_places : (number : ℕ) (rows : List (List Row)) (id : List ℕ) → ((place : ℕ) → number + place ≡ view → slice_index_or rows place [] ≡ []) → filter is_here (places_from number rows id) ≡ []
  no_places number [] id none = refl
  no_places number (own ∷ rows) id none =
      filter-append is_here (map (back_row number) (filter (is_of id) own)) (places_from (suc number) rows id)
      ∙ both_none (filter is_here (map (back_row number) (filter (is_of id) own))) (filter is_here (places_from (suc number) rows id))
      (of_view number own id (λ is. none 0 (omega (arith, is)))) (no_places (suc number) rows id (λ place is. none (suc place) (omega (arith, is))))

module _ (view : ℕ) (rows : List (List Row)) where
  no_edits : (changes : List DocRows) → slice_index_or rows view [] ≡ [] → new_rows changes view ≡ [] → view_edits view changes (old_places changes rows) ≡ []
  no_edits [] old fresh = refl
  no_edits (change ∷ changes) old fresh =
      let own : own_rows view change ≡ [] = front_none (own_rows view change) (new_rows changes view) fresh in
      let none : gone view change (places_in rows change.id) ≡ [] =
      no_places view (λ here. not (is_replaced (own_rows view change) here)) 0 rows change.id (λ place is. subst (λ n. slice_index_or rows n [] ≡ []) (let same : view ≡ place = omega (arith, is) in same) old) in
      both_none (row_edits view change (places_in rows change.id)) (view_edits view changes (old_places changes rows))
      (both_none (map Insert (own_rows view change)) (map (λ here. Remove (row_at change.id here)) (gone view change (places_in rows change.id)))
      (ap (map Insert) own) (ap (map (λ here. Remove (row_at change.id here))) none))
      (no_edits changes old (rest_none (own_rows view change) (new_rows changes view) fresh))

  pub some_edited : (changes : List DocRows) → view_edits view changes (old_places changes rows) ≢ [] → (slice_index_or rows view [] ≢ []) ⊎ (new_rows changes view ≢ [])
  some_edited changes some = by_rows (slice_index_or rows view []) (new_rows changes view) refl refl
    where
      by_rows : (old fresh : List Row) → slice_index_or rows view [] ≡ old → new_rows changes view ≡ fresh → (slice_index_or rows view [] ≢ []) ⊎ (new_rows changes view ≢ [])
      by_rows [] [] old_is fresh_is = absurd (some (no_edits changes old_is fresh_is))
      by_rows [] (row ∷ fresh) old_is fresh_is = inr (λ none. let clash : ⊥ = cc in clash)
      by_rows (row ∷ old) fresh old_is fresh_is = inl (λ none. let clash : ⊥ = cc in clash)

-- ---- a view that gets rows has some then

some_inserted : (row : Row) (rows : List Row) → insert_row row rows ≢ []
some_inserted row [] none = cc
some_inserted row (other ∷ rows) none = by_order (is_lt (rows_cmp row other)) none
  where
    by_order : (b : Bool) → (if b then row ∷ other ∷ rows else other ∷ insert_row row rows) ≡ [] → ⊥
    by_order true none = cc
    by_order false none = cc

sorted_none : (rows : List Row) → sorted_rows rows ≡ [] → rows ≡ []
sorted_none [] none = refl
sorted_none (row ∷ rows) none = absurd (some_inserted row (sorted_rows rows) none)

module _ (changes : List DocRows) where
  at_replaced : (number : ℕ) (rows : List (List Row)) (place : ℕ) → place < length rows
      → slice_index_or (each_from (replaced changes) number rows) place [] ≡ replaced changes (number + place) (slice_index_or rows place [])
  at_replaced number [] place within = absurd (omega (arith, within))
  at_replaced number (own ∷ rows) zero within = ap (λ n. replaced changes n own) (let same : number ≡ number + 0 = omega arith in same)
  at_replaced number (own ∷ rows) (suc place) within =
      at_replaced (suc number) rows place (omega (arith, within)) ∙ ap (λ n. replaced changes n (slice_index_or rows place [])) (let same : suc number + place ≡ number + suc place = omega arith in same)

  pub some_then : (rows : List (List Row)) (view : ℕ) → view < length rows → new_rows changes view ≢ [] → slice_index_or (replaced_views changes rows) view [] ≢ []
  some_then rows view within some none =
      some (rest_none (of_others (is_among (ids_of changes)) (slice_index_or rows view [])) (new_rows changes view)
      (sorted_none (of_others (is_among (ids_of changes)) (slice_index_or rows view []) ++ new_rows changes view)
      (ap (λ n. replaced changes n (slice_index_or rows view [])) (let same : view ≡ 0 + view = omega arith in same) ∙ sym (at_replaced 0 rows view within) ∙ none)))
