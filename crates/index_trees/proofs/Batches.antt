-- Edits of documents in two batches.
use Rattle.std.specs.Prelude.{◌≡◌, ◌+◌, ℕ, zero, suc, List, [], ◌∷◌, ◌++◌, All, Contains, map, length, false, bytes_eq, refl}
use Rattle.std.specs.List.{AllByRecursion}
use Rattle.std.specs.List.Sorted.{IsStrictlySortedBy}
use Rattle.std.proofs.Common.{sym, ap, ◌∙◌, arith, append_assoc, length-append}
use Rattle.std.proofs.lemmas.Bool.{or_from}
use Rattle.std.proofs.lemmas.List.{length-map, map-append}
use Rattle.std.proofs.lemmas.List.Elements.{recursion_from_All}
use Rattle.json_terms.specs.declared.term.Row.{Row}
use Rattle.builtin_reduces.specs.Kept.{item_cmp}
use Rattle.view_model.proofs.Histories.{bytes_eq-sym}
use Rattle.row_exchange.specs.declared.doc_rows.DocRows.{DocRows}
use Rattle.row_exchange.specs.Replaced.{ids_of, is_among, replaced, replaced_views}
use Rattle.index_items.specs.declared.back_row.BackRow.{BackRow}
use Rattle.index_items.specs.BackIndex.{places_in}
use Rattle.index_trees.specs.Edits.{back_edits, edit_count, entry_edits, new_places, old_places, row_edit_count, row_edits, view_edits}
use Rattle.index_trees.specs.Laws.{EditsOfBatchesAddUp}
use Rattle.index_trees.proofs.Members.{any_none, each_member, of_member}
use Rattle.index_trees.proofs.PlacesExchanged.{other_places}
use Rattle.index_trees.proofs.Sequences.{length-each_from}

-- ---- the edits of all documents over the same rows

view_edits-append : (view : ℕ) (changes more : List DocRows) (olds next : List (List BackRow)) → length olds ≡ length changes
    → view_edits view (changes ++ more) (olds ++ next) ≡ view_edits view changes olds ++ view_edits view more next
view_edits-append view [] more [] next same = refl
view_edits-append view [] more (old ∷ olds) next same = absurd (omega (arith, same))
view_edits-append view (change ∷ changes) more [] next same = absurd (omega (arith, same))
view_edits-append view (change ∷ changes) more (old ∷ olds) next same =
    ap (λ l. row_edits view change old ++ l) (view_edits-append view changes more olds next (omega (arith, same)))
    ∙ sym (append_assoc (row_edits view change old) (view_edits view changes olds) (view_edits view more next))

back_edits-append : (changes more : List DocRows) (olds next : List (List BackRow)) → length olds ≡ length changes
    → back_edits (changes ++ more) (olds ++ next) ≡ back_edits changes olds ++ back_edits more next
back_edits-append [] more [] next same = refl
back_edits-append [] more (old ∷ olds) next same = absurd (omega (arith, same))
back_edits-append (change ∷ changes) more [] next same = absurd (omega (arith, same))
back_edits-append (change ∷ changes) more (old ∷ olds) next same =
    let own = entry_edits change.id (new_places 0 change.id change.rows) old in
    ap (λ l. own ++ l) (back_edits-append changes more olds next (omega (arith, same))) ∙ sym (append_assoc own (back_edits changes olds) (back_edits more next))

row_counts : (view count : ℕ) (changes more : List DocRows) (olds next : List (List BackRow)) → length olds ≡ length changes
    → row_edit_count view count (changes ++ more) (olds ++ next) ≡ row_edit_count view count changes olds + row_edit_count view count more next
row_counts view zero changes more olds next same = refl
row_counts view (suc count) changes more olds next same =
    let first = ap length (view_edits-append view changes more olds next same) ∙ length-append (view_edits view changes olds) (view_edits view more next) in
    let others = row_counts (suc view) count changes more olds next same in
    omega (arith, first, others)

length-ids : (changes : List DocRows) (rows : List (List Row)) → length (old_places changes rows) ≡ length changes
length-ids changes rows = length-map (ids_of changes) (places_in rows) ∙ length-map changes (λ (change : DocRows). change.id)

old_places-append : (changes more : List DocRows) (rows : List (List Row)) → old_places (changes ++ more) rows ≡ old_places changes rows ++ old_places more rows
old_places-append changes more rows = ap (map (places_in rows)) (map-append (λ (change : DocRows). change.id) changes more) ∙ map-append (places_in rows) (ids_of changes) (ids_of more)

edits_add : (changes more : List DocRows) (rows : List (List Row)) → edit_count (changes ++ more) rows ≡ edit_count changes rows + edit_count more rows
edits_add changes more rows =
    let all = changes ++ more in
    let first = old_places changes rows in
    let second = old_places more rows in
    let same = length-ids changes rows in
    let are = old_places-append changes more rows in
    let views = ap (row_edit_count 0 (length rows) all) are ∙ row_counts 0 (length rows) changes more first second same in
    let entries = ap (λ os. length (back_edits all os)) are ∙ ap length (back_edits-append changes more first second same) ∙ length-append (back_edits changes first) (back_edits more second) in
    omega (arith, views, entries)

-- ---- the second over what the first left

-- what none of these ids is among has none of these among it
apart_back : (ids others : List (List ℕ)) (other : List ℕ) → AllByRecursion (λ id. is_among others id ≡ false) ids → Contains others other → is_among ids other ≡ false
apart_back [] others other apart there = refl
apart_back (id ∷ ids) others other apart there =
    let differ : bytes_eq id other ≡ false = of_member (λ o. bytes_eq id o ≡ false) others other (any_none (bytes_eq id) others apart.0) there in
    or_from (bytes_eq other id) (is_among ids other) (bytes_eq-sym other id ∙ differ) (apart_back ids others other apart.1 there)

map_same : {X Y : Type 0} (f g : X → Y) (xs : List X) → AllByRecursion (λ x. f x ≡ g x) xs → map f xs ≡ map g xs
map_same f g [] same = refl
map_same f g (x ∷ xs) same = let first = same.0 in let others = map_same f g xs same.1 in λ i. first i ∷ others i

module _ (changes more : List DocRows) (rows : List (List Row)) (rise : All (IsStrictlySortedBy item_cmp) rows) (apart : AllByRecursion (λ id. is_among (ids_of more) id ≡ false) (ids_of changes)) where
  places_stay : old_places more (replaced_views changes rows) ≡ old_places more rows
  places_stay =
      map_same (places_in (replaced_views changes rows)) (places_in rows) (ids_of more)
      (each_member (λ id. places_in (replaced_views changes rows) id ≡ places_in rows id) (ids_of more)
      (λ id there. other_places changes id (apart_back (ids_of changes) (ids_of more) id apart there) 0 rows (recursion_from_All (IsStrictlySortedBy item_cmp) rows rise)))

  count_stays : edit_count more (replaced_views changes rows) ≡ edit_count more rows
  count_stays =
      let long : length (replaced_views changes rows) ≡ length rows = length-each_from (replaced changes) 0 rows in
      λ i. row_edit_count 0 (long i) more (places_stay i) + length (back_edits more (places_stay i))

pub edits_of_batches_add_up : EditsOfBatchesAddUp
edits_of_batches_add_up changes more rows rise apart = ap (λ count. edit_count changes rows + count) (count_stays changes more rows rise apart) ∙ sym (edits_add changes more rows)
