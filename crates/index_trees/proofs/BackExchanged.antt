-- The back-index once the rows of documents are exchanged.
use Rattle.std.specs.Prelude.{◌≡◌, ◌≢◌, ◌+◌, ℕ, List, [], ◌∷◌, length, Contains, Bool, true, false, bytes_eq, nat_eq, slice_index_or, IsPermutation, IsSorted, refl}
use Rattle.std.specs.List.{AllByRecursion, IsDistinct, list_all}
use Rattle.std.specs.List.Sorted.{IsStrictlySortedBy}
use Rattle.std.specs.Cmp.{IsTotalOrder, first_so, second_so}
use Rattle.std.specs.declared.cmp.Ordering.{Ordering}
use Rattle.std.specs.declared.cmp.Ordering.TheVariants.{Equal}
use Rattle.std.specs.Ordering.{eq_by_cmp, is_eq}
use Rattle.std.proofs.Common.{inl, inr, ap, sym, ◌∙◌, subst, arith}
use Rattle.std.proofs.lemmas.Bool.{cases_Bool, eqb-true}
use Rattle.std.proofs.lemmas.Cmp.{on_total}
use Rattle.std.proofs.lemmas.List.Elements.{All-from_recursion, All-contains, Contains-append_cases, Contains-append_left, Contains-append_right}
use Rattle.std.proofs.lemmas.List.Sorted.{All-permutation, Contains-permutation, IsPermutation-sym}
use Rattle.std.proofs.lemmas.Map.Keys.{IsDistinct-IsPermutation}
use Rattle.std.proofs.lemmas.Map.Text.{is_eq-slice_cmp}
use Rattle.std.proofs.lemmas.Slice.Eq.{bytes_eq-Decides}
use Rattle.json_terms.specs.declared.term.Row.{Row}
use Rattle.builtin_reduces.specs.Kept.{item_cmp}
use Rattle.view_model.proofs.Histories.{bytes_eq-sym}
use Rattle.view_model.proofs.Strict.{all_append, all_each, distinct_append}
use Rattle.reduce_tree.specs.declared.edit.Edit.{Edit}
use Rattle.reduce_tree.specs.declared.edit.Edit.TheVariants.{Insert, Remove}
use Rattle.reduce_tree.specs.Applied.{applied, edit_key, AreEdits, IsEdited, IsUnnamed}
use Rattle.reduce_tree.proofs.Made.{made}
use Rattle.row_exchange.specs.declared.doc_rows.DocRows.{DocRows}
use Rattle.row_exchange.specs.Replaced.{ids_of, is_among, is_change, is_list, replaced_views}
use Rattle.index_items.specs.declared.back_row.BackRow.{BackRow}
use Rattle.index_items.specs.BackItem.{BackEntry, entry_cmp}
use Rattle.index_items.specs.BackLaws.{entry_cmp_total}
use Rattle.index_items.specs.BackIndex.{places_in, IsBackIndex, IsEntryOf}
use Rattle.index_items.proofs.Rising.{contains-cases, contains-here, contains-later, contains-none}
use Rattle.index_trees.specs.Edits.{back_edits, entry_edits, new_places, old_places}
use Rattle.index_trees.proofs.ItemOrder.{equal_from_test, rises_strictly}
use Rattle.index_trees.proofs.Members.{any_none, distinct_also, from_map, member_from_any}
use Rattle.index_trees.proofs.PlacesExchanged.{changed_places, other_places}

-- ---- ids

abbrev key_id : Edit BackEntry → List ℕ
key_id edit = (edit_key edit).id

abbrev key_cmp : Edit BackEntry → Edit BackEntry → Ordering
key_cmp a b = entry_cmp (edit_key a) (edit_key b)

abbrev same_key : Edit BackEntry → Edit BackEntry → Bool
same_key a b = bytes_eq (key_id a) (key_id b)

key_cmp_total : IsTotalOrder key_cmp
key_cmp_total = on_total edit_key entry_cmp_total

equal_ids : (a b : BackEntry) → entry_cmp a b ≡ Equal → bytes_eq a.id b.id ≡ true
equal_ids a b same = sym (is_eq-slice_cmp a.id b.id) ∙ ap is_eq same

-- by equal ids entries compare equal
ids_equal : (a b : BackEntry) → b.id ≡ a.id → entry_cmp a b ≡ Equal
ids_equal a b same = equal_from_test (entry_cmp a b) (is_eq-slice_cmp a.id b.id ∙ (bytes_eq-Decides a.id b.id).1 (sym same))

-- ---- the edits of one document

-- an entry is that of a document's new places
record IsEntryAt (id : List ℕ) (new : List BackRow) (entry : BackEntry) : Type 0 where
  pub named : id ≡ entry.id
  pub are : entry.rows ≡ new
  pub some : entry.rows ≢ []

-- an edit that names an id
record IsEditOf (id : List ℕ) (edits : List (Edit BackEntry)) : Type 0 where
  pub edit : Edit BackEntry
  pub there : Contains edits edit
  pub named : key_id edit ≡ id

module _ (id : List ℕ) where
  each_named : (P : List ℕ → Type 0) → P id → (new old : List BackRow) → AllByRecursion (λ e. P (key_id e)) (entry_edits id new old)
  each_named P holds [] [] = tt
  each_named P holds [] (here ∷ old) = (holds, tt)
  each_named P holds (here ∷ new) old = (holds, tt)

  one_edit : (new old : List BackRow) → IsDistinct same_key (entry_edits id new old)
  unfolding IsDistinct
  one_edit [] [] = tt
  one_edit [] (here ∷ old) = (tt, tt)
  one_edit (here ∷ new) old = (tt, tt)

  from_insert : (here : BackRow) (new : List BackRow) (entry : BackEntry) → Insert (record { id = id; rows = here ∷ new }) ≡ Insert entry → IsEntryAt id (here ∷ new) entry
  from_insert here new entry is =
      let whole : record { id = id; rows = here ∷ new } ≡ entry = ap edit_key is in
      let are : here ∷ new ≡ entry.rows = ap (λ (e : BackEntry). e.rows) whole in
      record { named = ap (λ (e : BackEntry). e.id) whole; are = sym are; some = λ none. cc (are, none) }

  not_insert : (entry other : BackEntry) → Remove other ≡ Insert entry → ⊥
  not_insert entry other is = cc

  inserted : (new old : List BackRow) (entry : BackEntry) → Contains (entry_edits id new old) (Insert entry) → IsEntryAt id new entry
  inserted [] [] entry there = absurd (contains-none (Insert entry) there)
  inserted [] (here ∷ old) entry there = elim (contains-cases (Insert entry) (Remove (record { id = id; rows = [] })) [] there) [
    | inl is ↦ absurd (not_insert entry (record { id = id; rows = [] }) is)
    | inr later ↦ absurd (contains-none (Insert entry) later)
  ]
  inserted (here ∷ new) old entry there = elim (contains-cases (Insert entry) (Insert (record { id = id; rows = here ∷ new })) [] there) [
    | inl is ↦ from_insert here new entry is
    | inr later ↦ absurd (contains-none (Insert entry) later)
  ]

  inserts : (new old : List BackRow) (entry : BackEntry) → IsEntryAt id new entry → Contains (entry_edits id new old) (Insert entry)
  inserts [] old entry at = absurd (at.some at.are)
  inserts (here ∷ new) old entry at = (0, omega arith, λ i. Insert (record { id = at.named i; rows = sym at.are i }))

  -- there is an edit where the document has old places
  names : (new old : List BackRow) → old ≢ [] → IsEditOf id (entry_edits id new old)
  names [] [] some = absurd (some refl)
  names [] (here ∷ old) some = record { edit = Remove (record { id = id; rows = [] }); there = contains-here (Remove (record { id = id; rows = [] })) []; named = refl }
  names (here ∷ new) old some = record { edit = Insert (record { id = id; rows = here ∷ new }); there = contains-here (Insert (record { id = id; rows = here ∷ new })) []; named = refl }

-- ---- the edits of all documents

-- a document that changed
record IsChanged (changes : List DocRows) (id : List ℕ) : Type 0 where
  pub change : DocRows
  pub there : Contains changes change
  pub named : change.id ≡ id

changed_of : (changes : List DocRows) (id : List ℕ) → is_among (ids_of changes) id ≡ true → IsChanged changes id
changed_of changes id among =
    let own = member_from_any (bytes_eq id) (ids_of changes) among in
    let found = from_map (λ (c : DocRows). c.id) changes own.0 own.1 in
    record { change = found.0; there = found.1; named = found.2 ∙ sym ((bytes_eq-Decides id own.0).0 own.2) }

-- the new places of a changed document are its entry
record IsNewEntry (changes : List DocRows) (entry : BackEntry) : Type 0 where
  pub change : DocRows
  pub there : Contains changes change
  pub at : IsEntryAt change.id (new_places 0 change.id change.rows) entry

module _ (views : List (List Row)) where
  abbrev edits_of : DocRows → List (Edit BackEntry)
  edits_of change = entry_edits change.id (new_places 0 change.id change.rows) (places_in views change.id)

  abbrev all_edits : List DocRows → List (Edit BackEntry)
  all_edits changes = back_edits changes (old_places changes views)

  all_named : (P : List ℕ → Type 0) (changes : List DocRows) → AllByRecursion P (ids_of changes) → AllByRecursion (λ e. P (key_id e)) (all_edits changes)
  all_named P [] all = tt
  all_named P (c ∷ changes) all =
      all_append (λ e. P (key_id e)) (edits_of c) (all_edits changes) (each_named c.id P all.0 (new_places 0 c.id c.rows) (places_in views c.id)) (all_named P changes all.1)

  told_apart : (changes : List DocRows) → IsDistinct bytes_eq (ids_of changes) → IsDistinct same_key (all_edits changes)
  unfolding IsDistinct
  told_apart [] apart = tt
  told_apart (c ∷ changes) apart =
      let others : AllByRecursion (λ e. bytes_eq c.id (key_id e) ≡ false) (all_edits changes) = all_named (λ id. bytes_eq c.id id ≡ false) changes apart.0 in
      distinct_append same_key (edits_of c) (all_edits changes) (one_edit c.id (new_places 0 c.id c.rows) (places_in views c.id)) (told_apart changes apart.1)
      (each_named c.id (λ id. AllByRecursion (λ e. bytes_eq id (key_id e) ≡ false) (all_edits changes)) others (new_places 0 c.id c.rows) (places_in views c.id))

  are_new : (changes : List DocRows) (entry : BackEntry) → Contains (all_edits changes) (Insert entry) → IsNewEntry changes entry
  are_new [] entry there = absurd (contains-none (Insert entry) there)
  are_new (c ∷ changes) entry there = elim (Contains-append_cases (edits_of c) (all_edits changes) (Insert entry) there) [
    | inl here ↦ record { change = c; there = contains-here c changes; at = inserted c.id (new_places 0 c.id c.rows) (places_in views c.id) entry here }
    | inr later ↦ let found = are_new changes entry later in record { change = found.change; there = contains-later found.change c changes found.there; at = found.at }
  ]

  new_inserted : (changes : List DocRows) (change : DocRows) (entry : BackEntry) → Contains changes change → IsEntryAt change.id (new_places 0 change.id change.rows) entry
      → Contains (all_edits changes) (Insert entry)
  new_inserted [] change entry there at = absurd (contains-none change there)
  new_inserted (c ∷ changes) change entry there at = elim (contains-cases change c changes there) [
    | inl here ↦
        let own : IsEntryAt c.id (new_places 0 c.id c.rows) entry = subst (λ (d : DocRows). IsEntryAt d.id (new_places 0 d.id d.rows) entry) (sym here) at in
        Contains-append_left (edits_of c) (all_edits changes) (Insert entry) (inserts c.id (new_places 0 c.id c.rows) (places_in views c.id) entry own)
    | inr later ↦ Contains-append_right (edits_of c) (all_edits changes) (Insert entry) (new_inserted changes change entry later at)
  ]

  named_there : (changes : List DocRows) (change : DocRows) → Contains changes change → places_in views change.id ≢ [] → IsEditOf change.id (all_edits changes)
  named_there [] change there some = absurd (contains-none change there)
  named_there (c ∷ changes) change there some = elim (contains-cases change c changes there) [
    | inl here ↦
        let same : c.id ≡ change.id = ap (λ (d : DocRows). d.id) here in
        let own : places_in views c.id ≢ [] = λ none. some (ap (places_in views) (sym same) ∙ none) in
        let found = names c.id (new_places 0 c.id c.rows) (places_in views c.id) own in
        record { edit = found.edit; there = Contains-append_left (edits_of c) (all_edits changes) found.edit found.there; named = found.named ∙ same }
    | inr later ↦
        let found = named_there changes change later some in
        record { edit = found.edit; there = Contains-append_right (edits_of c) (all_edits changes) found.edit found.there; named = found.named }
  ]

-- ---- each change has a list for each view

number_of : (count : ℕ) (changes : List DocRows) (change : DocRows) → list_all (is_change count) changes ≡ true → Contains changes change → length change.rows ≡ count
number_of count [] change all there = absurd (contains-none change there)
number_of count (c ∷ changes) change all there =
    let first : is_change count c ≡ true = first_so (is_change count c) (list_all (is_change count) changes) all in
    elim (contains-cases change c changes there) [
      | inl here ↦ ap (λ (d : DocRows). length d.rows) (sym here) ∙ eqb-true (length c.rows) count (first_so (nat_eq (length c.rows) count) (list_all (is_list c.id) c.rows) first)
      | inr later ↦ number_of count changes change (second_so (is_change count c) (list_all (is_change count) changes) all) later
    ]

-- ---- the exchange

-- documents whose rows are exchanged in views, and the edits of the back-index in order
pub record AreBackEdits (changes : List DocRows) (views : List (List Row)) (edits : List (Edit BackEntry)) : Type 0 where
  pub apart : IsDistinct bytes_eq (ids_of changes)
  pub fit : list_all (is_change (length views)) changes ≡ true
  pub rise : AllByRecursion (IsStrictlySortedBy item_cmp) views
  pub are : IsPermutation (back_edits changes (old_places changes views)) edits
  pub sorted : IsSorted (λ a b. entry_cmp (edit_key a) (edit_key b)) edits

module _ (changes : List DocRows) (views : List (List Row)) (edits : List (Edit BackEntry)) (by : AreBackEdits changes views edits) where
  -- they name a document once
  pub are_edits : AreEdits entry_cmp edits
  are_edits =
      rises_strictly key_cmp_total edits by.sorted
      (distinct_also same_key (eq_by_cmp key_cmp) (λ a b apart. is_eq-slice_cmp (key_id a) (key_id b) ∙ apart) edits
      (IsDistinct-IsPermutation same_key (λ a b. bytes_eq-sym (key_id a) (key_id b)) (all_edits views changes) edits by.are (told_apart views changes by.apart)))

  -- a changed document has its new places
  new_there : (change : DocRows) → Contains changes change → places_in (replaced_views changes views) change.id ≡ new_places 0 change.id change.rows
  new_there change there =
      let zero_more : (k : ℕ) → 0 + k ≡ k = λ k. omega arith in
      changed_places changes change by.apart there 0 views change.rows (number_of (length views) changes change by.fit there) (λ k. ap (λ n. slice_index_or change.rows n []) (zero_more k))

  -- and another one its old ones
  old_there : (id : List ℕ) → is_among (ids_of changes) id ≡ false → places_in (replaced_views changes views) id ≡ places_in views id
  old_there id out = other_places changes id out 0 views by.rise

  unnamed : (entry : BackEntry) → is_among (ids_of changes) entry.id ≡ false → IsUnnamed entry_cmp edits entry
  unnamed entry out =
      let P : Edit BackEntry → Type 0 = λ e. entry_cmp entry (edit_key e) ≢ Equal in
      let differ = all_named views (λ id. bytes_eq entry.id id ≡ false) changes (any_none (bytes_eq entry.id) (ids_of changes) out) in
      let apart_from : (e : Edit BackEntry) → bytes_eq entry.id (key_id e) ≡ false → P e = λ e apart same. let clash : true ≡ false = sym (equal_ids entry (edit_key e) same) ∙ apart in cc in
      let each : AllByRecursion P (all_edits views changes) = all_each (λ e. bytes_eq entry.id (key_id e) ≡ false) P apart_from (all_edits views changes) differ in
      All-permutation P (all_edits views changes) edits by.are (All-from_recursion P (all_edits views changes) each)

  -- an entry that no edit names is of a document that didn't change
  not_among : (entry : BackEntry) → IsEntryOf views entry → IsUnnamed entry_cmp edits entry → is_among (ids_of changes) entry.id ≡ false
  not_among entry of free = elim (cases_Bool (is_among (ids_of changes) entry.id)) [
    | inr out ↦ out
    | inl among ↦
        let changed = changed_of changes entry.id among in
        let some : places_in views changed.change.id ≢ [] = λ none. of.some (of.all ∙ ap (places_in views) (sym changed.named) ∙ none) in
        let found = named_there views changes changed.change changed.there some in
        let there : Contains edits found.edit = Contains-permutation (all_edits views changes) edits found.edit by.are found.there in
        absurd (All-contains (λ e. entry_cmp entry (edit_key e) ≢ Equal) edits found.edit free there (ids_equal entry (edit_key found.edit) (found.named ∙ changed.named)))
  ]

  module _ (entries : List BackEntry) (is : IsBackIndex views entries) (rise : IsStrictlySortedBy entry_cmp entries) where
    abbrev after : List BackEntry
    after = applied entry_cmp edits entries

    edited : IsEdited entry_cmp edits entries after
    edited = made entry_cmp entry_cmp_total edits entries are_edits rise

    only_these : (entry : BackEntry) → Contains after entry → IsEntryOf (replaced_views changes views) entry
    only_these entry there = elim (edited.only entry there) [
      | inl comes ↦
          let found = are_new views changes entry (Contains-permutation edits (all_edits views changes) (Insert entry) (IsPermutation-sym (all_edits views changes) edits by.are) comes) in
          record { some = found.at.some; all = found.at.are ∙ sym (new_there found.change found.there) ∙ ap (places_in (replaced_views changes views)) found.at.named }
      | inr stays ↦
          let of : IsEntryOf views entry = (is entry).0 stays.0 in
          record { some = of.some; all = of.all ∙ sym (old_there entry.id (not_among entry of stays.1)) }
    ]

    all_these : (entry : BackEntry) → IsEntryOf (replaced_views changes views) entry → Contains after entry
    all_these entry of = elim (cases_Bool (is_among (ids_of changes) entry.id)) [
      | inl among ↦
          let changed = changed_of changes entry.id among in
          let at : IsEntryAt changed.change.id (new_places 0 changed.change.id changed.change.rows) entry =
          record { named = changed.named; are = of.all ∙ ap (places_in (replaced_views changes views)) (sym changed.named) ∙ new_there changed.change changed.there; some = of.some } in
          edited.comes entry (Contains-permutation (all_edits views changes) edits (Insert entry) by.are (new_inserted views changes changed.change entry changed.there at))
      | inr out ↦ edited.stays entry ((is entry).1 (record { some = of.some; all = of.all ∙ old_there entry.id out })) (unnamed entry out)
    ]

    -- what they make of the back-index of the views is that of the views after the exchange
    pub back_exchanged : IsBackIndex (replaced_views changes views) after
    back_exchanged entry = (only_these entry, all_these entry)
