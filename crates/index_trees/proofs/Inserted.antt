-- How many rows and entries the edits insert, by the documents alone.
use Rattle.std.proofs.Common.{◌≡◌, ◌≤◌, ◌+◌, ℕ, zero, suc, List, [], ◌∷◌, ◌++◌, length, map, refl, ap, ◌∙◌, arith, length-append}
use Rattle.std.specs.Prelude.{IsPermutation}
use Rattle.std.specs.List.{sum_by}
use Rattle.std.proofs.lemmas.List.Sorted.{sum_by-IsPermutation}
use Rattle.std.proofs.lemmas.List.Sums.{sum_by-cons}
use Rattle.json_terms.specs.Json.{Json}
use Rattle.reduce_tree.specs.declared.edit.Edit.{Edit}
use Rattle.reduce_tree.specs.declared.edit.Edit.TheVariants.{Insert, Remove}
use Rattle.reduce_tree.specs.Applied.{insertions, placed_of}
use Rattle.reduce_tree.proofs.Applied.{insertions_append}
use Rattle.row_exchange.specs.declared.doc_rows.DocRows.{DocRows}
use Rattle.row_exchange.specs.Replaced.{new_rows}
use Rattle.index_items.specs.declared.back_row.BackRow.{BackRow}
use Rattle.index_trees.specs.Edits.{back_edits, entry_edits, entry_insert_count, gone, new_places, one_entry, own_rows, row_at, row_edits, row_insert_count, view_edits}

-- ---- lists of edits

module _ {T : Type 0} where
  summed : (edits : List (Edit T)) → insertions edits ≡ sum_by (λ e. length (placed_of e)) edits
  summed [] = refl
  summed (e ∷ edits) = let rest = summed edits in let more = sum_by-cons (λ (f : Edit T). length (placed_of f)) e edits in omega (arith, rest, more)

  -- in another order they insert as many
  pub insertions_permutation : (xs ys : List (Edit T)) → IsPermutation xs ys → insertions ys ≡ insertions xs
  insertions_permutation xs ys h = let all = sum_by-IsPermutation (λ (e : Edit T). length (placed_of e)) xs ys h in omega (arith, summed xs, summed ys, all)

  all_inserted : (xs : List T) → insertions (map Insert xs) ≡ length xs
  all_inserted [] = refl
  all_inserted (x ∷ xs) = let rest = all_inserted xs in omega (arith, rest)

  none_inserted : {X : Type 0} (f : X → T) (xs : List X) → insertions (map (λ x. Remove (f x)) xs) ≡ 0
  none_inserted f [] = refl
  none_inserted f (x ∷ xs) = let rest = none_inserted f xs in omega (arith, rest)

-- ---- the rows of a view

module _ (view : ℕ) where
  own_inserted : (change : DocRows) (old : List BackRow) → insertions (row_edits view change old) ≡ length (own_rows view change)
  own_inserted change old =
      let own = own_rows view change in
      let left = gone view change old in
      let parts = insertions_append (map Insert own) (map (λ here. Remove (row_at change.id here)) left) in
      omega (arith, parts, all_inserted own, none_inserted (row_at change.id) left)

  pub rows_inserted : (changes : List DocRows) (olds : List (List BackRow)) → insertions (view_edits view changes olds) ≤ length (new_rows changes view)
  rows_inserted [] olds = omega arith
  rows_inserted (change ∷ changes) [] = omega arith
  rows_inserted (change ∷ changes) (old ∷ olds) =
      let rest = rows_inserted changes olds in
      let parts = insertions_append (row_edits view change old) (view_edits view changes olds) in
      let all : length (new_rows (change ∷ changes) view) ≡ length (own_rows view change) + length (new_rows changes view) = length-append (own_rows view change) (new_rows changes view) in
      omega (arith, rest, parts, all, own_inserted change old)

-- ---- entries of the back-index

one_at_most : (id : List ℕ) (new old : List BackRow) → insertions (entry_edits id new old) ≤ 1
one_at_most id [] [] = omega arith
one_at_most id [] (here ∷ old) = omega arith
one_at_most id (here ∷ new) old = omega arith

none_placed : (view : ℕ) (id : List ℕ) (lists : List (List (Json × Json))) (old : List BackRow) → insertions (entry_edits id (new_places view id lists) old) ≤ one_entry lists
none_placed view id [] [] = omega arith
none_placed view id [] (here ∷ old) = omega arith
none_placed view id ([] ∷ lists) old = none_placed (suc view) id lists old
none_placed view id ((row ∷ list) ∷ lists) old = one_at_most id (new_places view id ((row ∷ list) ∷ lists)) old

pub entries_inserted : (changes : List DocRows) (olds : List (List BackRow)) → insertions (back_edits changes olds) ≤ entry_insert_count changes
entries_inserted [] olds = omega arith
entries_inserted (change ∷ changes) [] = omega arith
entries_inserted (change ∷ changes) (old ∷ olds) =
    let rest = entries_inserted changes olds in
    let own = entry_edits change.id (new_places 0 change.id change.rows) old in
    let parts = insertions_append own (back_edits changes olds) in
    let one = none_placed 0 change.id change.rows old in
    omega (arith, rest, parts, one)

-- ---- numbers of views

module _ (changes : List DocRows) where
  inserts_add : (view few more : ℕ) → row_insert_count view (few + more) changes ≡ row_insert_count view few changes + row_insert_count (view + few) more changes
  inserts_add view zero more =
      let all : 0 + more ≡ more = omega arith in
      let same : view + 0 ≡ view = omega arith in
      let front = ap (λ m. row_insert_count view m changes) all in
      let back = ap (λ v. row_insert_count v more changes) same in
      omega (arith, front, back)
  inserts_add view (suc few) more =
      let all : suc few + more ≡ suc (few + more) = omega arith in
      let same : suc view + few ≡ view + suc few = omega arith in
      let front = ap (λ m. row_insert_count view m changes) all in
      let back = ap (λ v. row_insert_count v more changes) same in
      let rest = inserts_add (suc view) few more in
      omega (arith, front, back, rest)

  -- what a front of the views gets, and the views behind
  pub inserts_split : {X : Type 0} (xs ys : List X) → row_insert_count 0 (length (xs ++ ys)) changes ≡ row_insert_count 0 (length xs) changes + row_insert_count (length xs) (length ys) changes
  inserts_split xs ys =
      let here : 0 + length xs ≡ length xs = omega arith in
      let all = ap (λ count. row_insert_count 0 count changes) (length-append xs ys) ∙ inserts_add 0 (length xs) (length ys) in
      all ∙ ap (λ v. row_insert_count 0 (length xs) changes + row_insert_count v (length ys) changes) here

  pub inserts_more : {X : Type 0} (xs : List X) (x : X) → row_insert_count 0 (length (xs ++ x ∷ [])) changes ≡ row_insert_count 0 (length xs) changes + length (new_rows changes (length xs))
  inserts_more xs x = let split = inserts_split xs (x ∷ []) in omega (arith, split)
