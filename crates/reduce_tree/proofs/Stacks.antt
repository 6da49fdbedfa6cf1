-- The rows of a builder.
use Rattle.std.proofs.Common.{◌≡◌, inl, inr, ℕ, zero, suc, List, [], ◌∷◌, ◌++◌, length, ◌+◌, ◌<◌, ◌≤◌, refl, sym, ap, subst, ◌∙◌, append_assoc, length-append, arith}
use Rattle.std.proofs.lemmas.List.{append-nil}
use Rattle.std.proofs.lemmas.List.Sums.{sum_by-append, sum_by-cons}
use Rattle.tree_laws.specs.declared.item.Item.{Ghosts as Items}
use Rattle.tree_laws.specs.declared.summer.Summer.{Ghosts as Summers}
use Rattle.tree_laws.specs.declared.node.Child.{Child}
use Rattle.tree_laws.specs.declared.node.Node.TheVariants.{Inner}
use Rattle.tree_laws.specs.Fitting.{AreLarge, item_count}
use Rattle.tree_laws.specs.Stores.{Extends, Places}
use Rattle.tree_laws.specs.SummerTrees.{AreChildren, Joins, Stands}
use Rattle.tree_laws.proofs.SummerTrees.{children_stay, stands_stays}
use Rattle.tree_laws.proofs.SummerTrees.{counts_add}
use Rattle.reduce_tree.specs.declared.builder.Builder.{Builder}
use Rattle.reduce_tree.specs.Built.{AreRows, AreRowsOf, Built, HoldsNothing, IsPopped, IsWhole, Stacked, pushed, row_items}
use Rattle.reduce_tree.proofs.Nodes.{count_append, count_one, large_none}
use Rattle.reduce_tree.proofs.Puts.{less_or}

-- ---- their sizes

module _ {T : Type 0} where
  rows_add : (rows : List (List (Child T))) (row : List (Child T)) → row_items (rows ++ row ∷ []) ≡ row_items rows + item_count (Inner row)
  rows_add rows row =
      let f = λ (r : List (Child T)). item_count (Inner r) in
      omega (arith, sum_by-append f rows (row ∷ []), sum_by-cons f row [])

  -- one row more
  pub items_push : (old new : List (List (Child T))) (row : List (Child T)) → new ≡ old ++ row ∷ [] → row_items new ≡ row_items old + item_count (Inner row)
  items_push old new row e = ap row_items e ∙ rows_add old row

  -- one row less
  pub items_pop : (old new : List (List (Child T))) (row : List (Child T)) → IsPopped old new row → row_items old ≡ row_items new + item_count (Inner row)
  items_pop old new row p = elim p [
    | inl e ↦ ap row_items e ∙ rows_add new row
    | inr e ↦
        let none : row_items old ≡ 0 = ap row_items e.0 in
        let left : row_items new ≡ 0 = ap row_items e.1 in
        let own : item_count (Inner row) ≡ 0 = ap (λ (r : List (Child T)). item_count (Inner r)) e.2 in
        omega (arith, none, left, own)
  ]

  pub count_added : (list row : List (Child T)) (child : Child T) → list ≡ row ++ child ∷ [] → item_count (Inner list) ≡ item_count (Inner row) + child.count
  count_added list row child e = ap (λ cs. item_count (Inner cs)) e ∙ count_append row (child ∷ []) ∙ ap (λ n. item_count (Inner row) + n) (count_one child)

  -- a child is added to the lowest row, which is cut
  pub items_cut : (old above : List (List (Child T))) (row list full rest : List (Child T)) (child : Child T) → IsPopped old above row → list ≡ row ++ child ∷ [] → list ≡ full ++ rest
      → row_items old + child.count ≡ row_items above + (item_count (Inner full) + item_count (Inner rest))
  items_cut old above row list full rest child p e c =
      let whole : item_count (Inner list) ≡ item_count (Inner full) + item_count (Inner rest) = ap (λ cs. item_count (Inner cs)) c ∙ count_append full rest in
      omega (arith, items_pop old above row p, count_added list row child e, whole)

  pub none_row : (rows : List (List (Child T))) → length rows ≡ 0 → row_items rows ≡ 0
  none_row [] e = refl
  none_row (r ∷ rows) e = absurd (omega arith)

  -- a builder to which something was pushed has items that wait
  pub some_waits : (b : Builder T) → IsWhole b → 0 < pushed b → 0 < length b.leaf.items
  some_waits b w some = elim (less_or 0 (length b.rows.items)) [
    | inl s ↦ let eight = w.least s in omega (arith, eight)
    | inr z ↦ let none = none_row b.rows.items (omega (arith, z)) in omega (arith, some, none)
  ]

  pub whole_new : (b : Builder T) → HoldsNothing b → IsWhole b
  whole_new b h = record {
    rows = subst (λ rs. AreRows zero rs) (sym h.rows) tt;
    few = omega (arith, ap length h.leaf);
    least = λ s. absurd (omega (arith, s, ap length h.rows));
  }

  -- a row that may stand below others
  pub record IsRow (least low : ℕ) (row : List (Child T)) : Type 0 where
    pub some : least ≤ length row
    pub few : length row < 40
    pub large : AreLarge (low + 1) (Inner row)

  row_at : (least low : ℕ) (row : List (Child T)) → IsRow least low row → (least ≤ length row) × (length row < 40) × AreLarge (suc (low + 0)) (Inner row) × Unit {0}
  row_at least low row h =
      let e : low + 1 ≡ suc (low + 0) = omega arith in
      (h.some, h.few, subst (λ l. AreLarge l (Inner row)) e h.large, tt)

  rows_push_of : (least low : ℕ) (rows : List (List (Child T))) (row : List (Child T)) → AreRowsOf least (low + 1) rows → least ≤ 8 → IsRow 1 low row → (0 < length rows → 8 ≤ length row) → least ≤ length row → AreRowsOf least low (rows ++ row ∷ [])
  rows_push_of least low [] row h few k wait some = row_at least low row (record { some = some; few = k.few; large = k.large })
  rows_push_of least low (r ∷ rows) row h few k wait some =
      let e : suc ((low + 1) + length rows) ≡ suc (low + length (rows ++ row ∷ [])) = omega (arith, length-append rows (row ∷ [])) in
      let eight : 8 ≤ length row = wait (omega arith) in
      (h.0, h.1, subst (λ l. AreLarge l (Inner r)) e h.2, rows_push_of 8 low rows row h.3 (omega arith) k (λ s. eight) eight)

  -- a row put below the others
  pub rows_push : (low : ℕ) (old new : List (List (Child T))) (row : List (Child T)) → new ≡ old ++ row ∷ [] → AreRows (low + 1) old → IsRow 1 low row → (0 < length old → 8 ≤ length row) → AreRows low new
  rows_push low old new row e h k wait = subst (λ rs. AreRows low rs) (sym e) (rows_push_of 1 low old row h (omega arith) k wait k.some)

  pub record Popped (least low : ℕ) (above : List (List (Child T))) (row : List (Child T)) : Type 0 where
    pub rows : AreRowsOf least (low + 1) above
    pub some : least ≤ length row
    pub few : length row < 40
    pub large : AreLarge (low + 1) (Inner row)
    pub wait : 0 < length above → 8 ≤ length row

  rows_pop_of : (least low : ℕ) (rows : List (List (Child T))) (row : List (Child T)) → least ≤ 8 → AreRowsOf least low (rows ++ row ∷ []) → Popped least low rows row
  rows_pop_of least low [] row few h =
      let e : suc (low + 0) ≡ low + 1 = omega arith in
      record { rows = tt; some = h.0; few = h.1; large = subst (λ l. AreLarge l (Inner row)) e h.2; wait = λ s. absurd (omega (arith, s)) }
  rows_pop_of least low (r ∷ rows) row few h =
      let e : suc (low + length (rows ++ row ∷ [])) ≡ suc ((low + 1) + length rows) = omega (arith, length-append rows (row ∷ [])) in
      let k = rows_pop_of 8 low rows row (omega arith) h.3 in
      let eight : 8 ≤ length row = k.some in
      record { rows = (h.0, h.1, subst (λ l. AreLarge l (Inner r)) e h.2, k.rows); some = omega (arith, few, eight); few = k.few; large = k.large; wait = λ s. eight }

  -- the row taken off, or none
  pub record Taken (low : ℕ) (above : List (List (Child T))) (row : List (Child T)) : Type 0 where
    pub rows : AreRows (low + 1) above
    pub few : length row < 40
    pub large : AreLarge (low + 1) (Inner row)
    pub wait : 0 < length above → 8 ≤ length row

  pub rows_pop : (low : ℕ) (old new : List (List (Child T))) (row : List (Child T)) → IsPopped old new row → AreRows low old → Taken low new row × (0 < length old → 1 ≤ length row)
  rows_pop low old new row p h = elim p [
    | inl e ↦
        let k = rows_pop_of 1 low new row (omega arith) (subst (λ rs. AreRows low rs) e h) in
        (record { rows = k.rows; few = k.few; large = k.large; wait = k.wait }, λ s. k.some)
    | inr e ↦
        let none : length new ≡ 0 = ap length e.1 in
        let empty : length row ≡ 0 = ap length e.2 in
        let large = subst (λ r. AreLarge (low + 1) (Inner r)) (sym e.2) (large_none (low + 1)) in (
          record { rows = subst (λ rs. AreRows (low + 1) rs) (sym e.1) tt; few = omega (arith, empty); large = large; wait = λ s. absurd (omega (arith, s, none)) },
          λ s. absurd (omega (arith, s, ap length e.0)),
        )
  ]

-- ---- their items

module _ {T M Sum Fault : Type 0} (i : Items T) (m : Summers M T Sum Fault) (first : M) where
  module _ (there : Places) where
    pub stacked_push : (low : ℕ) (rows : List (List (Child T))) (row : List (Child T)) (xs ys : List T) → Stacked i m first there (low + 1) rows xs → AreChildren i m first (Stands i m first there low) row ys → Stacked i m first there low (rows ++ row ∷ []) (xs ++ ys)
    stacked_push low [] row xs ys h k =
        let e : low ≡ low + 0 = omega arith in
        record { front = ys; back = []; whole = ap (λ t. t ++ ys) h ∙ sym (append-nil ys); at_front = subst (λ l. AreChildren i m first (Stands i m first there l) row ys) e k; at_back = refl }
    stacked_push low (r ∷ rows) row xs ys h k =
        let e : (low + 1) + length rows ≡ low + length (rows ++ row ∷ []) = omega (arith, length-append rows (row ∷ [])) in
        record {
          front = h.front;
          back = h.back ++ ys;
          whole = ap (λ t. t ++ ys) h.whole ∙ append_assoc h.front h.back ys;
          at_front = subst (λ l. AreChildren i m first (Stands i m first there l) r h.front) e h.at_front;
          at_back = stacked_push low rows row h.back ys h.at_back k;
        }

    stacked_pop : (low : ℕ) (rows : List (List (Child T))) (row : List (Child T)) (xs : List T) → Stacked i m first there low (rows ++ row ∷ []) xs → Joins (Stacked i m first there (low + 1) rows) (AreChildren i m first (Stands i m first there low) row) xs
    stacked_pop low [] row xs h =
        let e : low + 0 ≡ low = omega arith in
        record { front = []; back = h.front; whole = h.whole ∙ ap (λ t. h.front ++ t) h.at_back ∙ append-nil h.front; at_front = refl; at_back = subst (λ l. AreChildren i m first (Stands i m first there l) row h.front) e h.at_front }
    stacked_pop low (r ∷ rows) row xs h =
        let k = stacked_pop low rows row h.back h.at_back in
        let e : low + length (rows ++ row ∷ []) ≡ (low + 1) + length rows = omega (arith, length-append rows (row ∷ [])) in
        record {
          front = h.front ++ k.front;
          back = k.back;
          whole = h.whole ∙ ap (λ t. h.front ++ t) k.whole ∙ sym (append_assoc h.front k.front k.back);
          at_front = record { front = h.front; back = k.front; whole = refl; at_front = subst (λ l. AreChildren i m first (Stands i m first there l) r h.front) e h.at_front; at_back = k.at_front };
          at_back = k.at_back;
        }

    pub popped : (low : ℕ) (old new : List (List (Child T))) (row : List (Child T)) (xs : List T) → IsPopped old new row → Stacked i m first there low old xs → Joins (Stacked i m first there (low + 1) new) (AreChildren i m first (Stands i m first there low) row) xs
    popped low old new row xs p h = elim p [
      | inl e ↦ stacked_pop low new row xs (subst (λ rs. Stacked i m first there low rs xs) e h)
      | inr e ↦
          let none : xs ≡ [] = subst (λ rs. Stacked i m first there low rs xs) e.0 h in
          record {
            front = [];
            back = [];
            whole = none;
            at_front = subst (λ rs. Stacked i m first there (low + 1) rs []) (sym e.1) refl;
            at_back = subst (λ r. AreChildren i m first (Stands i m first there low) r []) (sym e.2) refl;
          }
    ]

    -- their items are as many as the rows say themselves
    pub stacked_counts : (low : ℕ) (rows : List (List (Child T))) (xs : List T) → Stacked i m first there low rows xs → row_items rows ≡ length xs
    stacked_counts low [] xs h = sym (ap length h)
    stacked_counts low (r ∷ rows) xs h =
        let own = counts_add i m first (Stands i m first there (low + length rows)) r h.front h.at_front in
        let others = stacked_counts low rows h.back h.at_back in
        omega (arith, sum_by-cons (λ (q : List (Child T)). item_count (Inner q)) r rows, own, others, ap length h.whole, length-append h.front h.back)

    pub built_new : (builder : Builder T) → HoldsNothing builder → Built i m first there builder []
    built_new builder h = record { front = []; back = []; whole = refl; at_front = subst (λ rs. Stacked i m first there zero rs []) (sym h.rows) refl; at_back = sym h.leaf }

  module _ (old new : Places) (e : Extends old new) where
    pub stacked_stays : (low : ℕ) (rows : List (List (Child T))) (xs : List T) → Stacked i m first old low rows xs → Stacked i m first new low rows xs
    stacked_stays low [] xs h = h
    stacked_stays low (r ∷ rows) xs h = record {
      front = h.front;
      back = h.back;
      whole = h.whole;
      at_front = children_stay i m first (Stands i m first old (low + length rows)) (Stands i m first new (low + length rows)) (stands_stays i m first old new e (low + length rows)) r h.front h.at_front;
      at_back = stacked_stays low rows h.back h.at_back;
    }

    pub built_stays : (builder : Builder T) (items : List T) → Built i m first old builder items → Built i m first new builder items
    built_stays builder items h = record { front = h.front; back = h.back; whole = h.whole; at_front = stacked_stays zero builder.rows.items h.front h.at_front; at_back = h.at_back }
