-- An exchange: the old places of the documents' rows are found, the trees of the views are edited, and then that of the back-index.
use Rattle.std.proofs.Common.{◌≡◌, ◌≢◌, ◌<◌, ◌≤◌, ◌+◌, ◌*◌, ◌^◌, ℕ, List, [], ◌∷◌, ◌++◌, All, Contains, length, map, Option, Some, Result, Ok, Err, refl, sym, ap, ◌∙◌, subst, arith}
use Rattle.std.specs.Prelude.{slice_index_or, vec_len}
use Rattle.std.specs.List.Sorted.{IsStrictlySortedBy}
use Rattle.std.proofs.Math.Nat.{add-mul, mul-le-mul_left}
use Rattle.std.proofs.lemmas.List.Elements.{All-from_get_or, All-weaker, Contains-append_left, Contains-append_right}
use Rattle.json_terms.specs.declared.fault.NoMemory.{NoMemory as Want}
use Rattle.json_terms.specs.declared.term.Row.{Row}
use Rattle.view_ports.specs.declared.servers.Servers.{Ghosts as Servers}
use Rattle.view_ports.specs.Functions.{Functions}
use Rattle.tree_laws.specs.declared.store.NodeSource.{Ghosts as Sources}
use Rattle.tree_laws.specs.declared.tree.Tree.{Tree}
use Rattle.tree_laws.specs.declared.tree.TreeFault.{TreeFault}
use Rattle.tree_laws.specs.declared.tree.TreeFault.TheVariants as tree_fault
use Rattle.tree_laws.specs.Reaching.{IsFaulty}
use Rattle.tree_laws.specs.Reaching.IsFaulty.{unfit}
use Rattle.tree_laws.specs.Stores.{Extends, KeepsPlaces, Places, WhereTold}
use Rattle.tree_laws.specs.Trees.{IsTree, IsTreeSize}
use Rattle.tree_laws.specs.Values.{no_values}
use Rattle.tree_laws.proofs.Structure.{no_sums, same_sums, tree_passes}
use Rattle.tree_query.specs.Bare.{HoldsItems}
use Rattle.tree_query.specs.Calls.{Fails, OnlyReads, WentOver}
use Rattle.builtin_reduces.specs.Kept.{item_cmp}
use Rattle.reduce_tree.specs.declared.edit.Edit.TheVariants.{Insert, Remove}
use Rattle.reduce_tree.specs.Calls.{places, UnlessStore}
use Rattle.reduce_tree.specs.Counts.{node_size, ReadsFor}
use Rattle.reduce_tree.proofs.Since.{since_both, since_none}
use Rattle.child_pool.specs.declared.pool_fault.PoolFault.{PoolFault}
use Rattle.child_pool.specs.declared.pool_fault.PoolFault.TheVariants.{Compile}
use Rattle.child_pool.specs.declared.summers.Summers.{Summers}
use Rattle.row_exchange.specs.declared.doc_rows.DocRows.{DocRows}
use Rattle.row_exchange.specs.Replaced.{new_rows, replaced, replaced_views}
use Rattle.index_items.specs.declared.back_row.BackRow.{BackRow}
use Rattle.index_items.specs.BackIndex.{IsBackIndex}
use Rattle.index_items.specs.BackItem.{BackEntry}
use Rattle.index_items.specs.BackLaws.{entries_spelled_once}
use Rattle.index_items.proofs.Rising.{contains-here}
use Rattle.index_trees.specs.declared.trees.IndexTrees.{IndexTrees}
use Rattle.index_trees.specs.Edits.{back_edits, edit_count, entry_insert_count, gone, insert_count, old_places, own_rows, row_at, row_edit_count, row_edits, row_insert_count, view_edits}
use Rattle.index_trees.specs.Edited.{AreAllShort, AreEnough, EditsBack, EditsViews, Lists, MayExchange, OverViews}
use Rattle.index_trees.specs.Exchanges.{AreShort, AreWithin, Complains, Exchanges, GotFound, GotThere, IsFaultyIn, IsOver, PutsWithin, StoreWent, SummersWent}
use Rattle.index_trees.specs.Exchanges.IsFaultyIn.{of_back, of_rows}
use Rattle.index_trees.specs.Faults.{by_pool}
use Rattle.index_trees.specs.Trees.{back_items, no_summaries, AreLow, HasRows, HaveRoom, HoldTrees}
use Rattle.index_trees.proofs.EditedBack.{pooled_found}
use Rattle.index_trees.proofs.Found.{fails_found, found_other, found_then, reads_found}
use Rattle.index_trees.proofs.Got.{entries_got, nodes_both, reads_got, NodesGot}
use Rattle.index_trees.proofs.Sequences.{StoreLaws, done, each_map, each_there, err_same, extends_then, keeps_both, keeps_itself, length-each_from, refused, rows_stay, store_then, sum_bounds, sum_products, talks_none, told_then, unless_map}

-- ---- numbers

pub steps_all : (docs low h few more i j k l : ℕ) → low ≤ h → j ≤ i + docs * (2 * low) → k ≤ j + few * (8 * (h + 1)) → l ≤ k + more * (8 * (h + 1)) → l ≤ i + ((few + more) * (8 * (h + 1)) + docs * (2 * h))
steps_all docs low h few more i j k l lower first second third =
    let reads : docs * (2 * low) ≤ docs * (2 * h) = mul-le-mul_left docs (let twice : 2 * low ≤ 2 * h = omega (arith, lower) in twice) in
    omega (arith, first, second, third, reads, add-mul few more (8 * (h + 1)))

-- ---- views that get rows

module _ (view : ℕ) where
  -- a new row is inserted
  pub comes_some : (changes : List DocRows) (olds : List (List BackRow)) → length olds ≡ length changes → new_rows changes view ≢ [] → (row : Row) × Contains (view_edits view changes olds) (Insert row)
  comes_some [] olds same some = absurd (some refl)
  comes_some (change ∷ changes) [] same some = absurd (omega (arith, same))
  comes_some (change ∷ changes) (old ∷ olds) same some = of_first (own_rows view change) refl (comes_some changes olds (omega (arith, same)))
    where
      of_first : (own : List Row) → own_rows view change ≡ own → (new_rows changes view ≢ [] → (row : Row) × Contains (view_edits view changes olds) (Insert row)) → (row : Row) × Contains (view_edits view (change ∷ changes) (old ∷ olds)) (Insert row)
      of_first [] none rest =
          let later = rest (λ empty. some (ap (λ l. l ++ new_rows changes view) none ∙ empty)) in
          (later.0, Contains-append_right (row_edits view change old) (view_edits view changes olds) (Insert later.0) later.1)
      of_first (row ∷ own) is rest =
          let first : Contains (map Insert (own_rows view change)) (Insert row) = subst (λ l. Contains (map Insert l) (Insert row)) (sym is) (contains-here (Insert row) (map Insert own)) in (
            row,
            Contains-append_left (row_edits view change old) (view_edits view changes olds) (Insert row)
                (Contains-append_left (map Insert (own_rows view change)) (map (λ here. Remove (row_at change.id here)) (gone view change old)) (Insert row) first),
          )

-- ---- the same refusal of another answer

module _ {F : Type 0} (X Y : Type 0) where
  unless_other : (P : Type 0) (fault : TreeFault F PoolFault) → UnlessStore (refused X fault) P → UnlessStore (refused Y fault) P
  unless_other P (tree_fault.Store f) h = tt
  unless_other P (tree_fault.BadNode at) h = h
  unless_other P (tree_fault.Summer f) h = h
  unless_other P tree_fault.NoMemory h = h

  store_other : {S : Type 0} (n : Sources S F) (a b : S) (fault : TreeFault F PoolFault) → StoreWent n a b (refused X fault) → StoreWent n a b (refused Y fault)
  store_other n a b (tree_fault.Store f) h = h
  store_other n a b (tree_fault.BadNode at) h = h
  store_other n a b (tree_fault.Summer f) h = h
  store_other n a b tree_fault.NoMemory h = h

  talk_other : {C : Type 0} (s : Servers C) (u v : Summers C) (fault : TreeFault F PoolFault) → SummersWent s u v (refused X fault) → SummersWent s u v (refused Y fault)
  talk_other s u v (tree_fault.Store f) h = h
  talk_other s u v (tree_fault.BadNode at) h = h
  talk_other s u v (tree_fault.Summer f) h = h
  talk_other s u v tree_fault.NoMemory h = h

-- ---- where the old rows stood

module _ {S F : Type 0} (n : Sources S F) (changes : List DocRows) (back : Tree) (old : S) where
  -- as many lists of places as documents, and over a back-index those of the documents
  pub record ArePlaces (olds : List (List BackRow)) : Type 0 where
    pub number : length olds ≡ length changes
    pub places : (there : Places) (entries : List BackEntry) (rows : List (List Row)) → n.nodes old ≡ Some there → HoldsItems back_items there back entries → IsBackIndex rows entries → olds ≡ old_places changes rows

-- whatever its summaries are
bare : (there : Places) (back : Tree) (entries : List BackEntry) → IsTree back_items no_summaries there back entries → HoldsItems back_items there back entries
bare there back entries = tree_passes back_items no_summaries no_values (no_sums no_summaries) there there (λ at bytes is. is) back entries

module _ {S F C : Type 0} (n : Sources S F) (laws : StoreLaws n) (s : Servers C) (trees : IndexTrees) (changes : List DocRows) (s0 s1 : S) (u0 : Summers C) (t0 t1 : ℕ)
    (reads : OnlyReads n (length changes * (2 * trees.back.height)) s0 s1 t0 t1) where
  abbrev back : Tree
  back = trees.back

  abbrev ts : List Tree
  ts = trees.views.items

  still : KeepsPlaces (n.nodes s0) (n.nodes s1)
  still = subst (KeepsPlaces (n.nodes s0)) (sym reads.nodes) (keeps_itself (n.nodes s0))

  reads_first : ReadsFor (n.reads s0) (n.reads s1) t0 t1
  reads_first =
      let steps = reads.steps in
      let later = reads.reads in
      (later.later, omega (arith, later.within, steps.later))

  steps_first : (h : ℕ) → back.height ≤ h → t1 ≤ t0 + length changes * (2 * h)
  steps_first h low =
      let few : length changes * (2 * back.height) ≤ length changes * (2 * h) = mul-le-mul_left (length changes) (let twice : 2 * back.height ≤ 2 * h = omega (arith, low) in twice) in
      let most = reads.steps in
      omega (arith, few, most.within)

  -- ---- the places weren't found

  module _ (fault : TreeFault F Want) (ran : Fails back_items n back {M = Want} s0 s1 fault) (ready : n.is_ready s0) (stays : n.goes s0 s1 → n.is_ready s0 → n.is_ready s1)
      (sound : (there : Places) (entries : List BackEntry) (at : ℕ) → n.nodes s0 ≡ Some there → HoldsItems back_items there back entries → fault ≡ tree_fault.BadNode at → ⊥) where
    abbrev answer : Result IndexTrees (TreeFault F PoolFault)
    answer = refused IndexTrees (by_pool fault)

    keeps_err : (x : TreeFault F Want) → Fails back_items n back {M = Want} s0 s1 x → UnlessStore (refused IndexTrees (by_pool x)) (KeepsPlaces (n.nodes s0) (n.nodes s1)) × UnlessStore (refused IndexTrees (by_pool x)) (n.is_ready s1)
    keeps_err (tree_fault.Store f) h = (tt, tt)
    keeps_err (tree_fault.BadNode at) h = (still, stays h.0 ready)
    keeps_err (tree_fault.Summer f) h = absurd h
    keeps_err tree_fault.NoMemory h = (still, stays h.0 ready)

    store_err : (x : TreeFault F Want) → Fails back_items n back {M = Want} s0 s1 x → StoreWent n s0 s1 (refused IndexTrees (by_pool x))
    store_err (tree_fault.Store f) h = h.0
    store_err (tree_fault.BadNode at) h = h.0
    store_err (tree_fault.Summer f) h = absurd h
    store_err tree_fault.NoMemory h = h.0

    talk_err : (x : TreeFault F Want) → SummersWent s u0 u0 (refused IndexTrees (by_pool x))
    talk_err (tree_fault.Store f) = talks_none s u0
    talk_err (tree_fault.BadNode at) = talks_none s u0
    talk_err (tree_fault.Summer f) = talks_none s u0
    talk_err tree_fault.NoMemory = talks_none s u0

    no_summer : (x : TreeFault F Want) (p : PoolFault) → by_pool x ≡ tree_fault.Summer p → ⊥
    no_summer (tree_fault.Store f) p is = cc
    no_summer (tree_fault.BadNode at) p is = cc
    no_summer (tree_fault.Summer f) p is = cc
    no_summer tree_fault.NoMemory p is = cc

    bad_by : (x : TreeFault F Want) (at : ℕ) → by_pool x ≡ tree_fault.BadNode at → x ≡ tree_fault.BadNode at
    bad_by (tree_fault.Store f) at is = absurd (cc)
    bad_by (tree_fault.BadNode other) at is = let same : other ≡ at = cc in ap tree_fault.BadNode same
    bad_by (tree_fault.Summer f) at is = absurd (cc)
    bad_by tree_fault.NoMemory at is = absurd (cc)

    unfit_here : (x : TreeFault F Want) (at : ℕ) → Fails back_items n back {M = Want} s0 s1 x → x ≡ tree_fault.BadNode at → WhereTold (n.nodes s0) (λ there. IsFaulty back_items no_summaries there back at)
    unfit_here x at h is there told = let bad = subst (λ y. Fails back_items n back {M = Want} s0 s1 y) is h in unfit (bad.1 there told).0

    damaged_err : (at : ℕ) → answer ≡ Err (tree_fault.BadNode at) → WhereTold (n.nodes s1) (λ there. IsFaultyIn there u0.design.now.views trees at)
    damaged_err at is there told = of_back (unfit_here fault at ran (bad_by fault at (err_same IndexTrees (by_pool fault) (tree_fault.BadNode at) is)) there (sym reads.nodes ∙ told))

    pub at_places : Exchanges n s trees changes s0 s1 u0 u0 t0 t1 answer
    at_places = record {
      made = λ f there rows over. tt;
      kept = (keeps_err fault ran).0;
      ready = (keeps_err fault ran).1;
      sizes = tt;
      number = tt;
      room = λ enough. tt;
      steps = λ f there rows h over low. tt;
      most_steps = λ f there rows h over within. let low = within.back.0 in let first = steps_first h low in omega (arith, first);
      puts = λ f there rows h over low. tt;
      most_puts = λ f there rows h over within. let same = ap length reads.puts in omega (arith, same);
      bytes = λ f there rows longest h over short then_short low. tt;
      most_bytes = λ f there rows longest h over short then_short within. let same = reads.size in omega (arith, same);
      pieces = λ f there rows longest over short then_short. since_none (λ piece. length piece + 8 ≤ node_size longest) (n.puts s0) (n.puts s1) reads.puts;
      reads = reads_first;
      store = store_err fault ran;
      talk = talk_err fault;
      usable = λ view within some. tt;
      complains = λ is. absurd (no_summer fault Compile (err_same IndexTrees (by_pool fault) (tree_fault.Summer Compile) is));
      got = tt;
      found = λ f there rows over.
          pooled_found n laws s0 s1 (refused IndexTrees fault)
          (fails_found back_items no_summaries entries_spelled_once n laws back there over.holds.entries s0 s1 over.told over.holds.listed reads.nodes reads.puts IndexTrees fault ran);
      sound = λ f there rows at over is.
          sound there over.holds.entries at over.told (bare there back over.holds.entries over.holds.listed) (bad_by fault at (err_same IndexTrees (by_pool fault) (tree_fault.BadNode at) is));
      damaged = damaged_err;
    }

  -- ---- they were found

  module _ (went : WentOver back_items n back s0 s1) (olds : List (List BackRow)) (are : ArePlaces n changes back s0 olds) (s2 : S) (u2 : Summers C) (t2 : ℕ) where
    goes : n.goes s0 s1
    goes = went.goes

    module _ (se : S) (ue : Summers C) (te : ℕ) (f : Option Functions) (there : Places) (rows : List (List Row)) (over : IsOver n s trees changes s0 se u0 ue t0 te f there rows) where
      found : olds ≡ old_places changes rows
      found = are.places there over.holds.entries rows over.told (bare there back over.holds.entries over.holds.listed) over.holds.are

      count_all : edit_count changes rows ≡ row_edit_count 0 (length ts) changes olds + length (back_edits changes olds)
      count_all =
          let all = ap (λ count. row_edit_count 0 count changes (old_places changes rows)) over.holds.number in
          let views = ap (row_edit_count 0 (length ts) changes) found in
          let entries = ap (λ os. length (back_edits changes os)) found in
          omega (arith, all, views, entries)

      over_views : OverViews n s changes olds s1 s2 u0 u2 t1 t2 ts f there rows
      over_views = record {
        begins = record { told = reads.nodes ∙ over.told; by = over.by; apart = over.apart; found = found };
        long = let same = over.holds.number in omega (arith, same);
        have = over.holds.each;
      }

      all_short : (longest : ℕ) → AreShort longest rows → AreShort longest (replaced_views changes rows) → AreAllShort n s changes olds s1 s2 u0 u2 t1 t2 ts longest rows
      all_short longest short then_short = record { old_rows = short.each; then_rows = then_short.each }

      first_found : GotThere (places (n.nodes s1)) (n.gets s0) (n.gets s1)
      first_found = reads_found back_items no_summaries entries_spelled_once n laws back there over.holds.entries s0 s1 over.told over.holds.listed reads.nodes reads.puts went

    abbrev most : ℕ
    most = insert_count changes (vec_len trees.views)

    enough : (h : ℕ) → AreWithin h most trees → AreEnough n s changes olds s1 s2 u0 u2 t1 t2 ts h
    enough h within =
        let long = trees.views.ok.0 in
        let same : length ts ≡ vec_len trees.views = omega (arith, long) in
        let views = ap (λ m. row_insert_count 0 m changes) same in
        record { more = most; inserts = omega (arith, views); each = within.views }

    back_enough : (h : ℕ) → AreWithin h most trees → back.count + entry_insert_count changes < 8 ^ h
    back_enough h within = let own = within.back.1 in omega (arith, own)

    -- a complaint is of a view with edits
    complains_of : (se : S) (te : ℕ) → ((view : ℕ) × (view < length ts) × Complains s u0 u2 view × (view_edits view changes olds ≢ []))
        → (view : ℕ) × (view < vec_len trees.views) × Complains s u0 u2 view × ((f : Option Functions) (there : Places) (rows : List (List Row)) → IsOver n s trees changes s0 se u0 u2 t0 te f there rows → view_edits view changes (old_places changes rows) ≢ [])
    complains_of se te h =
        let long = trees.views.ok.0 in
        (h.0, omega (arith, h.1, long), h.2, λ f there rows over none. h.3 (ap (view_edits h.0 changes) (found se u2 te f there rows over) ∙ none))

    -- ---- the views weren't edited

    module _ (fault : TreeFault F PoolFault) (views : EditsViews n s changes olds s1 s2 u0 u2 t1 t2 ts (Err fault)) where
      damaged_views : (at : ℕ) → refused IndexTrees fault ≡ Err (tree_fault.BadNode at) → WhereTold (n.nodes s2) (λ there. IsFaultyIn there u0.design.now.views trees at)
      damaged_views at is there told =
          let bad = views.damaged at (ap (refused (List Tree)) (err_same IndexTrees fault (tree_fault.BadNode at) is)) in
          of_rows bad.0 bad.1 bad.2 (bad.3 there told)

      pub at_views : Exchanges n s trees changes s0 s2 u0 u2 t0 t2 (refused IndexTrees fault)
      at_views = record {
        made = λ f there rows over. tt;
        kept = unless_map (refused IndexTrees fault) (keeps_both (n.nodes s0) (n.nodes s1) (n.nodes s2) still) (unless_other (List Tree) IndexTrees (KeepsPlaces (n.nodes s1) (n.nodes s2)) fault views.went.kept);
        ready = unless_other (List Tree) IndexTrees (n.is_ready s2) fault views.went.ready;
        sizes = tt;
        number = tt;
        room = λ enough. tt;
        steps = λ f there rows h over low. tt;
        most_steps = λ f there rows h over within.
            let low = within.back.0 in
            let first = reads.steps in
            let second = views.most_steps h (enough h within) in
            let all = steps_all (length changes) back.height h (row_edit_count 0 (length ts) changes olds) (length (back_edits changes olds)) t0 t1 t2 t2 low first.within second (omega arith) in
            subst (λ e. t2 ≤ t0 + (e * (8 * (h + 1)) + length changes * (2 * h))) (sym (count_all s2 u2 t2 f there rows over)) all;
        puts = λ f there rows h over low. tt;
        most_puts = λ f there rows h over within.
            let same = ap length reads.puts in
            let second = views.most_puts h (enough h within) in
            let first : length (n.puts s2) ≤ length (n.puts s0) + row_edit_count 0 (length ts) changes olds * (4 * (h + 1)) = omega (arith, second, same) in
            let all = sum_bounds (row_edit_count 0 (length ts) changes olds) (length (back_edits changes olds)) (4 * (h + 1)) (length (n.puts s0)) (length (n.puts s2)) (length (n.puts s2)) first (omega arith) in
            subst (λ e. length (n.puts s2) ≤ length (n.puts s0) + e * (4 * (h + 1))) (sym (count_all s2 u2 t2 f there rows over)) all;
        bytes = λ f there rows longest h over short then_short low. tt;
        most_bytes = λ f there rows longest h over short then_short within.
            let same = reads.size in
            let second = views.most_bytes f there rows longest h (over_views s2 u2 t2 f there rows over) (all_short s2 u2 t2 f there rows over longest short then_short) (enough h within) in
            let first : n.size s2 ≤ n.size s0 + (row_edit_count 0 (length ts) changes olds * (4 * (h + 1))) * node_size longest = omega (arith, second, same) in
            let all = sum_products (row_edit_count 0 (length ts) changes olds) (length (back_edits changes olds)) (4 * (h + 1)) (node_size longest) (n.size s0) (n.size s2) (n.size s2) first (omega arith) in
            subst (λ e. n.size s2 ≤ n.size s0 + (e * (4 * (h + 1))) * node_size longest) (sym (count_all s2 u2 t2 f there rows over)) all;
        pieces = λ f there rows longest over short then_short.
            subst (λ ps. PutsWithin (node_size longest) ps (n.puts s2)) reads.puts (views.pieces f there rows longest (over_views s2 u2 t2 f there rows over) (all_short s2 u2 t2 f there rows over longest short then_short));
        reads = (omega (arith, reads_first.0, views.went.reads.0), omega (arith, reads_first.1, views.went.reads.1));
        store = store_then n laws s0 s1 s2 (refused IndexTrees fault) goes (store_other (List Tree) IndexTrees n s1 s2 fault views.went.store);
        talk = talk_other (List Tree) IndexTrees s u0 u2 fault views.went.talk;
        usable = λ view within some. tt;
        complains = λ is. complains_of s2 t2 (views.complains (ap (refused (List Tree)) (err_same IndexTrees fault (tree_fault.Summer Compile) is)));
        got = tt;
        found = λ f there rows over.
            found_other (List Tree) IndexTrees n s0 s2 fault
            (found_then n laws s0 s1 s2 goes (first_found s2 u2 t2 f there rows over) (refused (List Tree) fault) views.went.kept (views.found f there rows (over_views s2 u2 t2 f there rows over)));
        sound = λ f there rows at over is. views.sound f there rows at (over_views s2 u2 t2 f there rows over) (ap (refused (List Tree)) (err_same IndexTrees fault (tree_fault.BadNode at) is));
        damaged = damaged_views;
      }

    -- ---- the views were edited

    module _ (es : List Tree) (views : EditsViews n s changes olds s1 s2 u0 u2 t1 t2 ts (Ok es)) (s3 : S) (t3 : ℕ) where
      kept_second : KeepsPlaces (n.nodes s0) (n.nodes s2)
      kept_second = keeps_both (n.nodes s0) (n.nodes s1) (n.nodes s2) still views.went.kept

      module _ (f : Option Functions) (there : Places) (rows : List (List Row)) (over : IsOver n s trees changes s0 s3 u0 u2 t0 t3 f there rows) where
        told_second : (n.nodes s2 ≡ Some (places (n.nodes s2))) × Extends there (places (n.nodes s2))
        told_second = told_then (n.nodes s0) (n.nodes s2) there over.told kept_second

        lists : Lists n changes olds s2 s3 t2 t3 back (places (n.nodes s2)) rows over.holds.entries
        lists = record {
          told = told_second.0;
          found = found s3 u2 t3 f there rows over;
          are = over.holds.are;
          holds = tree_passes back_items no_summaries no_summaries (same_sums no_summaries) there (places (n.nodes s2)) told_second.1 back over.holds.entries over.holds.listed;
        }

        rows_rise : (k : ℕ) → k < length rows → IsStrictlySortedBy item_cmp (slice_index_or rows k [])
        rows_rise k within =
            let same = over.holds.number in
            let has = each_there (HasRows f u0.design.now.views there rows) 0 ts over.holds.each k (omega (arith, within, same)) in
            let number : 0 + k ≡ k = omega arith in
            subst (λ m. IsStrictlySortedBy item_cmp (slice_index_or rows m [])) number has.1.rises

        may : MayExchange n changes olds s2 s3 t2 t3 back rows
        may = record { rise = All-from_get_or (IsStrictlySortedBy item_cmp) rows [] rows_rise; apart = over.apart; whole = over.whole }

      -- what both took
      module _ (f : Option Functions) (there : Places) (rows : List (List Row)) (over : IsOver n s trees changes s0 s3 u0 u2 t0 t3 f there rows) (h : ℕ) where
        steps_both : back.height ≤ h → t2 ≤ t1 + row_edit_count 0 (length ts) changes olds * (8 * (h + 1)) → t3 ≤ t2 + length (back_edits changes olds) * (8 * (h + 1)) → t3 ≤ t0 + (edit_count changes rows * (8 * (h + 1)) + length changes * (2 * h))
        steps_both low second third =
            let first = reads.steps in
            let all = steps_all (length changes) back.height h (row_edit_count 0 (length ts) changes olds) (length (back_edits changes olds)) t0 t1 t2 t3 low first.within second third in
            subst (λ e. t3 ≤ t0 + (e * (8 * (h + 1)) + length changes * (2 * h))) (sym (count_all s3 u2 t3 f there rows over)) all

        puts_both : length (n.puts s2) ≤ length (n.puts s1) + row_edit_count 0 (length ts) changes olds * (4 * (h + 1)) → length (n.puts s3) ≤ length (n.puts s2) + length (back_edits changes olds) * (4 * (h + 1))
            → length (n.puts s3) ≤ length (n.puts s0) + edit_count changes rows * (4 * (h + 1))
        puts_both second third =
            let same = ap length reads.puts in
            let first : length (n.puts s2) ≤ length (n.puts s0) + row_edit_count 0 (length ts) changes olds * (4 * (h + 1)) = omega (arith, second, same) in
            let all = sum_bounds (row_edit_count 0 (length ts) changes olds) (length (back_edits changes olds)) (4 * (h + 1)) (length (n.puts s0)) (length (n.puts s2)) (length (n.puts s3)) first third in
            subst (λ e. length (n.puts s3) ≤ length (n.puts s0) + e * (4 * (h + 1))) (sym (count_all s3 u2 t3 f there rows over)) all

        bytes_both : (size : ℕ) → n.size s2 ≤ n.size s1 + (row_edit_count 0 (length ts) changes olds * (4 * (h + 1))) * size → n.size s3 ≤ n.size s2 + (length (back_edits changes olds) * (4 * (h + 1))) * size
            → n.size s3 ≤ n.size s0 + (edit_count changes rows * (4 * (h + 1))) * size
        bytes_both size second third =
            let same = reads.size in
            let first : n.size s2 ≤ n.size s0 + (row_edit_count 0 (length ts) changes olds * (4 * (h + 1))) * size = omega (arith, second, same) in
            let all = sum_products (row_edit_count 0 (length ts) changes olds) (length (back_edits changes olds)) (4 * (h + 1)) size (n.size s0) (n.size s2) (n.size s3) first third in
            subst (λ e. n.size s3 ≤ n.size s0 + (e * (4 * (h + 1))) * size) (sym (count_all s3 u2 t3 f there rows over)) all

      -- what both put, and where both got
      module _ (f : Option Functions) (there : Places) (rows : List (List Row)) (over : IsOver n s trees changes s0 s3 u0 u2 t0 t3 f there rows) (r : Result Tree (TreeFault F PoolFault)) (own : EditsBack n changes olds s2 s3 t2 t3 back r) where
        pieces_both : (longest : ℕ) → AreShort longest rows → AreShort longest (replaced_views changes rows) → PutsWithin (node_size longest) (n.puts s0) (n.puts s3)
        pieces_both longest short then_short =
            let Small : List ℕ → Type 0 = λ piece. length piece + 8 ≤ node_size longest in
            subst (λ ps. PutsWithin (node_size longest) ps (n.puts s3)) reads.puts
            (since_both Small Small Small (λ x h. h) (λ x h. h) (n.puts s1) (n.puts s2) (n.puts s3)
            (views.pieces f there rows longest (over_views s3 u2 t3 f there rows over) (all_short s3 u2 t3 f there rows over longest short then_short))
            (own.pieces (places (n.nodes s2)) rows over.holds.entries longest (lists f there rows over) (may f there rows over) short.entries then_short.entries))

        found_both : GotFound n s0 s3 r
        found_both =
            let second = own.found (places (n.nodes s2)) over.holds.entries (told_second f there rows over).0 (lists f there rows over).holds in
            let both = found_then n laws s1 s2 s3 views.went.store (views.found f there rows (over_views s3 u2 t3 f there rows over)) r own.kept second in
            found_then n laws s0 s1 s3 goes (first_found s3 u2 t3 f there rows over) r (unless_map r (keeps_both (n.nodes s1) (n.nodes s2) (n.nodes s3) views.went.kept) own.kept) both

      -- ---- the back-index wasn't edited

      module _ (fault : TreeFault F PoolFault) (own : EditsBack n changes olds s2 s3 t2 t3 back (Err fault)) where
        damaged_back : (at : ℕ) → refused IndexTrees fault ≡ Err (tree_fault.BadNode at) → WhereTold (n.nodes s3) (λ there. IsFaultyIn there u0.design.now.views trees at)
        damaged_back at is there told = of_back (own.damaged at (ap (refused Tree) (err_same IndexTrees fault (tree_fault.BadNode at) is)) there told)

        talk_back : (x : TreeFault F PoolFault) → ((p : PoolFault) → x ≡ tree_fault.Summer p → ⊥) → SummersWent s u0 u2 (refused IndexTrees x)
        talk_back (tree_fault.Store f) never = views.went.talk
        talk_back (tree_fault.BadNode at) never = views.went.talk
        talk_back (tree_fault.Summer p) never = absurd (never p refl)
        talk_back tree_fault.NoMemory never = views.went.talk

        pub at_back : Exchanges n s trees changes s0 s3 u0 u2 t0 t3 (refused IndexTrees fault)
        at_back = record {
          made = λ f there rows over. tt;
          kept = unless_map (refused IndexTrees fault) (keeps_both (n.nodes s0) (n.nodes s2) (n.nodes s3) kept_second) (unless_other Tree IndexTrees (KeepsPlaces (n.nodes s2) (n.nodes s3)) fault own.kept);
          ready = unless_other Tree IndexTrees (n.is_ready s3) fault own.ready;
          sizes = tt;
          number = tt;
          room = λ enough. tt;
          steps = λ f there rows h over low. tt;
          most_steps = λ f there rows h over within.
              steps_both f there rows over h within.back.0 (views.most_steps h (enough h within)) (own.most_steps h within.back.0 (back_enough h within));
          puts = λ f there rows h over low. tt;
          most_puts = λ f there rows h over within. puts_both f there rows over h (views.most_puts h (enough h within)) (own.most_puts h within.back.0 (back_enough h within));
          bytes = λ f there rows longest h over short then_short low. tt;
          most_bytes = λ f there rows longest h over short then_short within.
              bytes_both f there rows over h (node_size longest)
              (views.most_bytes f there rows longest h (over_views s3 u2 t3 f there rows over) (all_short s3 u2 t3 f there rows over longest short then_short) (enough h within))
              (own.most_bytes (places (n.nodes s2)) rows over.holds.entries longest h (lists f there rows over) (may f there rows over) short.entries then_short.entries within.back.0 (back_enough h within));
          pieces = λ f there rows longest over short then_short. pieces_both f there rows over (refused Tree fault) own longest short then_short;
          reads = (omega (arith, reads_first.0, views.went.reads.0, own.reads.0), omega (arith, reads_first.1, views.went.reads.1, own.reads.1));
          store = store_then n laws s0 s1 s3 (refused IndexTrees fault) goes (store_then n laws s1 s2 s3 (refused IndexTrees fault) views.went.store (store_other Tree IndexTrees n s2 s3 fault own.store));
          talk = talk_back fault (λ p is. own.unblamed p (ap (refused Tree) is));
          usable = λ view within some. tt;
          complains = λ is. absurd (own.unblamed Compile (ap (refused Tree) (err_same IndexTrees fault (tree_fault.Summer Compile) is)));
          got = tt;
          found = λ f there rows over. found_other Tree IndexTrees n s0 s3 fault (found_both f there rows over (refused Tree fault) own);
          sound = λ f there rows at over is.
              own.sound (places (n.nodes s2)) over.holds.entries at (told_second f there rows over).0 (lists f there rows over).holds (ap (refused Tree) (err_same IndexTrees fault (tree_fault.BadNode at) is));
          damaged = damaged_back;
        }

      -- ---- all was edited

      module _ (b : Tree) (own : EditsBack n changes olds s2 s3 t2 t3 back (Ok b)) (after : IndexTrees) (is_views : after.views.items ≡ es) (is_back : after.back ≡ b) where
        made_all : (f : Option Functions) (there : Places) (rows : List (List Row)) → IsOver n s trees changes s0 s3 u0 u2 t0 t3 f there rows
            → HoldTrees f u0.design.now.views (places (n.nodes s3)) es b (replaced_views changes rows)
        made_all f there rows over =
            let entries = own.made (places (n.nodes s2)) rows over.holds.entries (lists f there rows over) (may f there rows over) in
            let each = views.made f there rows (over_views s3 u2 t3 f there rows over) in
            let same = views.number in
            let long = over.holds.number in
            let further = length-each_from (replaced changes) 0 rows in
            record {
              number = omega (arith, same, long, further);
              each =
                  each_map (HasRows f u0.design.now.views (places (n.nodes s2)) (replaced_views changes rows)) (HasRows f u0.design.now.views (places (n.nodes s3)) (replaced_views changes rows))
                  (λ view tree. rows_stay f u0.design.now.views (places (n.nodes s2)) (places (n.nodes s3)) (replaced_views changes rows) view tree (extends_then (n.nodes s2) (n.nodes s3) own.kept)) 0 es each;
              entries = entries.0;
              are = entries.1;
              listed = entries.2;
            }

        low_views : (h : ℕ) → AreLow h after → All (λ (tree : Tree). tree.height ≤ h) es
        low_views h low = subst (All (λ (tree : Tree). tree.height ≤ h)) is_views low.views

        low_back : (h : ℕ) → AreLow h after → b.height ≤ h
        low_back h low = subst (λ (tree : Tree). tree.height ≤ h) is_back low.back

        room_all : HaveRoom (n.size s0) trees → HaveRoom (n.size s3) after
        room_all enough =
            let same = reads.size in
            let more = views.went.more in
            let later = own.more in
            let first = All-weaker (λ (tree : Tree). 8 * tree.count ≤ n.size s0) (λ (tree : Tree). 8 * tree.count ≤ n.size s1) (λ x h. omega (arith, h, same)) ts enough.views in
            let mine : 8 * back.count ≤ n.size s2 = let fits = enough.back in omega (arith, fits, same, more) in
            record {
              views = subst (All (λ (tree : Tree). 8 * tree.count ≤ n.size s3)) (sym is_views) (All-weaker (λ (tree : Tree). 8 * tree.count ≤ n.size s2) (λ (tree : Tree). 8 * tree.count ≤ n.size s3) (λ x h. omega (arith, h, later)) es (views.room first));
              back = subst (λ (tree : Tree). 8 * tree.count ≤ n.size s3) (sym is_back) (own.room mine);
            }

        pub at_end : Exchanges n s trees changes s0 s3 u0 u2 t0 t3 (Ok after)
        at_end = record {
          made = λ f there rows over. subst (λ (xs : List Tree). HoldTrees f u0.design.now.views (places (n.nodes s3)) xs after.back (replaced_views changes rows)) (sym is_views)
              (subst (λ (tree : Tree). HoldTrees f u0.design.now.views (places (n.nodes s3)) es tree (replaced_views changes rows)) (sym is_back) (made_all f there rows over));
          kept = keeps_both (n.nodes s0) (n.nodes s2) (n.nodes s3) kept_second own.kept;
          ready = own.ready;
          sizes = record { views = subst (All IsTreeSize) (sym is_views) views.sizes; back = subst IsTreeSize (sym is_back) own.size };
          number = let same = views.number in let mine = ap length is_views in let first = after.views.ok.0 in let last = trees.views.ok.0 in omega (arith, same, mine, first, last);
          room = room_all;
          steps = λ f there rows h over low then_low.
              steps_both f there rows over h low.back (views.steps h low.views (low_views h then_low)) (own.steps h low.back (low_back h then_low));
          most_steps = λ f there rows h over within.
              steps_both f there rows over h within.back.0 (views.most_steps h (enough h within)) (own.most_steps h within.back.0 (back_enough h within));
          puts = λ f there rows h over low then_low.
              puts_both f there rows over h (views.puts h low.views (low_views h then_low)) (own.puts h low.back (low_back h then_low));
          most_puts = λ f there rows h over within. puts_both f there rows over h (views.most_puts h (enough h within)) (own.most_puts h within.back.0 (back_enough h within));
          bytes = λ f there rows longest h over short then_short low then_low.
              bytes_both f there rows over h (node_size longest)
              (views.bytes f there rows longest h (over_views s3 u2 t3 f there rows over) (all_short s3 u2 t3 f there rows over longest short then_short) low.views (low_views h then_low))
              (own.bytes (places (n.nodes s2)) rows over.holds.entries longest h (lists f there rows over) (may f there rows over) short.entries then_short.entries low.back (low_back h then_low));
          most_bytes = λ f there rows longest h over short then_short within.
              bytes_both f there rows over h (node_size longest)
              (views.most_bytes f there rows longest h (over_views s3 u2 t3 f there rows over) (all_short s3 u2 t3 f there rows over longest short then_short) (enough h within))
              (own.most_bytes (places (n.nodes s2)) rows over.holds.entries longest h (lists f there rows over) (may f there rows over) short.entries then_short.entries within.back.0 (back_enough h within));
          pieces = λ f there rows longest over short then_short. pieces_both f there rows over (Ok b) own longest short then_short;
          reads = (omega (arith, reads_first.0, views.went.reads.0, own.reads.0), omega (arith, reads_first.1, views.went.reads.1, own.reads.1));
          store = laws.steps.both s0 s1 s3 goes (laws.steps.both s1 s2 s3 views.went.store own.store);
          talk = views.went.talk;
          usable = λ view within some.
              let long = trees.views.ok.0 in
              let comes = comes_some view changes olds are.number some in
              views.usable view comes.0 (omega (arith, within, long)) comes.1;
          complains = λ is. absurd (let never : done IndexTrees (TreeFault F PoolFault) after ≡ Err (tree_fault.Summer Compile) = is in cc);
          found = λ f there rows over. found_both f there rows over (Ok b) own;
          got =
              let views_are = u0.design.now.views in
              let first : NodesGot views_are n s0 s1 = reads_got views_are n back s0 s1 reads.nodes went.got in
              let second : NodesGot views_are n s0 s2 = nodes_both views_are n s0 s1 s2 views.went.kept first views.got in
              nodes_both views_are n s0 s2 s3 own.kept second (entries_got views_are n s2 s3 own.got);
          sound = λ f there rows at over is. let never : done IndexTrees (TreeFault F PoolFault) after ≡ Err (tree_fault.BadNode at) = is in cc;
          damaged = λ at is. absurd (let never : done IndexTrees (TreeFault F PoolFault) after ≡ Err (tree_fault.BadNode at) = is in cc);
        }
