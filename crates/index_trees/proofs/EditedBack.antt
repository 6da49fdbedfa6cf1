-- The tree of the back-index after its edits.
use Rattle.std.proofs.Common.{◌≡◌, ◌≤◌, ℕ, List, All, length, Result, Ok, Err, subst, ap, sym, arith}
use Rattle.std.specs.Prelude.{IfOk, OnOk, IsPermutation, IsSorted}
use Rattle.std.specs.List.Sorted.{IsStrictlySortedBy}
use Rattle.std.proofs.lemmas.List.Elements.{recursion_from_All}
use Rattle.std.proofs.lemmas.List.Sorted.{length_permutation}
use Rattle.json_terms.specs.declared.fault.NoMemory.{NoMemory as Want}
use Rattle.json_terms.specs.declared.term.Row.{Row}
use Rattle.tree_laws.specs.declared.store.NodeSource.{Ghosts as Sources}
use Rattle.tree_laws.specs.declared.tree.Tree.{Tree}
use Rattle.tree_laws.specs.declared.tree.TreeFault.{TreeFault}
use Rattle.tree_laws.specs.declared.tree.TreeFault.TheVariants as tree_fault
use Rattle.tree_laws.specs.Stores.{EachSince, KeepsPlaces, Places, WhereTold}
use Rattle.builtin_reduces.specs.Kept.{item_cmp}
use Rattle.reduce_tree.specs.declared.edit.Edit.{Edit}
use Rattle.reduce_tree.specs.Applied.{applied, edit_key, insertions, AreEdits, IsEdited}
use Rattle.reduce_tree.specs.Calls.{UnlessStore}
use Rattle.reduce_tree.proofs.Made.{made}
use Rattle.child_pool.specs.declared.pool_fault.PoolFault.{PoolFault}
use Rattle.row_exchange.specs.declared.doc_rows.DocRows.{DocRows}
use Rattle.row_exchange.specs.Replaced.{replaced_views}
use Rattle.index_items.specs.declared.back_row.BackRow.{BackRow}
use Rattle.index_items.specs.BackIndex.{IsBackIndex}
use Rattle.index_items.specs.BackItem.{BackEntry, entry_bytes, entry_cmp}
use Rattle.index_items.specs.BackLaws.{entry_cmp_total}
use Rattle.index_trees.specs.Edited.{AreShortEntries, EditsBack, Lists, MayExchange}
use Rattle.index_trees.specs.Edits.{back_edits, entry_insert_count}
use Rattle.index_trees.specs.Exchanges.{GotFound, IsNodeOf, StoreWent}
use Rattle.index_trees.specs.Faults.{by_pool}
use Rattle.index_trees.specs.Trees.{back_items, no_summaries}
use Rattle.index_trees.proofs.BackExchanged.{are_edits, back_exchanged, AreBackEdits}
use Rattle.index_trees.proofs.Inserted.{entries_inserted, insertions_permutation}
use Rattle.index_trees.proofs.Members.{all_of}
use Rattle.index_trees.proofs.Got.{entry_nodes, FoundGood}
use Rattle.index_trees.proofs.OneEdit.{bad_now, blamed, blames_none, bytes_by, failed_at, has_room, most_bytes_by, most_puts_by, most_steps_by, no_smaller, pieces_by, puts_by, steps_by, Applies, AppliesTo, FoundBad, StoreRan}
use Rattle.index_trees.proofs.Sequences.{StoreLaws}

-- ---- faults without a query server as those of one with it

-- the same answer
abbrev pub pooled : {X F : Type 0} → Result X (TreeFault F Want) → Result X (TreeFault F PoolFault)
pooled (Ok value) = Ok value
pooled (Err fault) = Err (by_pool fault)

module _ {X F : Type 0} where
  pooled_if : {P Q : X → Type 0} (result : Result X (TreeFault F Want)) → ((x : X) → P x → Q x) → IfOk result P → IfOk (pooled result) Q
  pooled_if (Ok value) f h = f value h
  pooled_if (Err fault) f h = tt

  pooled_on : (P : Type 0) (result : Result X (TreeFault F Want)) → OnOk result P → OnOk (pooled result) P
  pooled_on P (Ok value) h = h
  pooled_on P (Err fault) h = tt

  pooled_unless : (P : Type 0) (result : Result X (TreeFault F Want)) → UnlessStore result P → UnlessStore (pooled result) P
  pooled_unless P (Ok value) h = h
  pooled_unless P (Err (tree_fault.Store fault)) h = tt
  pooled_unless P (Err (tree_fault.BadNode at)) h = h
  pooled_unless P (Err (tree_fault.Summer fault)) h = h
  pooled_unless P (Err tree_fault.NoMemory) h = h

  -- no summer is blamed
  pooled_unblamed : (result : Result X (TreeFault F Want)) (fault : PoolFault) → pooled result ≡ Err (tree_fault.Summer fault) → ⊥
  pooled_unblamed (Ok value) fault is = cc
  pooled_unblamed (Err (tree_fault.Store own)) fault is = cc
  pooled_unblamed (Err (tree_fault.BadNode at)) fault is = cc
  pooled_unblamed (Err (tree_fault.Summer own)) fault is = cc
  pooled_unblamed (Err tree_fault.NoMemory) fault is = cc

  -- and a node is where it was before
  pooled_blame : (result : Result X (TreeFault F Want)) (at : ℕ) → pooled result ≡ Err (tree_fault.BadNode at) → result ≡ Err (tree_fault.BadNode at)
  pooled_blame (Ok value) at is = absurd (cc)
  pooled_blame (Err (tree_fault.Store fault)) at is = absurd (cc)
  pooled_blame (Err (tree_fault.BadNode other)) at is = let same : other ≡ at = ap blamed is in ap (λ (p : ℕ). Err (tree_fault.BadNode p)) same
  pooled_blame (Err (tree_fault.Summer fault)) at is = absurd (cc)
  pooled_blame (Err tree_fault.NoMemory) at is = absurd (cc)

module _ {S F : Type 0} (n : Sources S F) (laws : StoreLaws n) where
  pooled_went : {X : Type 0} (old new : S) (result : Result X (TreeFault F Want)) → StoreRan n old new result → StoreWent n old new (pooled result)
  pooled_went old new (Ok value) h = h
  pooled_went old new (Err (tree_fault.Store fault)) h = failed_at n laws old new fault h
  pooled_went old new (Err (tree_fault.BadNode at)) h = h
  pooled_went old new (Err (tree_fault.Summer fault)) h = h
  pooled_went old new (Err tree_fault.NoMemory) h = h

  pub pooled_found : {X : Type 0} (old new : S) (result : Result X (TreeFault F Want)) → GotFound n old new result → GotFound n old new (pooled result)
  pooled_found old new (Ok value) h = h
  pooled_found old new (Err (tree_fault.Store fault)) h = h
  pooled_found old new (Err (tree_fault.BadNode at)) h = h
  pooled_found old new (Err (tree_fault.Summer fault)) h = h
  pooled_found old new (Err tree_fault.NoMemory) h = h

-- ---- the edits

-- the edits of these documents, in order
pub record AreEntryEdits (changes : List DocRows) (olds : List (List BackRow)) (edits : List (Edit BackEntry)) : Type 0 where
  pub are : IsPermutation (back_edits changes olds) edits
  pub sorted : IsSorted (λ a b. entry_cmp (edit_key a) (edit_key b)) edits

pub entry_edits_of : (changes : List DocRows) (olds : List (List BackRow)) (edits items : List (Edit BackEntry)) → edits ≡ items → IsPermutation (back_edits changes olds) items → IsSorted (λ a b. entry_cmp (edit_key a) (edit_key b)) items
    → AreEntryEdits changes olds edits
entry_edits_of changes olds edits items is are sorted = subst (AreEntryEdits changes olds) (sym is) (record { are = are; sorted = sorted })

module _ {S F : Type 0} (n : Sources S F) (changes : List DocRows) (olds : List (List BackRow)) (edits : List (Edit BackEntry)) (by : AreEntryEdits changes olds edits) (old new : S) (before now : ℕ) (tree : Tree) where
  number : length edits ≡ length (back_edits changes olds)
  number = length_permutation (back_edits changes olds) edits by.are

  inserted : insertions edits ≤ entry_insert_count changes
  inserted = omega (arith, insertions_permutation (back_edits changes olds) edits by.are, entries_inserted changes olds)

  -- the tree holds the back-index of rows that may be exchanged
  module _ (there : Places) (rows : List (List Row)) (entries : List BackEntry) (lists : Lists n changes olds old new before now tree there rows entries) (may : MayExchange n changes olds old new before now tree rows) where
    are_for : AreBackEdits changes rows edits
    are_for = record {
      apart = may.apart;
      fit = may.whole;
      rise = recursion_from_All (IsStrictlySortedBy item_cmp) rows may.rise;
      are = subst (λ places. IsPermutation (back_edits changes places) edits) lists.found by.are;
      sorted = by.sorted;
    }

    edits_are : AreEdits entry_cmp edits
    edits_are = are_edits changes rows edits are_for

    abbrev later : List BackEntry
    later = applied entry_cmp edits entries

    is_edited : IsEdited entry_cmp edits entries later
    is_edited = made entry_cmp entry_cmp_total edits entries edits_are lists.holds.rises

    index_then : IsBackIndex (replaced_views changes rows) later
    index_then = back_exchanged changes rows edits are_for entries lists.are lists.holds.rises

    short_each : (longest : ℕ) (views : List (List Row)) (items : List BackEntry) → IsBackIndex views items
        → AreShortEntries n changes olds old new before now tree longest views → All (λ x. length (entry_bytes x) ≤ longest) items
    short_each longest views items is short = all_of (λ x. length (entry_bytes x) ≤ longest) items (λ x there. short x ((is x).0 there))

    short_now : (longest : ℕ) → AreShortEntries n changes olds old new before now tree longest rows → All (λ x. length (entry_bytes x) ≤ longest) entries
    short_now longest = short_each longest rows entries lists.are

    short_later : (longest : ℕ) → AreShortEntries n changes olds old new before now tree longest (replaced_views changes rows) → All (λ x. length (entry_bytes x) ≤ longest) later
    short_later longest = short_each longest (replaced_views changes rows) later index_then

  -- ---- the call

  module _ (laws : StoreLaws n) (result : Result Tree (TreeFault F Want)) (a : Applies n edits old new before now tree result) (to : AppliesTo n edits old new before now tree back_items no_summaries result) (bad : FoundBad back_items no_summaries n old new tree result) (good : FoundGood back_items no_summaries n old new result) where
    abbrev all : ℕ
    all = length (back_edits changes olds)

    abbrev more : ℕ
    more = entry_insert_count changes

    pub edited_back : EditsBack n changes olds old new before now tree (pooled result)
    edited_back = record {
      kept = pooled_unless (KeepsPlaces (n.nodes old) (n.nodes new)) result a.kept;
      ready = pooled_unless (n.is_ready new) result a.ready;
      reads = a.reads;
      store = pooled_went n laws old new result a.store;
      more = pooled_on (n.size old ≤ n.size new) result (no_smaller n edits old new before now tree result a);
      unblamed = pooled_unblamed result;
      made = λ there rows entries lists may.
          pooled_if result (λ after is. (later there rows entries lists may, index_then there rows entries lists may, is)) (to.tree_is there entries lists.told (edits_are there rows entries lists may) lists.holds);
      size = pooled_if result (λ after size. size) a.size;
      room = λ enough. pooled_if result (λ after room. room) (has_room n edits old new before now tree result a enough);
      steps = λ h low. pooled_if result (λ after steps. steps) (steps_by n edits old new before now tree result all more number inserted a h low);
      most_steps = most_steps_by n edits old new before now tree result all more number inserted a;
      puts = λ h low. pooled_if result (λ after puts. puts) (puts_by n edits old new before now tree result all more number inserted a h low);
      most_puts = most_puts_by n edits old new before now tree result all more number inserted a;
      bytes = λ there rows entries longest h lists may short then low.
          pooled_if result (λ after bytes. bytes) (bytes_by n edits old new before now tree result all more number inserted back_items no_summaries to there entries (later there rows entries lists may) longest lists.told lists.holds
          (is_edited there rows entries lists may) (short_now there rows entries lists may longest short) (short_later there rows entries lists may longest then) h low);
      most_bytes = λ there rows entries longest h lists may short then.
          most_bytes_by n edits old new before now tree result all more number inserted back_items no_summaries to there entries (later there rows entries lists may) longest lists.told lists.holds
          (is_edited there rows entries lists may) (short_now there rows entries lists may longest short) (short_later there rows entries lists may longest then) h;
      pieces = λ there rows entries longest lists may short then.
          pieces_by n edits old new before now tree result all more number inserted back_items no_summaries to there entries (later there rows entries lists may) longest lists.told lists.holds
          (is_edited there rows entries lists may) (short_now there rows entries lists may longest short) (short_later there rows entries lists may longest then);
      found = λ there entries told holds. pooled_found n laws old new result (to.found there entries told holds);
      got = pooled_on (WhereTold (n.nodes new) (λ there. EachSince (IsNodeOf back_items (λ node. Unit {0}) there) (n.gets old) (n.gets new))) result (entry_nodes n old new no_summaries result a.kept good);
      sound = λ there entries at told holds is. blames_none result at (to.sound there entries told holds) (pooled_blame result at is);
      damaged = λ at is. bad_now back_items no_summaries n old new tree result at a.kept bad (pooled_blame result at is);
    }
