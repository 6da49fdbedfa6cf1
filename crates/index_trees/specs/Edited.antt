-- What an exchange does to the trees one after another. For private clauses.
use Rattle.std.specs.Prelude.{◌≡◌, ◌≢◌, ◌<◌, ◌≤◌, ◌+◌, ◌*◌, ◌^◌, ℕ, List, [], All, Contains, length, slice_get, slice_index_or, bytes_eq, true, Option, None, Some, Result, Err, IfOk, OnOk}
use Rattle.std.specs.List.{list_all, IsDistinct}
use Rattle.std.specs.List.Sorted.{IsStrictlySortedBy}
use Rattle.json_terms.specs.declared.term.Row.{Row}
use Rattle.view_ports.specs.declared.servers.Servers.{Ghosts as Servers}
use Rattle.view_ports.specs.Functions.{Functions}
use Rattle.tree_laws.specs.declared.store.NodeSource.{Ghosts as Sources}
use Rattle.tree_laws.specs.declared.tree.Tree.{Tree}
use Rattle.tree_laws.specs.declared.tree.TreeFault.{TreeFault}
use Rattle.tree_laws.specs.declared.tree.TreeFault.TheVariants as tree_fault
use Rattle.tree_laws.specs.Reaching.{IsFaulty}
use Rattle.tree_laws.specs.Stores.{EachSince, KeepsPlaces, Places, WhereTold}
use Rattle.tree_laws.specs.Trees.{IsTree, IsTreeSize}
use Rattle.builtin_reduces.specs.Kept.{item_bytes, item_cmp}
use Rattle.reduce_tree.specs.declared.edit.Edit.TheVariants.{Insert}
use Rattle.reduce_tree.specs.Calls.{places, UnlessStore}
use Rattle.reduce_tree.specs.Counts.{ReadsFor, node_size}
use Rattle.child_pool.specs.declared.pool_fault.PoolFault.{PoolFault}
use Rattle.child_pool.specs.declared.pool_fault.PoolFault.TheVariants.{Compile}
use Rattle.child_pool.specs.declared.summers.Summers.{Summers}
use Rattle.child_pool.specs.ReduceTalk.{reduce_in}
use Rattle.row_exchange.specs.declared.doc_rows.DocRows.{DocRows}
use Rattle.row_exchange.specs.Replaced.{ids_of, is_change, new_rows, replaced_views}
use Rattle.index_items.specs.declared.back_row.BackRow.{BackRow}
use Rattle.index_items.specs.BackIndex.{IsBackIndex, IsEntryOf}
use Rattle.index_items.specs.BackItem.{BackEntry, entry_bytes}
use Rattle.index_trees.specs.Edits.{back_edits, entry_insert_count, old_places, row_edit_count, row_insert_count, view_edits}
use Rattle.index_trees.specs.Exchanges.{Complains, GotFound, GotNodesIn, IsNodeOf, IsUsable, PutsWithin, StoreWent, SummersWent}
use Rattle.index_trees.specs.Trees.{back_items, no_summaries, row_items, EachAt, HasRows}
use Rattle.index_trees.specs.ViewValues.{view_values, SumsBy}

-- rows that are spelled in so many bytes at most
abbrev pub AreShortRows : ℕ → List Row → Type 0
AreShortRows longest rows = All (λ row. length (item_bytes row) ≤ longest) rows

module _ {S F C : Type 0} (n : Sources S F) (s : Servers C) (changes : List DocRows) (olds : List (List BackRow)) (old new : S) (summers summers' : Summers C) (before now : ℕ) where
  -- the store tells what stands there, the old rows of the documents stand in these rows where they were found, and values are right by the
  -- functions of the query server where they are known
  pub record Begins (functions : Option Functions) (there : Places) (rows : List (List Row)) : Type 0 where
    pub told : n.nodes old ≡ Some there
    pub by : SumsBy s summers functions
    pub apart : IsDistinct bytes_eq (ids_of changes)
    pub found : olds ≡ old_places changes rows

  -- how many steps so many edits take at most, how many pieces and how many bytes
  abbrev pub StepsFor : ℕ → ℕ → Type 0
  StepsFor edits h = now ≤ before + edits * (8 * (h + 1))

  abbrev pub PutsFor : ℕ → ℕ → Type 0
  PutsFor edits h = length (n.puts new) ≤ length (n.puts old) + edits * (4 * (h + 1))

  abbrev pub BytesFor : ℕ → ℕ → ℕ → Type 0
  BytesFor longest edits h = n.size new ≤ n.size old + (edits * (4 * (h + 1))) * node_size longest

  -- what is so however many trees are edited, and whatever the answer is
  pub record Went {X : Type 0} (result : Result X (TreeFault F PoolFault)) : Type 0 where
    pub kept : UnlessStore result (KeepsPlaces (n.nodes old) (n.nodes new))
    pub ready : UnlessStore result (n.is_ready new)
    pub reads : ReadsFor (n.reads old) (n.reads new) before now
    pub store : StoreWent n old new result
    pub talk : SummersWent s summers summers' result
    pub more : OnOk result (n.size old ≤ n.size new)
    pub by : (functions : Option Functions) → SumsBy s summers functions → OnOk result (SumsBy s summers' functions)

  -- the tree of the view of this number
  module _ (view : ℕ) (tree : Tree) where
    abbrev edits : ℕ
    edits = length (view_edits view changes olds)

    -- how many rows it gets
    abbrev inserts : ℕ
    inserts = length (new_rows changes view)

    -- it has the rows of the view
    pub record OverView (functions : Option Functions) (there : Places) (rows : List (List Row)) : Type 0 where
      pub begins : Begins functions there rows
      pub within : view < length rows
      pub has : HasRows functions summers.design.now.views there rows view tree

    -- the rows of the view are spelled in so many bytes at most, and so are those that replace them
    pub record AreShortIn (longest : ℕ) (rows : List (List Row)) : Type 0 where
      pub old_rows : AreShortRows longest (slice_index_or rows view [])
      pub then_rows : AreShortRows longest (slice_index_or (replaced_views changes rows) view [])

    pub record EditsView (result : Result Tree (TreeFault F PoolFault)) : Type 0 where
      pub went : Went result
      pub made : (functions : Option Functions) (there : Places) (rows : List (List Row)) → OverView functions there rows
          → IfOk result (HasRows functions summers.design.now.views (places (n.nodes new)) (replaced_views changes rows) view)
      pub size : IfOk result IsTreeSize
      pub room : 8 * tree.count ≤ n.size old → IfOk result (λ after. 8 * after.count ≤ n.size new)
      pub steps : (h : ℕ) → tree.height ≤ h → IfOk result (λ after. after.height ≤ h → StepsFor edits h)
      pub most_steps : (h : ℕ) → tree.height ≤ h → tree.count + inserts < 8 ^ h → StepsFor edits h
      pub puts : (h : ℕ) → tree.height ≤ h → IfOk result (λ after. after.height ≤ h → PutsFor edits h)
      pub most_puts : (h : ℕ) → tree.height ≤ h → tree.count + inserts < 8 ^ h → PutsFor edits h
      pub bytes : (functions : Option Functions) (there : Places) (rows : List (List Row)) (longest h : ℕ) → OverView functions there rows → AreShortIn longest rows
          → tree.height ≤ h → IfOk result (λ after. after.height ≤ h → BytesFor longest edits h)
      pub most_bytes : (functions : Option Functions) (there : Places) (rows : List (List Row)) (longest h : ℕ) → OverView functions there rows → AreShortIn longest rows
          → tree.height ≤ h → tree.count + inserts < 8 ^ h → BytesFor longest edits h
      pub pieces : (functions : Option Functions) (there : Places) (rows : List (List Row)) (longest : ℕ) → OverView functions there rows → AreShortIn longest rows → PutsWithin (node_size longest) (n.puts old) (n.puts new)
      pub usable : (row : Row) → Contains (view_edits view changes olds) (Insert row) → OnOk result (IsUsable s summers view)
      pub complains : result ≡ Err (tree_fault.Summer Compile) → Complains s summers summers' view × (view_edits view changes olds ≢ [])
      pub found : (functions : Option Functions) (there : Places) (rows : List (List Row)) → OverView functions there rows → GotFound n old new result
      pub got : OnOk result (WhereTold (n.nodes new) (λ there. GotNodesIn summers.design.now.views there (n.gets old) (n.gets new)))
      pub sound : (functions : Option Functions) (there : Places) (rows : List (List Row)) (at : ℕ) → OverView functions there rows → result ≡ Err (tree_fault.BadNode at) → ⊥
      pub damaged : (at : ℕ) → result ≡ Err (tree_fault.BadNode at) → WhereTold (n.nodes new) (λ there. IsFaulty row_items (view_values None (reduce_in summers.design.now.views view)) there tree at)

  -- the trees of the first views
  module _ (trees : List Tree) where
    abbrev all_edits : ℕ
    all_edits = row_edit_count 0 (length trees) changes olds

    abbrev all_inserts : ℕ
    all_inserts = row_insert_count 0 (length trees) changes

    -- they have the rows of these views
    pub record OverViews (functions : Option Functions) (there : Places) (rows : List (List Row)) : Type 0 where
      pub begins : Begins functions there rows
      pub long : length trees ≤ length rows
      pub have : EachAt (HasRows functions summers.design.now.views there rows) 0 trees

    -- all rows are spelled in so many bytes at most, and so are those that replace them
    pub record AreAllShort (longest : ℕ) (rows : List (List Row)) : Type 0 where
      pub old_rows : All (AreShortRows longest) rows
      pub then_rows : All (AreShortRows longest) (replaced_views changes rows)

    -- so many levels are enough for each tree, with as many items more as all get at least
    pub record AreEnough (h : ℕ) : Type 0 where
      pub more : ℕ
      pub inserts : all_inserts ≤ more
      pub each : All (λ (tree : Tree). (tree.height ≤ h) × (tree.count + more < 8 ^ h)) trees

    pub record EditsViews (result : Result (List Tree) (TreeFault F PoolFault)) : Type 0 where
      pub went : Went result
      pub made : (functions : Option Functions) (there : Places) (rows : List (List Row)) → OverViews functions there rows
          → IfOk result (EachAt (HasRows functions summers.design.now.views (places (n.nodes new)) (replaced_views changes rows)) 0)
      pub number : IfOk result (λ after. length after ≡ length trees)
      pub sizes : IfOk result (All IsTreeSize)
      pub room : All (λ (tree : Tree). 8 * tree.count ≤ n.size old) trees → IfOk result (All (λ (tree : Tree). 8 * tree.count ≤ n.size new))
      pub steps : (h : ℕ) → All (λ (tree : Tree). tree.height ≤ h) trees → IfOk result (λ after. All (λ (tree : Tree). tree.height ≤ h) after → StepsFor all_edits h)
      pub most_steps : (h : ℕ) → AreEnough h → StepsFor all_edits h
      pub puts : (h : ℕ) → All (λ (tree : Tree). tree.height ≤ h) trees → IfOk result (λ after. All (λ (tree : Tree). tree.height ≤ h) after → PutsFor all_edits h)
      pub most_puts : (h : ℕ) → AreEnough h → PutsFor all_edits h
      pub bytes : (functions : Option Functions) (there : Places) (rows : List (List Row)) (longest h : ℕ) → OverViews functions there rows → AreAllShort longest rows
          → All (λ (tree : Tree). tree.height ≤ h) trees → IfOk result (λ after. All (λ (tree : Tree). tree.height ≤ h) after → BytesFor longest all_edits h)
      pub most_bytes : (functions : Option Functions) (there : Places) (rows : List (List Row)) (longest h : ℕ) → OverViews functions there rows → AreAllShort longest rows → AreEnough h → BytesFor longest all_edits h
      pub pieces : (functions : Option Functions) (there : Places) (rows : List (List Row)) (longest : ℕ) → OverViews functions there rows → AreAllShort longest rows → PutsWithin (node_size longest) (n.puts old) (n.puts new)
      pub usable : (view : ℕ) (row : Row) → view < length trees → Contains (view_edits view changes olds) (Insert row) → OnOk result (IsUsable s summers view)
      pub complains : result ≡ Err (tree_fault.Summer Compile) → (view : ℕ) × (view < length trees) × Complains s summers summers' view × (view_edits view changes olds ≢ [])
      pub found : (functions : Option Functions) (there : Places) (rows : List (List Row)) → OverViews functions there rows → GotFound n old new result
      pub got : OnOk result (WhereTold (n.nodes new) (λ there. GotNodesIn summers.design.now.views there (n.gets old) (n.gets new)))
      pub sound : (functions : Option Functions) (there : Places) (rows : List (List Row)) (at : ℕ) → OverViews functions there rows → result ≡ Err (tree_fault.BadNode at) → ⊥
      pub damaged : (at : ℕ) → result ≡ Err (tree_fault.BadNode at)
          → (view : ℕ) × (tree : Tree) × (slice_get trees view ≡ Some tree) × WhereTold (n.nodes new) (λ there. IsFaulty row_items (view_values None (reduce_in summers.design.now.views view)) there tree at)

-- the tree of the back-index
module _ {S F : Type 0} (n : Sources S F) (changes : List DocRows) (olds : List (List BackRow)) (old new : S) (before now : ℕ) (tree : Tree) where
  abbrev entry_edits : ℕ
  entry_edits = length (back_edits changes olds)

  -- how many entries it gets
  abbrev entry_inserts : ℕ
  entry_inserts = entry_insert_count changes

  -- the tree has these entries, of these rows, where the old rows of the documents were found
  pub record Lists (there : Places) (rows : List (List Row)) (entries : List BackEntry) : Type 0 where
    pub told : n.nodes old ≡ Some there
    pub found : olds ≡ old_places changes rows
    pub are : IsBackIndex rows entries
    pub holds : IsTree back_items no_summaries there tree entries

  -- what is to be the back-index of these rows
  abbrev pub AreShortEntries : ℕ → List (List Row) → Type 0
  AreShortEntries longest rows = (entry : BackEntry) → IsEntryOf rows entry → length (entry_bytes entry) ≤ longest

  -- of rows that may be exchanged: each view's rise, no document is named twice, and each has a list for each view
  pub record MayExchange (rows : List (List Row)) : Type 0 where
    pub rise : All (IsStrictlySortedBy item_cmp) rows
    pub apart : IsDistinct bytes_eq (ids_of changes)
    pub whole : list_all (is_change (length rows)) changes ≡ true

  pub record EditsBack (result : Result Tree (TreeFault F PoolFault)) : Type 0 where
    pub kept : UnlessStore result (KeepsPlaces (n.nodes old) (n.nodes new))
    pub ready : UnlessStore result (n.is_ready new)
    pub reads : ReadsFor (n.reads old) (n.reads new) before now
    pub store : StoreWent n old new result
    pub more : OnOk result (n.size old ≤ n.size new)
    -- no summer is blamed
    pub unblamed : (fault : PoolFault) → result ≡ Err (tree_fault.Summer fault) → ⊥
    pub made : (there : Places) (rows : List (List Row)) (entries : List BackEntry) → Lists there rows entries → MayExchange rows
        → IfOk result (λ after. (es : List BackEntry) × IsBackIndex (replaced_views changes rows) es × IsTree back_items no_summaries (places (n.nodes new)) after es)
    pub size : IfOk result IsTreeSize
    pub room : 8 * tree.count ≤ n.size old → IfOk result (λ after. 8 * after.count ≤ n.size new)
    pub steps : (h : ℕ) → tree.height ≤ h → IfOk result (λ after. after.height ≤ h → now ≤ before + entry_edits * (8 * (h + 1)))
    pub most_steps : (h : ℕ) → tree.height ≤ h → tree.count + entry_inserts < 8 ^ h → now ≤ before + entry_edits * (8 * (h + 1))
    pub puts : (h : ℕ) → tree.height ≤ h → IfOk result (λ after. after.height ≤ h → length (n.puts new) ≤ length (n.puts old) + entry_edits * (4 * (h + 1)))
    pub most_puts : (h : ℕ) → tree.height ≤ h → tree.count + entry_inserts < 8 ^ h → length (n.puts new) ≤ length (n.puts old) + entry_edits * (4 * (h + 1))
    pub bytes : (there : Places) (rows : List (List Row)) (entries : List BackEntry) (longest h : ℕ) → Lists there rows entries → MayExchange rows → AreShortEntries longest rows → AreShortEntries longest (replaced_views changes rows)
        → tree.height ≤ h → IfOk result (λ after. after.height ≤ h → n.size new ≤ n.size old + (entry_edits * (4 * (h + 1))) * node_size longest)
    pub most_bytes : (there : Places) (rows : List (List Row)) (entries : List BackEntry) (longest h : ℕ) → Lists there rows entries → MayExchange rows → AreShortEntries longest rows → AreShortEntries longest (replaced_views changes rows)
        → tree.height ≤ h → tree.count + entry_inserts < 8 ^ h → n.size new ≤ n.size old + (entry_edits * (4 * (h + 1))) * node_size longest
    pub pieces : (there : Places) (rows : List (List Row)) (entries : List BackEntry) (longest : ℕ) → Lists there rows entries → MayExchange rows → AreShortEntries longest rows → AreShortEntries longest (replaced_views changes rows)
        → PutsWithin (node_size longest) (n.puts old) (n.puts new)
    pub found : (there : Places) (entries : List BackEntry) → n.nodes old ≡ Some there → IsTree back_items no_summaries there tree entries → GotFound n old new result
    pub got : OnOk result (WhereTold (n.nodes new) (λ there. EachSince (IsNodeOf back_items (λ node. Unit {0}) there) (n.gets old) (n.gets new)))
    pub sound : (there : Places) (entries : List BackEntry) (at : ℕ) → n.nodes old ≡ Some there → IsTree back_items no_summaries there tree entries → result ≡ Err (tree_fault.BadNode at) → ⊥
    pub damaged : (at : ℕ) → result ≡ Err (tree_fault.BadNode at) → WhereTold (n.nodes new) (λ there. IsFaulty back_items no_summaries there tree at)
