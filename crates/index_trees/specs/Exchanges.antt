-- What an exchange of the rows of documents promises.
use Rattle.std.specs.Prelude.{◌≡◌, ◌≢◌, ◌⊎◌, ◌<◌, ◌≤◌, ◌+◌, ◌*◌, ◌^◌, ◌∷◌, ℕ, List, [], All, length, slice_get, true, bytes_eq, vec_len, Option, None, Result, Ok, Err, IfOk, OnOk, Some}
use Rattle.std.specs.List.{list_all, IsDistinct}
use Rattle.json_terms.specs.declared.term.Row.{Row}
use Rattle.design_docs.specs.declared.design.View.{View}
use Rattle.design_docs.specs.declared.design.Reduce.TheVariants.{Source}
use Rattle.view_ports.specs.declared.servers.Servers.{Ghosts as Servers}
use Rattle.view_ports.specs.Functions.{Functions}
use Rattle.tree_laws.specs.declared.item.Item.{Ghosts as Items}
use Rattle.tree_laws.specs.declared.node.Node.{Node}
use Rattle.tree_laws.specs.declared.store.NodeSource.{Ghosts as Sources}
use Rattle.tree_laws.specs.declared.tree.Fill.{Fill}
use Rattle.tree_laws.specs.declared.tree.Tree.{Tree}
use Rattle.tree_laws.specs.declared.tree.TreeFault.{TreeFault}
use Rattle.tree_laws.specs.declared.tree.TreeFault.TheVariants as tree_fault
use Rattle.tree_laws.specs.Fetching.{KeepsBadSum}
use Rattle.tree_laws.specs.Reaching.{IsFaulty, StandsFit}
use Rattle.tree_laws.specs.Stores.{EachSince, KeepsPlaces, Places, WhereTold}
use Rattle.builtin_reduces.specs.Kept.{item_bytes}
use Rattle.reduce_tree.specs.Calls.{places, UnlessStore}
use Rattle.reduce_tree.specs.Counts.{ReadsFor, node_size}
use Rattle.child_pool.specs.declared.pool_fault.PoolFault.{PoolFault}
use Rattle.child_pool.specs.declared.pool_fault.PoolFault.TheVariants.{Compile, NoMemory}
use Rattle.child_pool.specs.declared.reduce_slot.ReduceSlot.{ReduceSlot}
use Rattle.child_pool.specs.declared.summers.Summers.{Summers}
use Rattle.child_pool.specs.ReduceTalk.{Compiles, Fails, Goes, reduce_in, reduce_sources}
use Rattle.row_exchange.specs.declared.doc_rows.DocRows.{DocRows}
use Rattle.row_exchange.specs.Replaced.{ids_of, is_change, new_rows, replaced_views}
use Rattle.index_items.specs.BackIndex.{IsEntryOf}
use Rattle.index_items.specs.BackItem.{BackEntry, entry_bytes}
use Rattle.index_trees.specs.declared.trees.IndexTrees.{IndexTrees}
use Rattle.index_trees.specs.Edits.{edit_count, insert_count, old_places, view_edits}
use Rattle.index_trees.specs.Trees.{back_items, no_summaries, row_items, AreLow, AreSizes, EachTree, HaveRoom, HoldRows}
use Rattle.index_trees.specs.ViewValues.{view_values, SumsBy}

-- ---- what becomes of the store and of the servers

-- after a fault of the store it is as that says, and else it went on
abbrev pub StoreWent : {S F X : Type 0} → Sources S F → S → S → Result X (TreeFault F PoolFault) → Type 0
StoreWent n old new (Ok value) = n.goes old new
StoreWent n old new (Err (tree_fault.Store fault)) = n.fails old new fault
StoreWent n old new (Err (tree_fault.BadNode at)) = n.goes old new
StoreWent n old new (Err (tree_fault.Summer fault)) = n.goes old new
StoreWent n old new (Err tree_fault.NoMemory) = n.goes old new

-- something stands at the place
abbrev pub HasBytes : Places → ℕ → Type 0
HasBytes there at = (bytes : List ℕ) × (there at ≡ Some bytes)

-- and so it does at each place that was got between
abbrev pub GotThere : Places → List ℕ → List ℕ → Type 0
GotThere there = EachSince (HasBytes there)

module _ {S F : Type 0} (n : Sources S F) where
  -- the store failed, and not because a place was got where nothing stands: it went on to a state from which places alone were got, or
  -- one piece was put, and that ended in this fault. In that state something stood at each place that was got, before it or from it on
  pub record FailsFound (old new : S) (fault : F) : Type 0 where
    pub mid : S
    pub went : n.goes old mid
    pub failed : n.fails mid new fault
    pub call : (n.puts new ≡ n.puts mid) ⊎ ((piece : List ℕ) × (n.puts new ≡ piece ∷ n.puts mid) × (n.gets new ≡ n.gets mid))
    pub found : GotThere (places (n.nodes mid)) (n.gets old) (n.gets new)

  -- no place was got where nothing stands: after a fault of the store by what stood in it then, and else by what stands there after all
  abbrev pub GotFound : {X G : Type 0} → S → S → Result X (TreeFault F G) → Type 0
  GotFound old new (Ok value) = GotThere (places (n.nodes new)) (n.gets old) (n.gets new)
  GotFound old new (Err (tree_fault.Store fault)) = FailsFound old new fault
  GotFound old new (Err (tree_fault.BadNode at)) = GotThere (places (n.nodes new)) (n.gets old) (n.gets new)
  GotFound old new (Err (tree_fault.Summer fault)) = GotThere (places (n.nodes new)) (n.gets old) (n.gets new)
  GotFound old new (Err tree_fault.NoMemory) = GotThere (places (n.nodes new)) (n.gets old) (n.gets new)

-- each piece that was put between takes so many bytes at most in a store
abbrev pub PutsWithin : ℕ → List (List ℕ) → List (List ℕ) → Type 0
PutsWithin most = EachSince (λ piece. length piece + 8 ≤ most)

module _ {C : Type 0} (s : Servers C) where
  -- values by the reduces of the views were asked for, and each was had; nothing is asked where no query server runs one
  pub record Talks (old new : Summers C) : Type 0 where
    pub design : new.design ≡ old.design
    pub slot : Goes s old.design.now.language (reduce_sources old.design.now.views) old.slot new.slot
    pub idle : reduce_sources old.design.now.views ≡ [] → new.slot ≡ old.slot

  -- a fault ended the talk, where a query server runs a reduce; where none does it is want of memory, and nothing was asked or stopped
  pub record GivesUp (old new : Summers C) (fault : PoolFault) : Type 0 where
    pub design : new.design ≡ old.design
    pub slot : Fails s old.design.now.language (reduce_sources old.design.now.views) old.slot new.slot fault
    pub idle : reduce_sources old.design.now.views ≡ [] → (fault ≡ NoMemory) × (new.slot ≡ old.slot)

  abbrev pub SummersWent : {F X : Type 0} → Summers C → Summers C → Result X (TreeFault F PoolFault) → Type 0
  SummersWent old new (Ok value) = Talks old new
  SummersWent old new (Err (tree_fault.Store fault)) = Talks old new
  SummersWent old new (Err (tree_fault.BadNode at)) = Talks old new
  SummersWent old new (Err (tree_fault.Summer fault)) = GivesUp old new fault
  SummersWent old new (Err tree_fault.NoMemory) = Talks old new

  -- after other values had been had, it was complained of the source of this view
  pub record Complains (old new : Summers C) (view : ℕ) : Type 0 where
    pub source : List ℕ
    pub is : reduce_in old.design.now.views view ≡ Source source
    pub mid : ReduceSlot C
    pub went : Goes s old.design.now.language (reduce_sources old.design.now.views) old.slot mid
    pub fails : Fails s old.design.now.language (source ∷ []) mid new.slot Compile

  -- on an honest path the source of the view compiles
  abbrev pub IsUsable : Summers C → ℕ → Type 0
  IsUsable summers view = (source : List ℕ) → reduce_in summers.design.now.views view ≡ Source source → Compiles s summers.design.now.language source summers.slot

-- ---- over which trees, and how much

-- each item of trees with these rows is spelled in so many bytes at most
pub record AreShort (longest : ℕ) (rows : List (List Row)) : Type 0 where
  pub each : All (All (λ row. length (item_bytes row) ≤ longest)) rows
  pub entries : (entry : BackEntry) → IsEntryOf rows entry → length (entry_bytes entry) ≤ longest

-- so many levels are enough for each of the trees with so many items more
abbrev pub AreWithin : ℕ → ℕ → IndexTrees → Type 0
AreWithin h more = EachTree (λ tree. (tree.height ≤ h) × (tree.count + more < 8 ^ h))

-- no node that fits stands at a place that is reached from one of the trees, or one with a summary that spells no value of the tree's
-- own view
pub data IsFaultyIn (there : Places) (views : List View) (trees : IndexTrees) (at : ℕ) : Type 0 where
  of_rows : (view : ℕ) (tree : Tree) → slice_get trees.views.items view ≡ Some tree → IsFaulty row_items (view_values None (reduce_in views view)) there tree at → IsFaultyIn there views trees at
  of_back : IsFaulty back_items no_summaries there trees.back at → IsFaultyIn there views trees at

-- such a node stands at the place, and fits there
pub record IsNodeOf {T : Type 0} (i : Items T) (IsSuch : Node T → Type 0) (there : Places) (at : ℕ) : Type 0 where
  pub level : ℕ
  pub count : ℕ
  pub fill : Fill
  pub node : Node T
  pub stands : StandsFit i there at level count fill node
  pub such : IsSuch node

-- each summary of the node spells a value of this view
abbrev pub AreRead : List View → ℕ → Node Row → Type 0
AreRead views view node = KeepsBadSum (view_values None (reduce_in views view)) node → ⊥

-- a node of the rows of a view stands there, of which each summary is read, or one of the back-index
pub data HasNodeIn (there : Places) (views : List View) (at : ℕ) : Type 0 where
  of_view : (view : ℕ) → IsNodeOf row_items (AreRead views view) there at → HasNodeIn there views at
  of_entries : IsNodeOf back_items (λ node. Unit {0}) there at → HasNodeIn there views at

-- and so it does at each place that was got between
abbrev pub GotNodesIn : List View → Places → List ℕ → List ℕ → Type 0
GotNodesIn views there = EachSince (HasNodeIn there views)

module _ {S F C : Type 0} (n : Sources S F) (s : Servers C) (trees : IndexTrees) (changes : List DocRows) (old new : S) (summers summers' : Summers C) (before now : ℕ) where
  -- The store tells what stands there, and the trees hold these rows, by the functions of the query server where they are known. No document
  -- is named twice, and each has a list for each view.
  pub record IsOver (functions : Option Functions) (there : Places) (rows : List (List Row)) : Type 0 where
    pub told : n.nodes old ≡ Some there
    pub by : SumsBy s summers functions
    pub holds : HoldRows functions summers.design.now.views there trees rows
    pub apart : IsDistinct bytes_eq (ids_of changes)
    pub whole : list_all (is_change (length rows)) changes ≡ true

  -- how many steps are taken, how many pieces are put and how many bytes come: for each row and entry that is removed, added or replaced,
  -- and for each document
  abbrev pub MostSteps : ℕ → List (List Row) → Type 0
  MostSteps h rows = now ≤ before + (edit_count changes rows * (8 * (h + 1)) + length changes * (2 * h))

  abbrev pub MostPuts : ℕ → List (List Row) → Type 0
  MostPuts h rows = length (n.puts new) ≤ length (n.puts old) + edit_count changes rows * (4 * (h + 1))

  abbrev pub MostBytes : ℕ → ℕ → List (List Row) → Type 0
  MostBytes longest h rows = n.size new ≤ n.size old + (edit_count changes rows * (4 * (h + 1))) * node_size longest

  pub record Exchanges (result : Result IndexTrees (TreeFault F PoolFault)) : Type 0 where
    -- the rows of the documents are exchanged, and what stood in the store stays
    pub made : (functions : Option Functions) (there : Places) (rows : List (List Row)) → IsOver functions there rows
        → IfOk result (λ after. HoldRows functions summers.design.now.views (places (n.nodes new)) after (replaced_views changes rows))
    pub kept : UnlessStore result (KeepsPlaces (n.nodes old) (n.nodes new))
    pub ready : UnlessStore result (n.is_ready new)
    -- whatever stands in the store, the trees have the numbers of trees
    pub sizes : IfOk result AreSizes
    pub number : IfOk result (λ after. vec_len after.views ≡ vec_len trees.views)
    pub room : HaveRoom (n.size old) trees → IfOk result (HaveRoom (n.size new))
    -- what is done is bounded by the edits, where so many levels are enough for the trees before and after, or for all old items and those
    -- that are inserted together
    pub steps : (functions : Option Functions) (there : Places) (rows : List (List Row)) (h : ℕ) → IsOver functions there rows
        → AreLow h trees → IfOk result (λ after. AreLow h after → MostSteps h rows)
    pub most_steps : (functions : Option Functions) (there : Places) (rows : List (List Row)) (h : ℕ) → IsOver functions there rows
        → AreWithin h (insert_count changes (vec_len trees.views)) trees → MostSteps h rows
    pub puts : (functions : Option Functions) (there : Places) (rows : List (List Row)) (h : ℕ) → IsOver functions there rows
        → AreLow h trees → IfOk result (λ after. AreLow h after → MostPuts h rows)
    pub most_puts : (functions : Option Functions) (there : Places) (rows : List (List Row)) (h : ℕ) → IsOver functions there rows
        → AreWithin h (insert_count changes (vec_len trees.views)) trees → MostPuts h rows
    pub bytes : (functions : Option Functions) (there : Places) (rows : List (List Row)) (longest h : ℕ) → IsOver functions there rows
        → AreShort longest rows → AreShort longest (replaced_views changes rows) → AreLow h trees → IfOk result (λ after. AreLow h after → MostBytes longest h rows)
    pub most_bytes : (functions : Option Functions) (there : Places) (rows : List (List Row)) (longest h : ℕ) → IsOver functions there rows
        → AreShort longest rows → AreShort longest (replaced_views changes rows) → AreWithin h (insert_count changes (vec_len trees.views)) trees → MostBytes longest h rows
    -- no piece is longer than a node of such items, also one at which the store failed
    pub pieces : (functions : Option Functions) (there : Places) (rows : List (List Row)) (longest : ℕ) → IsOver functions there rows
        → AreShort longest rows → AreShort longest (replaced_views changes rows) → PutsWithin (node_size longest) (n.puts old) (n.puts new)
    pub reads : ReadsFor (n.reads old) (n.reads new) before now
    -- what the store and the servers did
    pub store : StoreWent n old new result
    pub talk : SummersWent s summers summers' result
    -- the source of each view that gets a row compiles, and a complaint is of one of which a row is removed, added or replaced
    pub usable : (view : ℕ) → view < vec_len trees.views → new_rows changes view ≢ [] → OnOk result (IsUsable s summers view)
    pub complains : result ≡ Err (tree_fault.Summer Compile) → (view : ℕ) × (view < vec_len trees.views) × Complains s summers summers' view
        × ((functions : Option Functions) (there : Places) (rows : List (List Row)) → IsOver functions there rows → view_edits view changes (old_places changes rows) ≢ [])
    -- over trees that hold rows something stands at each place that is got
    pub found : (functions : Option Functions) (there : Places) (rows : List (List Row)) → IsOver functions there rows → GotFound n old new result
    -- whatever stands in the store, no bad node is passed over
    pub got : OnOk result (WhereTold (n.nodes new) (λ there. GotNodesIn summers.design.now.views there (n.gets old) (n.gets new)))
    -- no node is blamed of trees that hold rows, and each that is blamed is bad
    pub sound : (functions : Option Functions) (there : Places) (rows : List (List Row)) (at : ℕ) → IsOver functions there rows → result ≡ Err (tree_fault.BadNode at) → ⊥
    pub damaged : (at : ℕ) → result ≡ Err (tree_fault.BadNode at) → WhereTold (n.nodes new) (λ there. IsFaultyIn there summers.design.now.views trees at)
