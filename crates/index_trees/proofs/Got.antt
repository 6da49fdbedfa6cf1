-- No bad node is passed over: at each place that was got stands a node that fits.
use Rattle.std.proofs.Common.{◌≡◌, ℕ, List, Option, Some, None, Result, Ok, Err, refl, ap, sym, ◌∙◌, subst}
use Rattle.std.specs.Prelude.{OnOk}
use Rattle.json_terms.specs.declared.term.Row.{Row}
use Rattle.design_docs.specs.declared.design.View.{View}
use Rattle.tree_laws.specs.declared.item.Item.{Ghosts as Items}
use Rattle.tree_laws.specs.declared.node.Node.{Node}
use Rattle.tree_laws.specs.declared.store.NodeSource.{Ghosts as Sources}
use Rattle.tree_laws.specs.declared.summer.Summer.{Ghosts as Summers}
use Rattle.tree_laws.specs.declared.tree.Tree.{Tree}
use Rattle.tree_laws.specs.declared.tree.TreeFault.{TreeFault}
use Rattle.tree_laws.specs.Fetching.{KeepsBadSum}
use Rattle.tree_laws.specs.Meaning.{Values}
use Rattle.tree_laws.specs.Reaching.{HasNode}
use Rattle.tree_laws.specs.Stores.{EachSince, Extends, KeepsPlaces, Places, WhereTold}
use Rattle.tree_laws.specs.Values.{values_of}
use Rattle.child_pool.specs.declared.view_sum.ViewSum.{ViewSum}
use Rattle.child_pool.specs.ReduceTalk.{reduce_in}
use Rattle.reduce_tree.specs.Calls.{places, UnlessStore}
use Rattle.reduce_tree.specs.Given.{IsTaken, Takes}
use Rattle.reduce_tree.proofs.Since.{since_both, since_none, since_weaker}
use Rattle.index_trees.specs.Exchanges.{AreRead, GotNodesIn, HasNodeIn, IsNodeOf}
use Rattle.index_trees.specs.Exchanges.HasNodeIn.{of_entries, of_view}
use Rattle.index_trees.specs.Trees.{back_items, row_items}
use Rattle.index_trees.specs.ViewValues.{view_values}
use Rattle.index_trees.proofs.OneEdit.{where_now}

-- ---- what a call took of a tree

-- each summary of the node spells a value
abbrev pub AllRead : {T V : Type 0} → Values T V → Node T → Type 0
AllRead v node = KeepsBadSum v node → ⊥

-- a call that answered Ok got nodes that fit, by what stands in the store now
abbrev pub FoundGood : {T V S F G X : Type 0} → Items T → Values T V → Sources S F → S → S → Result X (TreeFault F G) → Type 0
FoundGood i v n old new result = OnOk result (WhereTold (n.nodes old) (λ there. EachSince (IsNodeOf i (AllRead v) (places (n.nodes new))) (n.gets old) (n.gets new)))

module _ {T S F M Sum G : Type 0} (i : Items T) (n : Sources S F) (m : Summers M T Sum G) (first : M) (tree : Tree) (pieces : List (List ℕ)) (old new : S) where
  taken : (at : ℕ) → IsTaken i m first (places (n.nodes new)) pieces (n.puts new) tree at → IsNodeOf i (AllRead (values_of m first)) (places (n.nodes new)) at
  taken at is = record { level = is.level; count = is.count; fill = is.fill; node = is.node; stands = is.stands; such = is.read }

  pub found_good : {X : Type 0} (result : Result X (TreeFault F G)) → WhereTold (n.nodes old) (λ there. Takes i n m first tree pieces old new result) → FoundGood i (values_of m first) n old new result
  found_good (Ok value) met = λ there told. since_weaker (IsTaken i m first (places (n.nodes new)) pieces (n.puts new) tree) (IsNodeOf i (AllRead (values_of m first)) (places (n.nodes new))) taken (n.gets old) (n.gets new) (met there told)
  found_good (Err fault) met = tt

-- ---- as nodes of an index

module _ {S F : Type 0} (n : Sources S F) (old new : S) where
  module _ (views : List View) (view : ℕ) (v : Values Row ViewSum) (fits : (sum : ViewSum) → v.fits sum → (view_values None (reduce_in views view)).fits sum)
      (spelled : (sum : ViewSum) → ((view_values None (reduce_in views view)).meaning).spelled sum ≡ (v.meaning).spelled sum) where
    read_by : (node : Node Row) → AllRead v node → AreRead views view node
    read_by node read = λ bad. read (record { children = bad.children; inner = bad.inner; child = bad.child; inside = bad.inside; unread = λ sum fit same. bad.unread sum (fits sum fit) (spelled sum ∙ same) })

    of_this : (there : Places) (at : ℕ) → IsNodeOf row_items (AllRead v) there at → HasNodeIn there views at
    of_this there at is = of_view view (record { level = is.level; count = is.count; fill = is.fill; node = is.node; stands = is.stands; such = read_by is.node is.such })

    pub view_nodes : {X G : Type 0} (result : Result X (TreeFault F G)) → UnlessStore result (KeepsPlaces (n.nodes old) (n.nodes new)) → FoundGood row_items v n old new result
        → OnOk result (WhereTold (n.nodes new) (λ there. GotNodesIn views there (n.gets old) (n.gets new)))
    view_nodes (Ok value) keeps found =
        where_now (n.nodes old) (n.nodes new) (λ there. GotNodesIn views there (n.gets old) (n.gets new)) keeps
        (λ there told. since_weaker (IsNodeOf row_items (AllRead v) (places (n.nodes new))) (HasNodeIn (places (n.nodes new)) views) (of_this (places (n.nodes new))) (n.gets old) (n.gets new) (found there told))
    view_nodes (Err fault) keeps found = tt

  module _ {V : Type 0} (v : Values _ V) where
    any_entry : (there : Places) (at : ℕ) → IsNodeOf back_items (AllRead v) there at → IsNodeOf back_items (λ node. Unit {0}) there at
    any_entry there at is = record { level = is.level; count = is.count; fill = is.fill; node = is.node; stands = is.stands; such = tt }

    pub entry_nodes : {X G : Type 0} (result : Result X (TreeFault F G)) → UnlessStore result (KeepsPlaces (n.nodes old) (n.nodes new)) → FoundGood back_items v n old new result
        → OnOk result (WhereTold (n.nodes new) (λ there. EachSince (IsNodeOf back_items (λ node. Unit {0}) there) (n.gets old) (n.gets new)))
    entry_nodes (Ok value) keeps found =
        where_now (n.nodes old) (n.nodes new) (λ there. EachSince (IsNodeOf back_items (λ node. Unit {0}) there) (n.gets old) (n.gets new)) keeps
        (λ there told. since_weaker (IsNodeOf back_items (AllRead v) (places (n.nodes new))) (IsNodeOf back_items (λ node. Unit {0}) (places (n.nodes new))) (any_entry (places (n.nodes new))) (n.gets old) (n.gets new) (found there told))
    entry_nodes (Err fault) keeps found = tt

-- ---- calls one after another

-- a store that tells what stands in it told it before
told_before : (a b : Option Places) (there : Places) → KeepsPlaces a b → b ≡ Some there → (old : Places) × (a ≡ Some old) × Extends old there
told_before None b there keeps is = absurd (let never : None ≡ Some there = let none : b ≡ None = keeps in cc in cc)
told_before (Some old) None there keeps is = absurd keeps
told_before (Some old) (Some new) there keeps is = (old, refl, subst (Extends old) (ap places is) keeps)

module _ (views : List View) where
  entry_in : (there : Places) (at : ℕ) → IsNodeOf back_items (λ node. Unit {0}) there at → HasNodeIn there views at
  entry_in there at is = of_entries is

  reached_in : (there : Places) (tree : Tree) (at : ℕ) → HasNode back_items there tree at → HasNodeIn there views at
  reached_in there tree at has = of_entries (record { level = has.level; count = (has.met).count; fill = (has.met).fill; node = has.node; stands = (has.met).stands; such = tt })

  stays_in : (old new : Places) → Extends old new → (at : ℕ) → HasNodeIn old views at → HasNodeIn new views at
  stays_in old new more at (of_view view is) =
      of_view view (record { level = is.level; count = is.count; fill = is.fill; node = is.node; stands = record { fits = (is.stands).fits; bytes = more at _ (is.stands).bytes; place = (is.stands).place }; such = is.such })
  stays_in old new more at (of_entries is) =
      of_entries (record { level = is.level; count = is.count; fill = is.fill; node = is.node; stands = record { fits = (is.stands).fits; bytes = more at _ (is.stands).bytes; place = (is.stands).place }; such = is.such })

  module _ {S F : Type 0} (n : Sources S F) where
    abbrev pub NodesGot : S → S → Type 0
    NodesGot a b = WhereTold (n.nodes b) (λ there. GotNodesIn views there (n.gets a) (n.gets b))

    pub nodes_none : (a : S) → NodesGot a a
    nodes_none a there told = since_none (HasNodeIn there views) (n.gets a) (n.gets a) refl

    pub nodes_both : (a b c : S) → KeepsPlaces (n.nodes b) (n.nodes c) → NodesGot a b → NodesGot b c → NodesGot a c
    nodes_both a b c keeps first second there told =
        let before = told_before (n.nodes b) (n.nodes c) there keeps told in
        since_both (HasNodeIn before.0 views) (HasNodeIn there views) (HasNodeIn there views) (stays_in before.0 there before.2) (λ at has. has) (n.gets a) (n.gets b) (n.gets c) (first before.0 before.1) (second there told)

    pub entries_got : (a b : S) → WhereTold (n.nodes b) (λ there. EachSince (IsNodeOf back_items (λ node. Unit {0}) there) (n.gets a) (n.gets b)) → NodesGot a b
    entries_got a b got there told = since_weaker (IsNodeOf back_items (λ node. Unit {0}) there) (HasNodeIn there views) (entry_in there) (n.gets a) (n.gets b) (got there told)

    -- nothing changed in the store
    pub reads_got : (tree : Tree) (a b : S) → n.nodes b ≡ n.nodes a → WhereTold (n.nodes a) (λ there. EachSince (HasNode back_items there tree) (n.gets a) (n.gets b)) → NodesGot a b
    reads_got tree a b same got there told = since_weaker (HasNode back_items there tree) (HasNodeIn there views) (reached_in there tree) (n.gets a) (n.gets b) (got there (sym same ∙ told))
