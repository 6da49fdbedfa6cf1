-- What the trees of an index hold: the rows of each view, and where the rows of each document stand.
use Rattle.std.specs.Prelude.{◌≡◌, ◌*◌, ◌≤◌, ℕ, suc, List, [], ◌∷◌, All, length, slice_index_or, Option}
use Rattle.json_terms.specs.declared.term.Row.{Row}
use Rattle.design_docs.specs.declared.design.View.{View}
use Rattle.view_ports.specs.Functions.{Functions}
use Rattle.tree_laws.specs.declared.item.Item.{Ghosts as Items}
use Rattle.tree_laws.specs.declared.tree.Tree.{Tree}
use Rattle.tree_laws.specs.Meaning.{Values}
use Rattle.tree_laws.specs.Stores.{Places}
use Rattle.tree_laws.specs.Trees.{IsTree, IsTreeSize}
use Rattle.builtin_reduces.specs.contracts.item.RowItemItem.TheImpl as row_item
use Rattle.child_pool.specs.ReduceTalk.{reduce_in}
use Rattle.index_items.specs.contracts.back_item.BackItemItem.TheImpl as back_item
use Rattle.index_items.specs.BackItem.{BackEntry}
use Rattle.index_items.specs.BackIndex.{IsBackIndex}
use Rattle.index_items.specs.NoSummary.{no_meaning}
use Rattle.index_trees.specs.declared.trees.IndexTrees.{IndexTrees}
use Rattle.index_trees.specs.ViewValues.{view_values}

-- what a tree of rows keeps, and one of the back-index
abbrev pub row_items : Items Row
row_items = row_item.ghosts

abbrev pub back_items : Items BackEntry
back_items = back_item.ghosts

-- a tree of the back-index keeps nothing of its items
abbrev pub no_summaries : Values BackEntry (Unit {0})
no_summaries = record { meaning = no_meaning; fits = λ sum. Unit {0}; lawful = Unit {0} }

-- such a fact of each element by its number, the first of which is this one
abbrev pub EachAt : {X : Type 0} → (ℕ → X → Type 0) → ℕ → List X → Type 0
EachAt P number [] = Unit {0}
EachAt P number (x ∷ xs) = P number x × EachAt P (suc number) xs

-- by the views of a design, and by the functions of a query server where they are known, over what stands in a store
module _ (functions : Option Functions) (views : List View) (there : Places) where
  -- the tree has the rows of the view of this number
  abbrev pub HasRows : List (List Row) → ℕ → Tree → Type 0
  HasRows rows view tree = IsTree row_items (view_values functions (reduce_in views view)) there tree (slice_index_or rows view [])

  -- each tree has the rows of its view, and that of the back-index says where the rows of each document stand in them
  pub record HoldTrees (trees : List Tree) (back : Tree) (rows : List (List Row)) : Type 0 where
    pub number : length trees ≡ length rows
    pub each : EachAt (HasRows rows) 0 trees
    pub entries : List BackEntry
    pub are : IsBackIndex rows entries
    pub listed : IsTree back_items no_summaries there back entries

  abbrev pub HoldRows : IndexTrees → List (List Row) → Type 0
  HoldRows trees rows = HoldTrees trees.views.items trees.back rows

-- ---- their numbers

-- a fact of each of the trees
pub record EachTree (P : Tree → Type 0) (trees : IndexTrees) : Type 0 where
  pub views : All P trees.views.items
  pub back : P trees.back

-- as many items as such a tree may have, and as its height needs
abbrev pub AreSizes : IndexTrees → Type 0
AreSizes = EachTree IsTreeSize

-- each item takes 8 bytes at least in a store of this size
abbrev pub HaveRoom : ℕ → IndexTrees → Type 0
HaveRoom size = EachTree (λ tree. 8 * tree.count ≤ size)

-- so many levels are enough for each tree
abbrev pub AreLow : ℕ → IndexTrees → Type 0
AreLow h = EachTree (λ tree. tree.height ≤ h)
