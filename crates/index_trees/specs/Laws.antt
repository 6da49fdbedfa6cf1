-- Laws of trees that hold the rows of an index.
use Rattle.std.specs.Prelude.{◌≡◌, ◌+◌, ◌*◌, ◌≤◌, ◌^◌, ℕ, List, [], ◌++◌, All, map, replicate, true, false, Option, None}
use Rattle.std.specs.List.{list_all, AllByRecursion}
use Rattle.std.specs.List.Sorted.{IsStrictlySortedBy}
use Rattle.json_terms.specs.declared.term.Row.{Row}
use Rattle.raw_collation.specs.Sorting.{sorted_rows}
use Rattle.design_docs.specs.declared.design.View.{View}
use Rattle.view_ports.specs.Functions.{Functions}
use Rattle.tree_laws.specs.declared.tree.Tree.{Tree}
use Rattle.tree_laws.specs.Stores.{Extends, Places}
use Rattle.tree_laws.specs.Trees.{IsTreeSize}
use Rattle.builtin_reduces.specs.Kept.{item_cmp}
use Rattle.row_exchange.specs.declared.doc_rows.DocRows.{DocRows}
use Rattle.row_exchange.specs.Replaced.{ids_of, is_among, replaced_views}
use Rattle.row_exchange.specs.Rows.{is_row}
use Rattle.index_trees.specs.Edits.{edit_count}
use Rattle.index_trees.specs.Reading.{rows_in}
use Rattle.index_trees.specs.Trees.{HoldTrees}

-- ---- what is read, and where

-- what is read of the trees are their rows: whatever the views are and whatever is known of functions, the bytes alone tell them
abbrev pub TreesTellRows : Type 0
TreesTellRows =
    (functions : Option Functions) (views : List View) (there : Places) (trees : List Tree) (back : Tree) (rows : List (List Row))
    → HoldTrees functions views there trees back rows → map (rows_in there) trees ≡ rows

-- they hold the same rows where more is put into their store
abbrev pub TreesStay : Type 0
TreesStay =
    (functions : Option Functions) (views : List View) (there later : Places) (trees : List Tree) (back : Tree) (rows : List (List Row))
    → Extends there later → HoldTrees functions views there trees back rows → HoldTrees functions views later trees back rows

-- and where the functions of the query server aren't known, so that less is said of their summaries
abbrev pub TreesHoldWithout : Type 0
TreesHoldWithout =
    (functions : Option Functions) (views : List View) (there : Places) (trees : List Tree) (back : Tree) (rows : List (List Row))
    → HoldTrees functions views there trees back rows → HoldTrees None views there trees back rows

-- ---- their rows

-- the rows of each view rise by key, id and place
abbrev pub TreesRise : Type 0
TreesRise =
    (functions : Option Functions) (views : List View) (there : Places) (trees : List Tree) (back : Tree) (rows : List (List Row))
    → HoldTrees functions views there trees back rows → All (IsStrictlySortedBy item_cmp) rows

-- so they are in the order of rows
abbrev pub TreesAreInOrder : Type 0
TreesAreInOrder =
    (functions : Option Functions) (views : List View) (there : Places) (trees : List Tree) (back : Tree) (rows : List (List Row))
    → HoldTrees functions views there trees back rows → map sorted_rows rows ≡ rows

-- each row is one that an index may hold
abbrev pub TreesKeepRowsWithinBounds : Type 0
TreesKeepRowsWithinBounds =
    (functions : Option Functions) (views : List View) (there : Places) (trees : List Tree) (back : Tree) (rows : List (List Row))
    → HoldTrees functions views there trees back rows → list_all (list_all is_row) rows ≡ true

-- ---- their numbers

-- those of a tree of 2^40 items at most are such as a call may be given
abbrev pub HasSizeOfTree : Tree → Type 0
HasSizeOfTree tree = tree.count ≤ 2 ^ 40 → IsTreeSize tree

abbrev pub TreesHaveSizes : Type 0
TreesHaveSizes =
    (functions : Option Functions) (views : List View) (there : Places) (trees : List Tree) (back : Tree) (rows : List (List Row))
    → HoldTrees functions views there trees back rows → All HasSizeOfTree trees × HasSizeOfTree back

-- ---- trees of an index without rows

-- a tree where none is yet: it has no items, so the place of its root says nothing
abbrev pub no_tree : Tree
no_tree = record { root = 0; height = 0; count = 0 }

-- one for each view, and one for the back-index, hold no rows, whatever stands in the store
abbrev pub EmptyTreesHoldNothing : Type 0
EmptyTreesHoldNothing = (functions : Option Functions) (views : List View) (there : Places) (count : ℕ) → HoldTrees functions views there (replicate count no_tree) no_tree (replicate count [])

-- they have the numbers of trees, and room in a store of any size
abbrev pub EmptyTreesHaveSizes : Type 0
EmptyTreesHaveSizes = (count : ℕ) → All IsTreeSize (replicate count no_tree) × IsTreeSize no_tree

abbrev pub EmptyTreesHaveRoom : Type 0
EmptyTreesHaveRoom = (count size : ℕ) → All (λ (tree : Tree). 8 * tree.count ≤ size) (replicate count no_tree) × (8 * no_tree.count ≤ size)

-- ---- their edits

-- an exchange in two batches makes as many edits as one of all their documents, where no id of the first is among those of the second
abbrev pub EditsOfBatchesAddUp : Type 0
EditsOfBatchesAddUp =
    (changes more : List DocRows) (rows : List (List Row)) → All (IsStrictlySortedBy item_cmp) rows → AllByRecursion (λ id. is_among (ids_of more) id ≡ false) (ids_of changes)
    → edit_count changes rows + edit_count more (replaced_views changes rows) ≡ edit_count (changes ++ more) rows
