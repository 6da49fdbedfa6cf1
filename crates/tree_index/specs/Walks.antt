-- Reading the rows of a tree one after another.
use Rattle.std.specs.Prelude.{◌≡◌, ◌*◌, ◌+◌, ℕ, List, length, All, Some, Vec, Result, Ok, Err, IfOk, OnOk}
use Rattle.std.specs.declared.alloc.Global.{Global}
use Rattle.json_terms.specs.declared.fault.NoMemory.{NoMemory as Want}
use Rattle.json_terms.specs.declared.term.Row.{Row}
use Rattle.tree_laws.specs.declared.store.NodeSource.{Ghosts as Sources}
use Rattle.tree_laws.specs.declared.tree.Tree.{Tree}
use Rattle.tree_laws.specs.declared.tree.TreeFault.{TreeFault}
use Rattle.tree_laws.specs.declared.tree.TreeFault.TheVariants as tree_fault
use Rattle.tree_laws.specs.Stores.{Places}
use Rattle.builtin_reduces.specs.Kept.{IsKept}
use Rattle.tree_query.specs.Bare.{HoldsItems}
use Rattle.tree_query.specs.Calls.{OnlyReads, Ran}
use Rattle.index_trees.specs.Trees.{row_items}

abbrev pub listed : {E : Type 0} → Result (Vec Row Global) E → Result (List Row) E
listed (Ok rows) = Ok rows.items
listed (Err fault) = Err fault

module _ {S F : Type 0} (n : Sources S F) (tree : Tree) (old new : S) (before now : ℕ) where
  -- all rows are read, each within the bounds of what a tree keeps
  pub record WalksRows (result : Result (List Row) (TreeFault F Want)) : Type 0 where
    pub rows : (there : Places) (items : List Row) → n.nodes old ≡ Some there → HoldsItems row_items there tree items → IfOk result (λ rows. rows ≡ items)
    pub kept : IfOk result (All IsKept)
    pub number : IfOk result (λ rows. length rows ≡ tree.count)
    pub sound : (there : Places) (items : List Row) (at : ℕ) → n.nodes old ≡ Some there → HoldsItems row_items there tree items → result ≡ Err (tree_fault.BadNode at) → ⊥
    pub ran : Ran row_items n tree old new result
    pub reads : OnlyReads n ((tree.count + 1) * tree.height) old new before now
    pub ready : OnOk result (n.is_ready new)
