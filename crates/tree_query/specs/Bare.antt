-- The items of a bare tree: any bytes will do as its summaries.
use Rattle.std.specs.Prelude.{ℕ, List}
use Rattle.tree_laws.specs.declared.item.Item.{Ghosts as Items}
use Rattle.tree_laws.specs.declared.node.Node.{Node}
use Rattle.tree_laws.specs.declared.tree.Tree.{Tree}
use Rattle.tree_laws.specs.Stores.{Places}
use Rattle.tree_laws.specs.Trees.{Has, IsTree, Stands}
use Rattle.tree_laws.specs.Values.{no_values}

module _ {T : Type 0} (i : Items T) (there : Places) where
  -- a node at this level has these items
  abbrev pub HasItems : ℕ → Node T → List T → Type 0
  HasItems = Has i no_values there

  -- a node below the root stands at the place, and has these items
  abbrev pub StandItems : ℕ → ℕ → List T → Type 0
  StandItems = Stands i no_values there

  -- the tree has these items, whatever its summaries are
  abbrev pub HoldsItems : Tree → List T → Type 0
  HoldsItems = IsTree i no_values there
