-- What was put while a summer noted what it was asked.
use Rattle.std.specs.Prelude.{◌≡◌, ℕ, List}
use Rattle.json_terms.specs.declared.term.Row.{Row}
use Rattle.builtin_reduces.specs.Kept.{IsKept, item_bytes}
use Rattle.tree_laws.specs.declared.node.Node.{Node}
use Rattle.tree_laws.specs.declared.node.Node.TheVariants.{Leaf, Inner}
use Rattle.tree_laws.specs.Nodes.{FitsNode, spelled_node}
use Rattle.tree_laws.specs.Stores.{IsSince}
use Rattle.tree_tools.specs.Noting.{NotingState}

-- a leaf, the value of whose rows the summer was asked for from the one state to the other, by its log; or an inner node
abbrev pub IsAskedLeaf : NotingState → NotingState → Node Row → Type 0
IsAskedLeaf old new (Leaf rows) = IsSince rows old.asks new.asks
IsAskedLeaf old new (Inner children) = Unit {0}

-- the bytes of such a node
pub record IsAskedPiece (old new : NotingState) (bytes : List ℕ) : Type 0 where
  pub node : Node Row
  pub fits : FitsNode IsKept item_bytes node
  pub bytes_are : bytes ≡ spelled_node item_bytes node
  pub asked : IsAskedLeaf old new node
