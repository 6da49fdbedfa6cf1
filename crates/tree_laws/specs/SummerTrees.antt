-- What a tree holds whose summaries are of a summer as it was at first.
use Rattle.std.specs.Prelude.{ℕ, List}
use Rattle.tree_laws.specs.declared.item.Item.{Ghosts as Items}
use Rattle.tree_laws.specs.declared.summer.Summer.{Ghosts as Summers}
use Rattle.tree_laws.specs.declared.node.Child.{Child}
use Rattle.tree_laws.specs.declared.node.Node.{Node}
use Rattle.tree_laws.specs.declared.tree.Fill.{Fill}
use Rattle.tree_laws.specs.declared.tree.Tree.{Tree}
use Rattle.tree_laws.specs.Stores.{Places}
use Rattle.tree_laws.specs.Fetching as fetching
use Rattle.tree_laws.specs.Trees as trees
use Rattle.tree_laws.specs.Values.{values_of}
pub use Rattle.tree_laws.specs.Trees.{Joins, IsTreeSize}

-- each is the fact of its name about the values of the summer in that state
module _ {T M Sum Fault : Type 0} (i : Items T) (m : Summers M T Sum Fault) (first : M) where
  abbrev pub IsSummary : List T → List ℕ → Type 0
  IsSummary = trees.IsSummary (values_of m first)

  abbrev pub IsChild : (ℕ → List T → Type 0) → Child T → List T → Type 0
  IsChild = trees.IsChild (values_of m first)

  abbrev pub AreChildren : (ℕ → List T → Type 0) → List (Child T) → List T → Type 0
  AreChildren = trees.AreChildren (values_of m first)

  abbrev pub IsUnread : List ℕ → Type 0
  IsUnread = fetching.IsUnread (values_of m first)

  abbrev pub KeepsBadSum : Node T → Type 0
  KeepsBadSum = fetching.KeepsBadSum (values_of m first)

  module _ (there : Places) where
    abbrev pub IsAt : (Node T → List T → Type 0) → Fill → ℕ → List T → Type 0
    IsAt = trees.IsAt i there

    abbrev pub Has : ℕ → Node T → List T → Type 0
    Has = trees.Has i (values_of m first) there

    abbrev pub Stands : ℕ → ℕ → List T → Type 0
    Stands = trees.Stands i (values_of m first) there

    abbrev pub HasRoot : ℕ → ℕ → List T → Type 0
    HasRoot = trees.HasRoot i (values_of m first) there

    abbrev pub IsTree : Tree → List T → Type 0
    IsTree = trees.IsTree i (values_of m first) there

    abbrev pub HasBadSum : ℕ → Type 0
    HasBadSum = fetching.HasBadSum i (values_of m first) there
