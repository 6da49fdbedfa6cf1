-- Why a node isn't fetched, and which of those that are keep bad summaries.
use Rattle.std.specs.Prelude.{◌≡◌, ◌≢◌, ℕ, List, Some, IfSome, Contains}
use Rattle.tree_laws.specs.declared.item.Item.{Ghosts as Items}
use Rattle.tree_laws.specs.declared.store.NodeSource.{Ghosts as Sources}
use Rattle.tree_laws.specs.declared.node.Child.{Child}
use Rattle.tree_laws.specs.declared.node.Node.{Node}
use Rattle.tree_laws.specs.declared.node.Node.TheVariants.{Inner}
use Rattle.tree_laws.specs.declared.tree.Fill.{Fill}
use Rattle.tree_laws.specs.declared.tree.TreeFault.{TreeFault}
use Rattle.tree_laws.specs.declared.tree.TreeFault.TheVariants as tree_fault
use Rattle.tree_laws.specs.Fitting.{IsFitFor}
use Rattle.tree_laws.specs.Meaning.{Values}
use Rattle.tree_laws.specs.Nodes.{FitsNode, spelled_node}
use Rattle.tree_laws.specs.Stores.{Places}

module _ {T : Type 0} (i : Items T) (level count : ℕ) (fill : Fill) where
  -- these are the bytes of no node that fits the place
  abbrev pub AreBad : List ℕ → Type 0
  AreBad bytes = (node : Node T) → FitsNode i.fits i.spelled node → IsFitFor level count fill node → spelled_node i.spelled node ≢ bytes

  -- such bytes stand there
  pub record IsBadAt (there : Places) (at : ℕ) : Type 0 where
    pub bytes : List ℕ
    pub stand : there at ≡ Some bytes
    pub bad : AreBad bytes

  -- the source failed, or the node is bad, or memory ran out
  abbrev pub FetchFails : {S F M : Type 0} → Sources S F → S → S → ℕ → TreeFault F M → Type 0
  FetchFails s old new at (tree_fault.Store fault) = s.fails old new fault
  FetchFails s old new at (tree_fault.BadNode place) = (place ≡ at) × IfSome (s.nodes old) (λ there. IsBadAt there at) × s.goes old new
  FetchFails s old new at (tree_fault.Summer fault) = ⊥
  FetchFails s old new at tree_fault.NoMemory = s.goes old new

-- ---- summaries

module _ {T S : Type 0} (v : Values T S) where
  -- the bytes of no value
  abbrev pub IsUnread : List ℕ → Type 0
  IsUnread bytes = (sum : S) → v.fits sum → v.meaning.spelled sum ≢ bytes

  -- an entry of the node keeps the bytes of no value
  pub record KeepsBadSum (node : Node T) : Type 0 where
    pub children : List (Child T)
    pub inner : node ≡ Inner children
    pub child : Child T
    pub inside : Contains children child
    pub unread : IsUnread child.sum

-- such a node stands at the place
pub record HasBadSum {T S : Type 0} (i : Items T) (v : Values T S) (there : Places) (at : ℕ) : Type 0 where
  pub node : Node T
  pub fits : FitsNode i.fits i.spelled node
  pub stand : there at ≡ Some (spelled_node i.spelled node)
  pub keeps : KeepsBadSum v node
