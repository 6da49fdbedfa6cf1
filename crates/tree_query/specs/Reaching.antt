-- Which children a call on a tree may go to, and why what a node keeps of them isn't read.
use Rattle.std.specs.Prelude.{◌≡◌, ℕ, suc, List, All, Contains}
use Rattle.tree_laws.specs.declared.item.Item.{Ghosts as Items}
use Rattle.tree_laws.specs.declared.summer.Summer.{Ghosts as Summers}
use Rattle.tree_laws.specs.declared.node.Child.{Child}
use Rattle.tree_laws.specs.declared.node.Node.{Node}
use Rattle.tree_laws.specs.declared.node.Node.TheVariants.{Inner}
use Rattle.tree_laws.specs.declared.tree.Fill.TheVariants.{Below}
use Rattle.tree_laws.specs.declared.tree.Tree.{Tree}
use Rattle.tree_laws.specs.declared.tree.TreeFault.{TreeFault}
use Rattle.tree_laws.specs.declared.tree.TreeFault.TheVariants as tree_fault
use Rattle.tree_laws.specs.Fetching.{IsUnread}
use Rattle.tree_laws.specs.Reaching.{HasNode, IsMet, IsUnfit, KeepsUnread, Reaches, StopsAt}
use Rattle.tree_laws.specs.Stores.{EachSince, IsSince, Places}
use Rattle.tree_laws.specs.Values.{values_of}

module _ {T : Type 0} (i : Items T) (there : Places) (tree : Tree) where
  -- the places of all these children of one level are reached
  abbrev pub AreReached : ℕ → List (Child T) → Type 0
  AreReached level children = All (λ child. Reaches i there tree child.at level child.count Below) children

  -- between two lists of places that were got, the newest first
  module _ (since now : List ℕ) where
    -- the node stands at a place that is reached and fits there, and the place was got since
    pub record IsGot (at level : ℕ) (node : Node T) : Type 0 where
      pub met : IsMet i there tree at level node
      pub got : IsSince at since now

    -- these are children of such a node
    pub record AreOf (at low : ℕ) (children : List (Child T)) : Type 0 where
      pub all : List (Child T)
      pub own : IsGot at (suc low) (Inner all)
      pub inside : All (Contains all) children

-- why a call blames a place, by what was got before the walk down of which it is a part, before it, and in it
module _ {T M Sum Fault : Type 0} (i : Items T) (m : Summers M T Sum Fault) (first : M) (there : Places) (tree : Tree) (since old now : List ℕ) where
  -- it stopped there, and no node that fits stands there. Or the node that stands there keeps a summary that has the bytes of no value,
  -- and all that it got fits
  pub data IsBlamed (at : ℕ) : Type 0 where
    unfit : IsUnfit i there tree at → StopsAt (HasNode i there tree) old now at → IsBlamed at
    unread : KeepsUnread i (values_of m first) there tree at → IsSince at since now → EachSince (HasNode i there tree) old now → IsBlamed at

module _ {T M Sum Fault : Type 0} (m : Summers M T Sum Fault) (summer : M) where
  -- why the value that the node at a place keeps isn't read
  abbrev pub IsUnreadAt : {F G : Type 0} → ℕ → List ℕ → TreeFault F G → Type 0
  IsUnreadAt at bytes (tree_fault.Store fault) = ⊥
  IsUnreadAt at bytes (tree_fault.BadNode place) = (place ≡ at) × IsUnread (values_of m summer) bytes
  IsUnreadAt at bytes (tree_fault.Summer fault) = ⊥
  IsUnreadAt at bytes tree_fault.NoMemory = Unit {0}

  -- one of the children has the bytes of no value
  pub record HasUnread (children : List (Child T)) : Type 0 where
    pub child : Child T
    pub inside : Contains children child
    pub unread : IsUnread (values_of m summer) child.sum

  -- why the values that the node at a place keeps of children aren't read
  abbrev pub ReadFails : {F G : Type 0} → ℕ → List (Child T) → TreeFault F G → Type 0
  ReadFails at children (tree_fault.Store fault) = ⊥
  ReadFails at children (tree_fault.BadNode place) = (place ≡ at) × HasUnread children
  ReadFails at children (tree_fault.Summer fault) = ⊥
  ReadFails at children tree_fault.NoMemory = Unit {0}
