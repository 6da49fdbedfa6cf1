-- What a call puts.
use Rattle.std.specs.Prelude.{◌≡◌, ◌+◌, ◌≤◌, ℕ, Some, List, All, Contains, length}
use Rattle.tree_laws.specs.declared.item.Item.{Ghosts as Items}
use Rattle.tree_laws.specs.declared.summer.Summer.{Ghosts as Summers}
use Rattle.tree_laws.specs.declared.node.Node.{Node}
use Rattle.tree_laws.specs.declared.node.Node.TheVariants.{Leaf, Inner}
use Rattle.tree_laws.specs.declared.tree.Fill.{Fill}
use Rattle.tree_laws.specs.declared.tree.Fill.TheVariants.{Root, Below}
use Rattle.tree_laws.specs.Nodes.{entries, FitsNode, spelled_node}
use Rattle.tree_laws.specs.Fitting.{IsFilled}
use Rattle.tree_laws.specs.Stores.{EachSince, Places}
use Rattle.tree_laws.specs.SummerTrees.{Has, IsAt}
use Rattle.reduce_tree.specs.declared.edit.Edit.{Edit}
use Rattle.reduce_tree.specs.Applied.{placed_of}

-- each of the items is one of these
abbrev pub AreAmong : {T : Type 0} → List T → List T → Type 0
AreAmong among items = All (Contains among) items

-- and so is each item that the edits insert
abbrev pub InsertAmong : {T : Type 0} → List T → List (Edit T) → Type 0
InsertAmong among edits = All (λ e. AreAmong among (placed_of e)) edits

module _ {T M Sum Fault : Type 0} (i : Items T) (m : Summers M T Sum Fault) (summer : M) where
  -- the bytes of a value that fits
  pub record IsSumSpelled (bytes : List ℕ) : Type 0 where
    pub sum : Sum
    pub fits : m.fits summer sum
    pub bytes_are : bytes ≡ (m.meaning summer).spelled sum

module _ {T M Sum Fault : Type 0} (i : Items T) (m : Summers M T Sum Fault) (before after : M) where
  -- A leaf is there only where the summer was usable, and from the one state to the other the summer was asked for the value of exactly
  -- its items. The summaries of an inner node are those of values that fit.
  abbrev pub IsSummed : Node T → Type 0
  IsSummed (Leaf items) = m.usable before × m.asked before after items
  IsSummed (Inner children) = All (λ child. IsSumSpelled i m before child.sum) children

  -- the bytes of such a node, of 32 entries at most
  pub record IsNodePiece (bytes : List ℕ) : Type 0 where
    pub node : Node T
    pub fits : FitsNode i.fits i.spelled node
    pub bytes_are : bytes ≡ spelled_node i.spelled node
    pub most : entries node ≤ 32
    pub summed : IsSummed node

module _ {T M Sum Fault : Type 0} (i : Items T) (m : Summers M T Sum Fault) (first : M) (among : List T) (there : Places) where
  -- the bytes of a node that stands there, is filled so, and has items of these alone
  pub record IsPiece (fill : Fill) (bytes : List ℕ) : Type 0 where
    pub level : ℕ
    pub at : ℕ
    pub own : List T
    pub node : IsAt i m first there (Has i m first there level) fill at own
    pub stand : there at ≡ Some bytes
    pub items : AreAmong among own

  -- the bytes of a node with items of these alone, filled so or so, whose children stand there; it may stand nowhere itself
  pub record IsTried (bytes : List ℕ) : Type 0 where
    pub level : ℕ
    pub fill : Fill
    pub own : List T
    pub node : Node T
    pub fits : FitsNode i.fits i.spelled node
    pub bytes_are : bytes ≡ spelled_node i.spelled node
    pub filled : IsFilled fill node
    pub has : Has i m first there level node own
    pub items : AreAmong among own

  -- the pieces that were put since are such
  abbrev pub ArePieces : Fill → List (List ℕ) → List (List ℕ) → Type 0
  ArePieces fill = EachSince (IsPiece fill)

  -- all of them are nodes below a root, but for the newest, which may be the root
  pub record AreTreePieces (old new : List (List ℕ)) : Type 0 where
    pub mid : List (List ℕ)
    pub below : ArePieces Below old mid
    pub root : ArePieces Root mid new
    pub one : length new ≤ length mid + 1
