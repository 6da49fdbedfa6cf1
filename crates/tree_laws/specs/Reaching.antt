-- Which places a call on a tree may go to, and what is found there.
use Rattle.std.specs.Prelude.{◌≡◌, ◌⊎◌, ◌<◌, ◌-◌, ℕ, suc, List, ◌∷◌, Some, Contains}
use Rattle.tree_laws.specs.declared.item.Item.{Ghosts as Items}
use Rattle.tree_laws.specs.declared.node.Child.{Child}
use Rattle.tree_laws.specs.declared.node.Node.{Node}
use Rattle.tree_laws.specs.declared.node.Node.TheVariants.{Inner}
use Rattle.tree_laws.specs.declared.tree.Fill.{Fill}
use Rattle.tree_laws.specs.declared.tree.Fill.TheVariants.{Root, Below}
use Rattle.tree_laws.specs.declared.tree.Tree.{Tree}
use Rattle.tree_laws.specs.Fetching.{IsBadAt, KeepsBadSum}
use Rattle.tree_laws.specs.Fitting.{IsFitFor}
use Rattle.tree_laws.specs.Meaning.{Values}
use Rattle.tree_laws.specs.Nodes.{FitsNode, spelled_node}
use Rattle.tree_laws.specs.Stores.{EachSince, Places}

module _ {T : Type 0} (i : Items T) (there : Places) where
  -- the node stands at the place and fits there
  pub record StandsFit (at level count : ℕ) (fill : Fill) (node : Node T) : Type 0 where
    pub fits : FitsNode i.fits i.spelled node
    pub bytes : there at ≡ Some (spelled_node i.spelled node)
    pub place : IsFitFor level count fill node

  module _ (tree : Tree) where
    -- the place is that of the root, or that of a child of a node that is reached and fits. A node of this level is to stand there,
    -- with so many items in and below it, and filled so
    pub data Reaches : ℕ → ℕ → ℕ → Fill → Type 0 where
      root : 0 < tree.height → Reaches tree.root (tree.height - 1) tree.count Root
      below : (at level count : ℕ) (fill : Fill) (children : List (Child T)) (child : Child T) → Reaches at (suc level) count fill
          → StandsFit at (suc level) count fill (Inner children) → Contains children child → Reaches child.at level child.count Below

    -- the node stands at a place that is reached, and fits there
    pub record IsMet (at level : ℕ) (node : Node T) : Type 0 where
      pub count : ℕ
      pub fill : Fill
      pub reached : Reaches at level count fill
      pub stands : StandsFit at level count fill node

    -- the place is reached, and a node that fits stands there
    pub record HasNode (at : ℕ) : Type 0 where
      pub level : ℕ
      pub node : Node T
      pub met : IsMet at level node

    -- a node is to stand at the place
    pub record IsReached (at : ℕ) : Type 0 where
      pub level : ℕ
      pub count : ℕ
      pub fill : Fill
      pub reached : Reaches at level count fill

    -- at a place that is reached stands no node that fits there
    pub record IsUnfit (at : ℕ) : Type 0 where
      pub level : ℕ
      pub count : ℕ
      pub fill : Fill
      pub reached : Reaches at level count fill
      pub bad : IsBadAt i level count fill there at

module _ {T S : Type 0} (i : Items T) (v : Values T S) (there : Places) (tree : Tree) where
  -- a node that is reached and fits keeps a summary that has the bytes of no value
  pub record KeepsUnread (at : ℕ) : Type 0 where
    pub level : ℕ
    pub node : Node T
    pub met : IsMet i there tree at level node
    pub bad : KeepsBadSum v node

  -- no node that fits stands at a place that is reached, or one with such a summary
  pub data IsFaulty (at : ℕ) : Type 0 where
    unfit : IsUnfit i there tree at → IsFaulty at
    unread : KeepsUnread at → IsFaulty at

-- Between two lists of places that were got, the newest first: this place was got last, and each other that was got since is good.
pub record StopsAt (Good : ℕ → Type 0) (since now : List ℕ) (at : ℕ) : Type 0 where
  pub before : List ℕ
  pub last : now ≡ at ∷ before
  pub good : EachSince Good since before

-- the place that was got last may be got, and each other that was got since is good
pub record StopsShort (May Good : ℕ → Type 0) (since now : List ℕ) : Type 0 where
  pub at : ℕ
  pub may : May at
  pub stops : StopsAt Good since now at

-- each place that was got since is good, but perhaps the last, which may be got
abbrev pub GoesSoFar : (May Good : ℕ → Type 0) → List ℕ → List ℕ → Type 0
GoesSoFar May Good since now = EachSince Good since now ⊎ StopsShort May Good since now
