-- Where a call that goes down a tree is led: by the places, levels and numbers that nodes themselves name.
use Rattle.std.specs.Prelude.{◌≡◌, ◌+◌, ◌-◌, ◌<◌, ℕ, suc, List, ◌∷◌, ◌++◌, Result, Ok, Err}
use Rattle.std.specs.List.{sum_by}
use Rattle.tree_laws.specs.declared.item.Item.{Ghosts as Items}
use Rattle.tree_laws.specs.declared.node.Child.{Child}
use Rattle.tree_laws.specs.declared.node.Node.{Node}
use Rattle.tree_laws.specs.declared.node.Node.TheVariants.{Inner}
use Rattle.tree_laws.specs.declared.tree.Fill.{Fill}
use Rattle.tree_laws.specs.declared.tree.Fill.TheVariants.{Below, Root}
use Rattle.tree_laws.specs.declared.tree.Tree.{Tree}
use Rattle.tree_laws.specs.declared.tree.TreeFault.{TreeFault}
use Rattle.tree_laws.specs.declared.tree.TreeFault.TheVariants as tree_fault
use Rattle.tree_laws.specs.Fetching.{IsBadAt}
use Rattle.tree_laws.specs.Reaching.{StandsFit}
use Rattle.tree_laws.specs.Stores.{Places}

-- how many items these children have
abbrev pub count_in : {T : Type 0} → List (Child T) → ℕ
count_in children = sum_by (λ child. child.count) children

-- a place that is named as bad is such a place
abbrev pub Blames : {F M : Type 0} → (ℕ → Type 0) → TreeFault F M → Type 0
Blames Bad (tree_fault.Store fault) = Unit {0}
Blames Bad (tree_fault.BadNode at) = Bad at
Blames Bad (tree_fault.Summer fault) = Unit {0}
Blames Bad tree_fault.NoMemory = Unit {0}

-- `Picks` says which children of a node are gone to: by the number that the node's first item has in the tree, the children before the
-- one, and that one.
module _ {T : Type 0} (i : Items T) (there : Places) (tree : Tree) (Picks : ℕ → List (Child T) → Child T → Type 0) where
  -- One is led to the root, and on from each node that stands where one is led and fits there to those of its children that are picked.
  -- A node of this level is to stand at the place, with so many items in and below it, of which the first has the number `start`.
  pub data Leads : (at level count start : ℕ) → Fill → Type 0 where
    to_root : 0 < tree.height → Leads tree.root (tree.height - 1) tree.count 0 Root
    to_child : (at level count start : ℕ) (fill : Fill) (front back : List (Child T)) (child : Child T) → Leads at (suc level) count start fill
        → StandsFit i there at (suc level) count fill (Inner (front ++ child ∷ back)) → Picks start front child
        → Leads child.at level child.count (start + count_in front) Below

  -- one is led to the place, and the node stands and fits there
  pub record IsLedTo (at level start : ℕ) (node : Node T) : Type 0 where
    pub count : ℕ
    pub fill : Fill
    pub leads : Leads at level count start fill
    pub stands : StandsFit i there at level count fill node

  -- these are children of such a node, one after another, and the first item of the first one has this number
  pub record AreLedTo (at low start : ℕ) (children : List (Child T)) : Type 0 where
    pub begin : ℕ
    pub front : List (Child T)
    pub back : List (Child T)
    pub own : IsLedTo at (suc low) begin (Inner (front ++ (children ++ back)))
    pub number : begin + count_in front ≡ start

  -- wherever one is led a node stands that fits
  abbrev pub AllStand : Type 0
  AllStand = (at level count start : ℕ) (fill : Fill) → Leads at level count start fill → (node : Node T) × StandsFit i there at level count fill node

  -- one is led to the place, and no node stands there that fits
  pub record IsGap (at : ℕ) : Type 0 where
    pub level : ℕ
    pub count : ℕ
    pub start : ℕ
    pub fill : Fill
    pub leads : Leads at level count start fill
    pub bad : IsBadAt i level count fill there at

  -- a call answered Ok where no gap is, and names a bad place only where one is
  abbrev pub GoesDown : {X F M : Type 0} → Result X (TreeFault F M) → Type 0
  GoesDown (Ok value) = AllStand
  GoesDown (Err fault) = Blames IsGap fault
