-- What a value of a range of items rests on.
use Rattle.std.specs.Prelude.{◌≡◌, ◌+◌, ◌-◌, ◌<◌, ◌≤◌, ℕ, zero, suc, List, [], ◌∷◌, ◌++◌}
use Rattle.tree_laws.specs.declared.item.Item.{Ghosts as Items}
use Rattle.tree_laws.specs.declared.node.Child.{Child}
use Rattle.tree_laws.specs.declared.node.Node.{Node}
use Rattle.tree_laws.specs.declared.node.Node.TheVariants.{Inner, Leaf}
use Rattle.tree_laws.specs.declared.tree.Fill.{Fill}
use Rattle.tree_laws.specs.declared.tree.Fill.TheVariants.{Below}
use Rattle.tree_laws.specs.declared.tree.Tree.{Tree}
use Rattle.tree_laws.specs.Fetching.{IsBadAt, IsUnread}
use Rattle.tree_laws.specs.Meaning.{Values}
use Rattle.tree_laws.specs.Reaching.{StandsFit}
use Rattle.tree_laws.specs.Stores.{Places}
use Rattle.tree_query.specs.Leading.{Leads}
pub use Rattle.tree_query.specs.Leading.{count_in}

-- the bytes of a value
pub record IsRead {T S : Type 0} (v : Values T S) (bytes : List ℕ) : Type 0 where
  pub sum : S
  pub fits : v.fits sum
  pub bytes_are : bytes ≡ v.meaning.spelled sum

-- a range, of the items with the numbers `from` to `to - 1`, and so many items from the number `start` on
module _ (from to start count : ℕ) where
  -- all of these are of the range
  pub record IsWhole : Type 0 where
    pub begins : from ≤ start
    pub ends : start + count ≤ to

  -- some of them are, and not all, where the range has any
  pub record IsCut : Type 0 where
    pub begins : from < start + count
    pub ends : start < to
    pub parted : IsWhole → ⊥

-- ---- by the numbers that the items of a tree have

-- the children that the range cuts are picked
abbrev pub Cuts : {T : Type 0} → (from to : ℕ) → ℕ → List (Child T) → Child T → Type 0
Cuts from to start front child = IsCut from to (start + count_in front) child.count

module _ {T : Type 0} (i : Items T) (there : Places) (tree : Tree) (from to : ℕ) where
  -- The range leads to the root, and on from each node that stands there and fits to those of its children that it cuts. A node of
  -- this level is to stand at the place, with so many items in and below it, of which the first has the number `start`.
  abbrev pub RangeLeads : (at level count start : ℕ) → Fill → Type 0
  RangeLeads = Leads i there tree (Cuts from to)

  module _ {S : Type 0} (v : Values T S) where
    -- What a value of the range rests on: wherever the range leads a node stands that fits, and what such a node keeps of each of its
    -- children whose items are all of the range is the bytes of a value.
    pub record RangeIsRead : Type 0 where
      pub nodes : (at level count start : ℕ) (fill : Fill) → RangeLeads at level count start fill
          → (node : Node T) × StandsFit i there at level count fill node
      pub sums : (at level count start : ℕ) (fill : Fill) (front back : List (Child T)) (child : Child T) → RangeLeads at (suc level) count start fill
          → StandsFit i there at (suc level) count fill (Inner (front ++ child ∷ back)) → IsWhole from to (start + count_in front) child.count
          → IsRead v child.sum

    -- Why a place is bad for a value of the range: the range leads there, and no node stands there that fits, or one does, and what it
    -- keeps of a child whose items are all of the range is the bytes of no value.
    pub data RangeStops (at : ℕ) : Type 0 where
      no_node : (level count start : ℕ) (fill : Fill) → RangeLeads at level count start fill → IsBadAt i level count fill there at → RangeStops at
      no_value : (level count start : ℕ) (fill : Fill) (front back : List (Child T)) (child : Child T) → RangeLeads at (suc level) count start fill
          → StandsFit i there at (suc level) count fill (Inner (front ++ child ∷ back)) → IsWhole from to (start + count_in front) child.count
          → IsUnread v child.sum → RangeStops at

-- ---- by the numbers that the items of a node have, or those of children of one level

-- the item with this number is below the first of these children, if there are any
abbrev pub BeginsInFirst : {T : Type 0} → List (Child T) → ℕ → Type 0
BeginsInFirst {T} children number = (child : Child T) (others : List (Child T)) → children ≡ child ∷ others → number < child.count

-- a fact of each child, with the range counted from its first item
abbrev pub EachPart : {T : Type 0} → (Child T → ℕ → ℕ → Type 0) → List (Child T) → ℕ → ℕ → Type 0
EachPart P [] from to = Unit {0}
EachPart P (child ∷ children) from to = P child from to × EachPart P children (from - child.count) (to - child.count)

module _ {T S : Type 0} (i : Items T) (v : Values T S) (there : Places) where
  -- what is kept of a child whose items are all of the range is the bytes of a value, and where the range cuts it a node that fits
  -- stands, of which the same holds
  pub record ChildIsRead (Holds : Node T → ℕ → ℕ → Type 0) (level : ℕ) (child : Child T) (from to : ℕ) : Type 0 where
    pub whole : 0 < child.count → IsWhole from to 0 child.count → IsRead v child.sum
    pub cut : IsCut from to 0 child.count → (node : Node T) × StandsFit i there child.at level child.count Below node × Holds node from to

  -- what a value of these items of a node rests on
  abbrev pub NodeIsRead : ℕ → Node T → ℕ → ℕ → Type 0
  NodeIsRead zero node from to = Unit {0}
  NodeIsRead (suc level) (Leaf items) from to = Unit {0}
  NodeIsRead (suc level) (Inner children) from to = EachPart (ChildIsRead (NodeIsRead level) level) children from to

  -- the same of the items of children of one level
  abbrev pub RowIsRead : ℕ → List (Child T) → ℕ → ℕ → Type 0
  RowIsRead level children from to = EachPart (ChildIsRead (NodeIsRead level) level) children from to
