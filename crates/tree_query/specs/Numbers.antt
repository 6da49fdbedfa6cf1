-- Where the numbers of a tree's items lead, and which numbers the items have that a walk has still to answer.
use Rattle.std.specs.Prelude.{◌≡◌, ◌+◌, ◌-◌, ◌<◌, ◌≤◌, ℕ, Bool, true, false, Option, Some, None, List, [], ◌∷◌, length}
use Rattle.tree_laws.specs.declared.item.Item.{Ghosts as Items}
use Rattle.tree_laws.specs.declared.node.Child.{Child}
use Rattle.tree_laws.specs.declared.node.Node.{Node}
use Rattle.tree_laws.specs.declared.tree.Fill.{Fill}
use Rattle.tree_laws.specs.declared.tree.Fill.TheVariants.{Below}
use Rattle.tree_laws.specs.declared.tree.Tree.{Tree}
use Rattle.tree_laws.specs.Reaching.{StandsFit}
use Rattle.tree_laws.specs.Stores.{Places}
use Rattle.tree_query.specs.declared.walk.NextChild.{NextChild}
use Rattle.tree_query.specs.declared.walk.WalkRow.{WalkRow}
use Rattle.tree_query.specs.declared.walk.Walk.{Walk}
use Rattle.tree_query.specs.Leading.{IsLedTo, Leads, count_in}

-- of so many items, of which the first has the number `start`, one has the number n
pub record Holds (n start count : ℕ) : Type 0 where
  pub begins : start ≤ n
  pub ends : n < start + count

-- the child that has the item of this number is picked
abbrev pub HasNumber : {T : Type 0} → ℕ → ℕ → List (Child T) → Child T → Type 0
HasNumber n start front child = Holds n (start + count_in front) child.count

-- ---- walks, upward or downward: an edge n is between the numbers n - 1 and n

-- from one edge a walk comes to another over so many items
abbrev pub IsPast : Bool → (from count to : ℕ) → Type 0
IsPast false from count to = to ≡ from + count
IsPast true from count to = from ≡ to + count

-- the lower of two edges
abbrev pub lower : Bool → (from to : ℕ) → ℕ
lower false from to = from
lower true from to = to

-- the edge at which a walk over a range begins
abbrev pub first_edge : Bool → (from to : ℕ) → ℕ
first_edge false from to = from
first_edge true from to = to

-- the number of the item that comes next at an edge
abbrev pub number_at : Bool → ℕ → ℕ
number_at false edge = edge
number_at true edge = edge - 1

-- the edge after what was answered
abbrev pub edge_after : {X : Type 0} → Bool → ℕ → Option X → ℕ
edge_after flag edge None = edge
edge_after false edge (Some item) = edge + 1
edge_after true edge (Some item) = edge - 1

module _ {T : Type 0} (i : Items T) (there : Places) (tree : Tree) where
  -- the number leads to a node at the level of leaves, which stands there and fits
  pub record IsFound (n : ℕ) : Type 0 where
    pub at : ℕ
    pub start : ℕ
    pub leaf : Node T
    pub led : IsLedTo i there tree (HasNumber n) at 0 start leaf

  -- the node stands at the place and fits, and the number of each of its items leads to it
  pub record IsLedByAll (at level start : ℕ) (node : Node T) : Type 0 where
    pub count : ℕ
    pub fill : Fill
    pub leads : (n : ℕ) → Holds n start count → Leads i there tree (HasNumber n) at level count start fill
    pub stands : StandsFit i there at level count fill node

  module _ (flag : Bool) where
    -- a walk comes from one edge to another over the items of the child, and the number of each of these leads to it
    pub record IsNext (level : ℕ) (child : Child T) (from to : ℕ) : Type 0 where
      pub past : IsPast flag from child.count to
      pub leads : (n : ℕ) → Holds n (lower flag from to) child.count
          → Leads i there tree (HasNumber n) child.at level child.count (lower flag from to) Below

    -- over those of children of one level, one after another
    abbrev pub AreNext : ℕ → List (Child T) → (from to : ℕ) → Type 0
    AreNext level [] from to = from ≡ to
    AreNext level (child ∷ children) from to = (mid : ℕ) × IsNext level child from mid × AreNext level children mid to

    -- over those of rows of children: the last row first
    abbrev pub RowsNext : List (WalkRow T) → (from to : ℕ) → Type 0
    RowsNext [] from to = from ≡ to
    RowsNext (row ∷ rows) from to = (mid : ℕ) × RowsNext rows from mid × AreNext row.level row.children mid to

    -- over those of the next child, and of rows
    abbrev pub FindsNext : Option (NextChild T) → List (WalkRow T) → (from to : ℕ) → Type 0
    FindsNext None rows from to = from ≡ to
    FindsNext (Some next) rows from to = (mid : ℕ) × IsNext next.level next.child from mid × RowsNext rows mid to

    -- over items at hand, each of which was found by its number
    pub record AreAtHand (items : List T) (from to : ℕ) : Type 0 where
      pub past : IsPast flag from (length items) to
      pub found : (n : ℕ) → Holds n (lower flag from to) (length items) → IsFound n

    -- over those of a leaf, and of rows
    pub record BringsFrom (leaf : List T) (rows : List (WalkRow T)) (from to : ℕ) : Type 0 where
      pub mid : ℕ
      pub at_hand : AreAtHand leaf from mid
      pub ahead : RowsNext rows mid to

    -- over those at hand, of the next child, and of rows
    pub record GoesFrom (leaf : List T) (next : Option (NextChild T)) (rows : List (WalkRow T)) (from to : ℕ) : Type 0 where
      pub mid : ℕ
      pub at_hand : AreAtHand leaf from mid
      pub finds : FindsNext next rows mid to

  -- The walk is at this edge of the tree's numbers: what it has at hand was found by the numbers from there on, and the children that it
  -- keeps are those to which the numbers after these lead.
  pub record IsAtEdge (walk : Walk T) (edge : ℕ) : Type 0 where
    pub to : ℕ
    pub goes : GoesFrom walk.descending walk.leaf.items walk.next walk.rows.items edge to
