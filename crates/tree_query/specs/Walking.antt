-- What a walk still has to answer, and where it may go.
use Rattle.std.specs.Prelude.{◌≡◌, ◌+◌, ◌<◌, ℕ, Bool, true, false, Option, Some, None, List, [], ◌∷◌, ◌++◌, All, length, take, reverse, vec_len}
use Rattle.std.specs.List.{sum_by}
use Rattle.tree_laws.specs.declared.item.Item.{Ghosts as Items}
use Rattle.tree_laws.specs.declared.node.Child.{Child}
use Rattle.tree_laws.specs.declared.tree.Fill.TheVariants.{Below}
use Rattle.tree_laws.specs.declared.tree.Tree.{Tree}
use Rattle.tree_laws.specs.Reaching.{Reaches}
use Rattle.tree_laws.specs.Stores.{Places}
use Rattle.tree_laws.specs.Trees.{IsChild, Joins}
use Rattle.tree_laws.specs.Values.{no_values}
use Rattle.tree_query.specs.declared.walk.NextChild.{NextChild}
use Rattle.tree_query.specs.declared.walk.WalkRow.{WalkRow}
use Rattle.tree_query.specs.declared.walk.Walk.{Walk}
use Rattle.tree_query.specs.Bare.{StandItems}
use Rattle.tree_query.specs.Reaching.{AreReached}

-- a list in the order of a walk
abbrev pub turned : {X : Type 0} → Bool → List X → List X
turned false xs = xs
turned true xs = reverse xs

-- how many items a walk has still to answer
abbrev pub left_of : {T : Type 0} → Walk T → ℕ
left_of walk = walk.left

-- how many items are at hand, which a walk answers without getting a node
abbrev pub count_at_hand : {T : Type 0} → Walk T → ℕ
count_at_hand walk = vec_len walk.leaf

-- how many nodes a walk gets at most for one item
abbrev pub height_of : {T : Type 0} → Walk T → ℕ
height_of walk = walk.height

-- whether a walk goes from the last item of its range to the first
abbrev pub is_descending : {T : Type 0} → Walk T → Bool
is_descending walk = walk.descending

-- the children left after the first n items
pub record IsRest {T : Type 0} (list : List (Child T)) (n : ℕ) (rest : List (Child T)) (offset : ℕ) : Type 0 where
  pub front : List (Child T)
  pub whole : list ≡ front ++ rest
  pub count : sum_by (λ c. c.count) front + offset ≡ n
  pub inside : (c : Child T) (cs : List (Child T)) → rest ≡ c ∷ cs → offset < c.count

module _ {T : Type 0} (flag : Bool) where
  -- the items of children in the order of a walk
  abbrev pub AreTurned : (ℕ → List T → Type 0) → List (Child T) → List T → Type 0
  AreTurned Stands [] items = items ≡ []
  AreTurned Stands (child ∷ children) items = Joins (λ xs. IsChild no_values Stands child (turned flag xs)) (AreTurned Stands children) items

module _ {T : Type 0} (i : Items T) (flag : Bool) (there : Places) where
  -- the items of rows of children: those of the last row first
  abbrev pub Ahead : List (WalkRow T) → List T → Type 0
  Ahead [] items = items ≡ []
  Ahead (row ∷ rows) items = Joins (Ahead rows) (AreTurned flag (StandItems i there row.level) row.children) items

  -- a leaf and rows bring these items: those of the leaf, and those of the rows
  abbrev pub Brings : List T → List (WalkRow T) → List T → Type 0
  Brings leaf rows items = Joins (λ xs. xs ≡ leaf) (Ahead rows) items

  -- the items of the next child, and those of the rows
  abbrev pub Finds : Option (NextChild T) → List (WalkRow T) → List T → Type 0
  Finds None rows items = items ≡ []
  Finds (Some next) rows items = Joins (λ xs. IsChild no_values (StandItems i there next.level) next.child (turned flag xs)) (Ahead rows) items

  -- the items at hand, those of the next child, and those of the rows
  abbrev pub BringsOn : List T → Option (NextChild T) → List (WalkRow T) → List T → Type 0
  BringsOn leaf next rows items = Joins (λ xs. xs ≡ leaf) (Finds next rows) items

module _ {T : Type 0} (i : Items T) (there : Places) where
  -- a walk has these items still to answer, in this order
  pub record IsAt (walk : Walk T) (items : List T) : Type 0 where
    pub all : List T
    pub brings : BringsOn i walk.descending there walk.leaf.items walk.next walk.rows.items all
    pub whole : items ≡ take walk.left all
    pub count : walk.left ≡ length items

  module _ (tree : Tree) where
    -- the children of these rows are reached
    abbrev pub AreOver : List (WalkRow T) → Type 0
    AreOver rows = All (λ row. AreReached i there tree row.level row.children) rows

    -- the next child is reached, and so are those of the rows
    abbrev pub FindsReached : Option (NextChild T) → List (WalkRow T) → Type 0
    FindsReached None rows = AreOver rows
    FindsReached (Some next) rows = Reaches i there tree next.child.at next.level next.child.count Below × AreOver rows

    -- a walk goes on only to places that are reached from the root of the tree
    abbrev pub IsOver : Walk T → Type 0
    IsOver walk = FindsReached walk.next walk.rows.items
