-- What a tree in a store holds.
use Rattle.std.specs.Prelude.{◌≡◌, ◌↔◌, ◌<◌, ◌≤◌, ◌-◌, ◌^◌, ℕ, zero, suc, Some, List, [], ◌∷◌, ◌++◌, length}
use Rattle.std.specs.List.Sorted.{IsStrictlySortedBy}
use Rattle.tree_laws.specs.declared.item.Item.{Ghosts as Items}
use Rattle.tree_laws.specs.declared.node.Child.{Child}
use Rattle.tree_laws.specs.declared.node.Node.{Node}
use Rattle.tree_laws.specs.declared.node.Node.TheVariants.{Leaf, Inner}
use Rattle.tree_laws.specs.declared.tree.Fill.{Fill}
use Rattle.tree_laws.specs.declared.tree.Fill.TheVariants.{Root, Below}
use Rattle.tree_laws.specs.declared.tree.Tree.{Tree}
use Rattle.tree_laws.specs.Fitting.{IsFilled}
use Rattle.tree_laws.specs.Meaning.{Values}
use Rattle.tree_laws.specs.Nodes.{FitsNode, spelled_node}
use Rattle.tree_laws.specs.Stores.{Places}

-- a list in two parts, with a fact of each
pub record Joins {T : Type 0} (P Q : List T → Type 0) (items : List T) : Type 0 where
  pub front : List T
  pub back : List T
  pub whole : items ≡ front ++ back
  pub at_front : P front
  pub at_back : Q back

-- over the values that the summaries of the tree are spelled from
module _ {T S : Type 0} (v : Values T S) where
  -- the bytes of a value that fits, and where the values are lawful of the value of exactly these items
  pub record IsSummary (items : List T) (bytes : List ℕ) : Type 0 where
    pub sum : S
    pub fits : v.fits sum
    pub bytes_are : bytes ≡ v.meaning.spelled sum
    pub value : v.lawful → sum ≡ v.meaning.value items

  -- what an inner node keeps of a child below which these items stand
  pub record IsChild (Stands : ℕ → List T → Type 0) (child : Child T) (items : List T) : Type 0 where
    pub stands : Stands child.at items
    pub count : child.count ≡ length items
    pub front : List T
    pub last : items ≡ front ++ child.last ∷ []
    pub sum : IsSummary items child.sum

  -- the items of the children joined
  abbrev pub AreChildren : (ℕ → List T → Type 0) → List (Child T) → List T → Type 0
  AreChildren Stands [] items = items ≡ []
  AreChildren Stands (child ∷ children) items = Joins (IsChild Stands child) (AreChildren Stands children) items

-- a node that is filled so stands at the place, and has these items
pub record IsAt {T : Type 0} (i : Items T) (there : Places) (Has : Node T → List T → Type 0) (fill : Fill) (at : ℕ) (items : List T) : Type 0 where
  pub node : Node T
  pub fits : FitsNode i.fits i.spelled node
  pub bytes : there at ≡ Some (spelled_node i.spelled node)
  pub filled : IsFilled fill node
  pub has : Has node items

-- over the items of a type, values, and what stands in a store
module _ {T S : Type 0} (i : Items T) (v : Values T S) (there : Places) where
  -- a node has these items, whatever its own fill: a leaf at level 0 has its own, and an inner node those of its children
  abbrev pub Has : ℕ → Node T → List T → Type 0
  Has zero (Leaf own) items = items ≡ own
  Has zero (Inner children) items = ⊥
  Has (suc level) (Leaf own) items = ⊥
  Has (suc level) (Inner children) items = AreChildren v (IsAt i there (Has level) Below) children items

  -- a node of this level that is filled so stands at the place, and has these items
  abbrev pub StandsAs : Fill → ℕ → ℕ → List T → Type 0
  StandsAs fill level = IsAt i there (Has level) fill

  -- a node below the root stands at the place, and has these items
  abbrev pub Stands : ℕ → ℕ → List T → Type 0
  Stands = StandsAs Below

  abbrev pub HasRoot : ℕ → ℕ → List T → Type 0
  HasRoot root zero items = items ≡ []
  HasRoot root (suc level) items = StandsAs Root level root items

  -- the tree has these items, and its summaries are spelled from these values
  pub record IsTree (tree : Tree) (items : List T) : Type 0 where
    pub root : HasRoot tree.root tree.height items
    pub count : tree.count ≡ length items
    pub rises : IsStrictlySortedBy i.order items

-- which numbers a tree has: so many items at most, and as many at least as its height needs
pub record IsTreeSize (tree : Tree) : Type 0 where
  pub most : tree.count ≤ 2 ^ 40
  pub empty : (tree.height ≡ 0) ↔ (tree.count ≡ 0)
  pub least : 0 < tree.height → 8 ^ (tree.height - 1) ≤ tree.count
