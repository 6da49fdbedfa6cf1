-- The nodes of a packed tree, where they stand, and how many bytes they take.
use Rattle.std.specs.Prelude.{◌≡◌, ℕ, zero, suc, ◌+◌, ◌<◌, ◌≤◌, Some, List, [], ◌∷◌, ◌++◌, length, map}
use Rattle.tree_laws.specs.declared.item.Item.{Ghosts as Items}
use Rattle.tree_laws.specs.declared.node.Child.{Child}
use Rattle.tree_laws.specs.declared.node.Node.{Node}
use Rattle.tree_laws.specs.declared.node.Node.TheVariants.{Leaf, Inner}
use Rattle.tree_laws.specs.declared.tree.Tree.{Tree}
use Rattle.tree_laws.specs.Meaning.{joined}
use Rattle.tree_laws.specs.Nodes.{FitsNode, spelled_node}
use Rattle.tree_laws.specs.Packing.{IsPacked}
use Rattle.tree_laws.specs.Stores.{Places, pieces_size}

-- how many bytes the nodes of pieces take in a store: their own, and 8 more for each
abbrev pub nodes_size : {T X : Type 0} → Items T → (List X → Node T) → List (List X) → ℕ
nodes_size i make pieces = pieces_size (map (λ piece. spelled_node i.spelled (make piece)) pieces)

-- a store has grown from one size to another by what is taken now and was not before, and of what is taken now this holds
abbrev pub Grown : ℕ → ℕ → ℕ → (ℕ → Type 0) → Type 0
Grown old new before P = (taken : ℕ) × (new + before ≡ old + taken) × P taken

module _ {T : Type 0} (i : Items T) (there : Places) where
  -- the node can be spelled, and stands at the place
  pub record StandsAt (at : ℕ) (node : Node T) : Type 0 where
    pub fits : FitsNode i.fits i.spelled node
    pub bytes : there at ≡ Some (spelled_node i.spelled node)

  -- the nodes of the pieces stand at the children's places
  abbrev pub AreNodes : {X : Type 0} → (List X → Node T) → List (Child T) → List (List X) → Type 0
  AreNodes make [] [] = Unit {0}
  AreNodes make [] (p ∷ ps) = ⊥
  AreNodes make (c ∷ cs) [] = ⊥
  AreNodes make (c ∷ cs) (p ∷ ps) = StandsAt c.at (make p) × AreNodes make cs ps

  -- a list packed, level upon level, until one node is left: the root. So many bytes are those of all these nodes
  abbrev pub Packs : {X : Type 0} → (List X → Node T) → ℕ → ℕ → List X → ℕ → Type 0
  Packs make root zero xs size = StandsAt root (make xs) × (length xs ≤ 32) × (size ≡ nodes_size i make (xs ∷ []))
  Packs {X} make root (suc k) xs size =
      (32 < length xs) × (pieces : List (List X)) × (above : List (Child T)) × (more : ℕ)
      × IsPacked pieces xs × AreNodes make above pieces × Packs {X = Child T} Inner root k above more × (size ≡ nodes_size i make pieces + more)

  -- the tree's levels from this one up are the list packed, and take so many bytes
  abbrev pub PacksAt : {X : Type 0} → (List X → Node T) → ℕ → Tree → List X → ℕ → Type 0
  PacksAt make level tree xs size = (k : ℕ) × (tree.height ≡ level + suc k) × Packs make tree.root k xs size

  -- the tree is that of the items packed, and its nodes take so many bytes; of no items there is no node
  abbrev pub IsPackedTree : Tree → List T → ℕ → Type 0
  IsPackedTree tree [] size = (tree.height ≡ 0) × (size ≡ 0)
  IsPackedTree tree (x ∷ xs) size = PacksAt Leaf 0 tree (x ∷ xs) size

  -- ---- on the way there

  -- the nodes of a row's entries, packed, and the bytes that they take
  abbrev pub ArePacked : Node T → List (Child T) → ℕ → Type 0
  ArePacked (Leaf xs) children size = (pieces : List (List T)) × IsPacked pieces xs × AreNodes Leaf children pieces × (size ≡ nodes_size i Leaf pieces)
  ArePacked (Inner cs) children size = (pieces : List (List (Child T))) × IsPacked pieces cs × AreNodes Inner children pieces × (size ≡ nodes_size i Inner pieces)

-- each piece has 32
abbrev pub AreFull : {X : Type 0} → List (List X) → Type 0
AreFull [] = Unit {0}
AreFull (p ∷ ps) = (length p ≡ 32) × AreFull ps

-- a level in the making: of the entries given, the first are put in nodes of 32, which take so many bytes, and the others wait
pub record IsCut {T X : Type 0} (i : Items T) (there : Places) (make : List X → Node T) (given waiting : List X) (above : List (Child T)) (taken : ℕ) : Type 0 where
  pub pieces : List (List X)
  pub whole : given ≡ joined pieces ++ waiting
  pub full : AreFull pieces
  pub stand : AreNodes i there make above pieces
  pub least : 0 < length above → 8 ≤ length waiting
  pub takes : taken ≡ nodes_size i make pieces

module _ {T : Type 0} (i : Items T) (there : Places) where
  -- rows one above the other: the last was given the children below, and each handed up what the one before it was given. The nodes
  -- that were put of them take so many bytes
  abbrev pub Climbs : List (List (Child T)) → List (Child T) → List (Child T) → ℕ → Type 0
  Climbs [] above below taken = (above ≡ below) × (taken ≡ 0)
  Climbs (row ∷ rows) above below taken =
      (given : List (Child T)) × (own : ℕ) × (more : ℕ)
      × IsCut i there Inner given row above own × Climbs rows given below more × (0 < length given) × (taken ≡ own + more)
