-- Nodes in memory, of any number of entries.
use Rattle.std.specs.Prelude.{◌≡◌, ◌==◌, ℕ, Option, Some, None, List, [], ◌∷◌, ◌++◌, length}
use Rattle.tree_laws.specs.declared.item.Item.{Ghosts as Items}
use Rattle.tree_laws.specs.declared.summer.Summer.{Ghosts as Summers}
use Rattle.tree_laws.specs.declared.node.Child.{Child}
use Rattle.tree_laws.specs.declared.node.Node.{Node}
use Rattle.tree_laws.specs.declared.node.Node.TheVariants.{Leaf, Inner}
use Rattle.tree_laws.specs.Nodes.{is_leaf}
use Rattle.tree_laws.specs.Stores.{Places}
use Rattle.tree_laws.specs.SummerTrees.{AreChildren, Has, IsSummary, Joins, Stands}

-- leaves stand at level 0, and only there
abbrev pub IsAtLevel : {T : Type 0} → ℕ → Node T → Type 0
IsAtLevel level node = is_leaf node ≡ (level == 0)

-- the items of a leaf: in a row they stand in no store yet
abbrev pub leaf_items : {T : Type 0} → Node T → ℕ
leaf_items (Leaf items) = length items
leaf_items (Inner children) = 0

-- a node cut in two
abbrev pub IsSplit : {T : Type 0} → Node T → Node T → Node T → Type 0
IsSplit (Leaf xs) (Leaf ys) (Leaf zs) = xs ≡ ys ++ zs
IsSplit (Inner xs) (Inner ys) (Inner zs) = xs ≡ ys ++ zs
IsSplit _ _ _ = ⊥

-- the place and the number of items of an only child
abbrev pub lone : {T : Type 0} → Node T → Option (ℕ × ℕ)
lone (Leaf xs) = None
lone (Inner []) = None
lone (Inner (c ∷ [])) = Some (c.at, c.count)
lone (Inner (c ∷ d ∷ cs)) = None

module _ {T M Sum Fault : Type 0} (i : Items T) (m : Summers M T Sum Fault) (first : M) where
  -- what an entry says of items
  pub record Tells (count : ℕ) (last : T) (sum : List ℕ) (items : List T) : Type 0 where
    pub counted : count ≡ length items
    pub front : List T
    pub ended : items ≡ front ++ last ∷ []
    pub summed : IsSummary i m first items sum

  -- the items of the children done and, behind them, those of the entries carried
  abbrev pub Carries : Places → ℕ → List (Child T) → ℕ → Node T → List T → Type 0
  Carries there low done level node items = Joins (AreChildren i m first (Stands i m first there low) done) (Has i m first there level node) items
