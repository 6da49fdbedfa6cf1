-- Which nodes fit their place in a tree. Leaves stand at level 0.
use Rattle.std.specs.Prelude.{◌≡◌, ◌==◌, ◌^◌, ◌≤◌, ℕ, All, length}
use Rattle.std.specs.List.{sum_by}
use Rattle.tree_laws.specs.declared.node.Node.{Node}
use Rattle.tree_laws.specs.declared.node.Node.TheVariants.{Leaf, Inner}
use Rattle.tree_laws.specs.declared.tree.Fill.{Fill}
use Rattle.tree_laws.specs.declared.tree.Fill.TheVariants.{Root, Below}
use Rattle.tree_laws.specs.Nodes.{entries, is_leaf}

-- how many entries a node has at least
abbrev pub least_entries : {T : Type 0} → Fill → Node T → ℕ
least_entries Below node = 8
least_entries Root (Leaf items) = 1
least_entries Root (Inner children) = 2

-- a node has enough entries, and 32 at most
pub record IsFilled {T : Type 0} (fill : Fill) (node : Node T) : Type 0 where
  pub least : least_entries fill node ≤ entries node
  pub most : entries node ≤ 32

-- each child of an inner node at this level has so many items as a full subtree has at least
abbrev pub AreLarge : {T : Type 0} → ℕ → Node T → Type 0
AreLarge level (Leaf items) = Unit {0}
AreLarge level (Inner children) = All (λ child. 8 ^ level ≤ child.count) children

-- how many items stand in and below a node, by what it says itself
abbrev pub item_count : {T : Type 0} → Node T → ℕ
item_count (Leaf items) = length items
item_count (Inner children) = sum_by (λ child. child.count) children

-- a node fits at this level of a tree, where so many items are to stand in and below it
pub record IsFitFor {T : Type 0} (level count : ℕ) (fill : Fill) (node : Node T) : Type 0 where
  pub kind : is_leaf node ≡ (level == 0)
  pub filled : IsFilled fill node
  pub large : AreLarge level node
  pub items : item_count node ≡ count
