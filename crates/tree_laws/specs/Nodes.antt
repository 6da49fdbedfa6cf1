-- Nodes of trees, and how they are spelled in bytes.
use Rattle.std.specs.Prelude.{◌^◌, ◌<◌, ◌≤◌, ℕ, Bool, true, false, List, ◌∷◌, ◌++◌, All, length}
use Rattle.std.specs.Int.{to_le_bytes, w64}
use Rattle.std.specs.List.{flat_map}
use Rattle.tree_laws.specs.declared.node.Child.{Child}
use Rattle.tree_laws.specs.declared.node.Node.{Node}
use Rattle.tree_laws.specs.declared.node.Node.TheVariants.{Leaf, Inner}

-- how many entries a node has
abbrev pub entries : {T : Type 0} → Node T → ℕ
entries (Leaf items) = length items
entries (Inner children) = length children

abbrev pub is_leaf : {T : Type 0} → Node T → Bool
is_leaf (Leaf items) = true
is_leaf (Inner children) = false

-- a number, in 8 bytes with the low byte first
unfoldable pub number_bytes : ℕ → List ℕ
number_bytes n = to_le_bytes w64 n

-- bytes behind their length
abbrev pub sized : List ℕ → List ℕ
sized bytes = number_bytes (length bytes) ++ bytes

-- what can be spelled as a number
abbrev pub IsNumber : ℕ → Type 0
IsNumber n = n < 2 ^ 64

-- and as bytes behind their length
abbrev pub IsSized : List ℕ → Type 0
IsSized bytes = IsNumber (length bytes)

module _ {T : Type 0} (spelled : T → List ℕ) where
  -- an entry of a leaf
  abbrev pub item_entry : T → List ℕ
  item_entry item = sized (spelled item)

  -- an entry of an inner node: the place of the child, how many items it has, its last item and its summary
  abbrev pub child_entry : Child T → List ℕ
  child_entry child = number_bytes child.at ++ (number_bytes child.count ++ (item_entry child.last ++ sized child.sum))

  -- a byte for the kind, a byte for the number of entries, and the entries
  abbrev pub spelled_node : Node T → List ℕ
  spelled_node (Leaf items) = 0 ∷ length items ∷ flat_map item_entry items
  spelled_node (Inner children) = 1 ∷ length children ∷ flat_map child_entry children

-- ---- which nodes can be spelled

module _ {T : Type 0} (Fits : T → Type 0) (spelled : T → List ℕ) where
  -- an item within the bounds of its type
  pub record FitsItem (item : T) : Type 0 where
    pub fits : Fits item
    pub short : IsSized (spelled item)

  pub record FitsChild (child : Child T) : Type 0 where
    pub at : IsNumber child.at
    pub count : IsNumber child.count
    pub last : FitsItem child.last
    pub sum : IsSized child.sum

  -- of 255 entries at most, each of which can be spelled
  abbrev pub FitsNode : Node T → Type 0
  FitsNode (Leaf items) = (length items ≤ 255) × All FitsItem items
  FitsNode (Inner children) = (length children ≤ 255) × All FitsChild children
