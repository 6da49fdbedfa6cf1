-- What a builder holds, and what its calls put.
use Rattle.std.specs.Prelude.{◌≡◌, ◌⊎◌, ℕ, zero, suc, ◌+◌, ◌*◌, ◌<◌, ◌≤◌, List, [], ◌∷◌, ◌++◌, length}
use Rattle.std.specs.List.{sum_by}
use Rattle.tree_laws.specs.declared.item.Item.{Ghosts as Items}
use Rattle.tree_laws.specs.declared.summer.Summer.{Ghosts as Summers}
use Rattle.tree_laws.specs.declared.node.Child.{Child}
use Rattle.tree_laws.specs.declared.node.Node.{Node}
use Rattle.tree_laws.specs.declared.node.Node.TheVariants.{Leaf, Inner}
use Rattle.tree_laws.specs.Fitting.{AreLarge, item_count}
use Rattle.tree_laws.specs.Nodes.{entries, FitsNode, spelled_node}
use Rattle.tree_laws.specs.Stores.{EachSince, Places}
use Rattle.tree_laws.specs.SummerTrees.{AreChildren, Joins, Stands}
use Rattle.reduce_tree.specs.declared.builder.Builder.{Builder}
use Rattle.reduce_tree.specs.Counts.{ReadsFor}
use Rattle.reduce_tree.specs.Packed.{IsCut, Climbs}

module _ {T : Type 0} where
  -- how many items stand below the entries of rows
  abbrev pub row_items : List (List (Child T)) → ℕ
  row_items rows = sum_by (λ row. item_count (Inner row)) rows

  -- how many items were pushed to a builder
  abbrev pub pushed : Builder T → ℕ
  pushed builder = row_items builder.rows.items + length builder.leaf.items

  -- and how many of them wait to be put in a leaf
  abbrev pub waiting : Builder T → ℕ
  waiting builder = length builder.leaf.items

  -- at how many levels entries may wait: that of the items, and one for each row
  abbrev pub levels_of : Builder T → ℕ
  levels_of builder = length builder.rows.items + 1

  -- nothing was pushed yet
  pub record HoldsNothing (builder : Builder T) : Type 0 where
    pub leaf : builder.leaf.items ≡ []
    pub rows : builder.rows.items ≡ []

  -- rows above a level, the lowest last: fewer than 40 entries wait in each, `least` at least in the highest and 8 in the others,
  -- and as many items at least stand below each entry as its level needs
  abbrev pub AreRowsOf : ℕ → ℕ → List (List (Child T)) → Type 0
  AreRowsOf least low [] = Unit {0}
  AreRowsOf least low (row ∷ rows) = (least ≤ length row) × (length row < 40) × AreLarge (suc (low + length rows)) (Inner row) × AreRowsOf 8 low rows

  abbrev pub AreRows : ℕ → List (List (Child T)) → Type 0
  AreRows low rows = AreRowsOf 1 low rows

  -- no call on the builder was refused: fewer than 40 entries wait at each of its levels, and 8 at least below a level
  pub record IsWhole (builder : Builder T) : Type 0 where
    pub rows : AreRows zero builder.rows.items
    pub few : length builder.leaf.items < 40
    pub least : 0 < length builder.rows.items → 8 ≤ length builder.leaf.items

-- the last row taken off, or an empty one where there is none
abbrev pub IsPopped : {X : Type 0} → List (List X) → List (List X) → List X → Type 0
IsPopped old new row = (old ≡ new ++ row ∷ []) ⊎ ((old ≡ []) × (new ≡ []) × (row ≡ []))

module _ {T M Sum Fault : Type 0} (i : Items T) (m : Summers M T Sum Fault) (first : M) (there : Places) where
  -- the items of rows of children, one of each level, the lowest last
  abbrev pub Stacked : ℕ → List (List (Child T)) → List T → Type 0
  Stacked low [] items = items ≡ []
  Stacked low (row ∷ rows) items = Joins (AreChildren i m first (Stands i m first there (low + length rows)) row) (Stacked low rows) items

  -- a builder has these items
  abbrev pub Built : Builder T → List T → Type 0
  Built builder items = Joins (Stacked zero builder.rows.items) (λ xs. xs ≡ builder.leaf.items) items

module _ {T : Type 0} (i : Items T) (there : Places) where
  -- the items pushed are cut as part of a packed tree: those put stand in nodes of 32, level upon level, which take so many bytes
  abbrev pub IsCutting : Builder T → List T → ℕ → Type 0
  IsCutting builder items taken =
      (given : List (Child T)) × (own : ℕ) × (more : ℕ)
      × IsCut i there Leaf items builder.leaf.items given own × Climbs i there builder.rows.items [] given more × (taken ≡ own + more)

-- the reads never fall, and rise by two at most for each piece put, or tried
abbrev pub ReadsForPuts : ℕ → ℕ → List (List ℕ) → List (List ℕ) → Type 0
ReadsForPuts before now old new = ReadsFor before now (length old) (length new)

module _ {T : Type 0} (i : Items T) where
  -- the bytes of a node that can be spelled, of so many entries at least and so many at most
  pub record HasEntries (low high : ℕ) (bytes : List ℕ) : Type 0 where
    pub node : Node T
    pub fits : FitsNode i.fits i.spelled node
    pub bytes_are : bytes ≡ spelled_node i.spelled node
    pub least : low ≤ entries node
    pub most : entries node ≤ high

  -- each piece put since, or tried, is a node of exactly 32 entries
  abbrev pub ArePutFull : List (List ℕ) → List (List ℕ) → Type 0
  ArePutFull = EachSince (HasEntries 32 32)

  -- each piece put since, or tried, is a node of 8 to 32 entries, but for the newest, which may be the root and then has one at least
  pub record ArePutPacked (old new : List (List ℕ)) : Type 0 where
    pub mid : List (List ℕ)
    pub below : EachSince (HasEntries 8 32) old mid
    pub root : EachSince (HasEntries 1 32) mid new
    pub one : length new ≤ length mid + 1
