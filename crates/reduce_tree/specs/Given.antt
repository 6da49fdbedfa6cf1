-- Where the nodes stand that a call on a tree gets: what entries lead to.
use Rattle.std.specs.Prelude.{◌⊎◌, ◌-◌, ℕ, zero, suc, List, All, Result, Ok, Err, IfOk}
use Rattle.tree_laws.specs.declared.item.Item.{Ghosts as Items}
use Rattle.tree_laws.specs.declared.store.NodeSource.{Ghosts as Sources}
use Rattle.tree_laws.specs.declared.summer.Summer.{Ghosts as Summers}
use Rattle.tree_laws.specs.declared.node.Child.{Child}
use Rattle.tree_laws.specs.declared.node.Node.{Node}
use Rattle.tree_laws.specs.declared.node.Node.TheVariants.{Leaf, Inner}
use Rattle.tree_laws.specs.declared.tree.Fill.{Fill}
use Rattle.tree_laws.specs.declared.tree.Fill.TheVariants.{Below}
use Rattle.tree_laws.specs.declared.tree.Tree.{Tree}
use Rattle.tree_laws.specs.declared.tree.TreeFault.{TreeFault}
use Rattle.tree_laws.specs.declared.tree.TreeFault.TheVariants as tree_fault
use Rattle.tree_laws.specs.Fetching.{KeepsBadSum}
use Rattle.tree_laws.specs.Nodes.{spelled_node}
use Rattle.tree_laws.specs.Reaching.{GoesSoFar, IsFaulty, Reaches, StandsFit, StopsAt}
use Rattle.tree_laws.specs.Stores.{EachSince, IsSince, Places}
use Rattle.tree_laws.specs.Values.{values_of}
use Rattle.reduce_tree.specs.Calls.{places, IsKnown}
use Rattle.reduce_tree.specs.Halted.{FailedWhere}

-- such a fact of each entry of an inner node
abbrev pub AreEach : {T : Type 0} → (Child T → Type 0) → Node T → Type 0
AreEach P (Leaf items) = Unit {0}
AreEach P (Inner children) = All P children

module _ {T M Sum Fault : Type 0} (i : Items T) (m : Summers M T Sum Fault) (first : M) (there : Places) (old new : List (List ℕ)) where
  -- a node that the call put: it fits at the place, its summaries are read, and such a fact holds of its entries
  pub record IsOwnNode (P : Child T → Type 0) (at level count : ℕ) (fill : Fill) : Type 0 where
    pub node : Node T
    pub stands : StandsFit i there at level count fill node
    pub read : KeepsBadSum (values_of m first) node → ⊥
    pub since : IsSince (spelled_node i.spelled node) old new
    pub entries : AreEach P node

  module _ (tree : Tree) where
    -- a place where a node of the level is to stand is reached from the tree's root, or the call put the node and all that it leads to
    abbrev pub LeadsTo : ℕ → ℕ → ℕ → Fill → Type 0
    LeadsTo zero at count fill = Reaches i there tree at zero count fill ⊎ IsOwnNode (λ c. Unit {0}) at zero count fill
    LeadsTo (suc level) at count fill = Reaches i there tree at (suc level) count fill ⊎ IsOwnNode (λ c. LeadsTo level c.at c.count Below) at (suc level) count fill

    -- a node is to stand at the place, which is one of these
    pub record MayGet (at : ℕ) : Type 0 where
      pub level : ℕ
      pub count : ℕ
      pub fill : Fill
      pub leads : LeadsTo level at count fill

    -- and a node that fits there stands at it, of which each summary is read: the one that the call put, where it put one there
    pub record IsTaken (at : ℕ) : Type 0 where
      pub level : ℕ
      pub count : ℕ
      pub fill : Fill
      pub leads : LeadsTo level at count fill
      pub node : Node T
      pub stands : StandsFit i there at level count fill node
      pub read : KeepsBadSum (values_of m first) node → ⊥

    -- an entry leads to such a place, where a node of this level is to stand
    abbrev pub IsGiven : ℕ → Child T → Type 0
    IsGiven level child = LeadsTo level child.at child.count Below

    -- and so do all entries of a node of a level
    abbrev pub AreGiven : ℕ → Node T → Type 0
    AreGiven level node = AreEach (IsGiven (level - 1)) node

module _ {T S F M Sum G : Type 0} (i : Items T) (s : Sources S F) (m : Summers M T Sum G) (first : M) (tree : Tree) (pieces : List (List ℕ)) where
  -- the same of a store, by the pieces that it had been given when the call began
  abbrev pub Leads : S → ℕ → ℕ → ℕ → Fill → Type 0
  Leads store = LeadsTo i m first (places (s.nodes store)) pieces (s.puts store) tree

  abbrev pub Given : S → ℕ → Child T → Type 0
  Given store = IsGiven i m first (places (s.nodes store)) pieces (s.puts store) tree

  abbrev pub AllGiven : S → ℕ → Node T → Type 0
  AllGiven store = AreGiven i m first (places (s.nodes store)) pieces (s.puts store) tree

  -- from the one store to the other, by what stands at places: each place that was got is good
  abbrev pub GotGood : S → S → Places → Type 0
  GotGood old new there = EachSince (IsTaken i m first there pieces (s.puts new) tree) (s.gets old) (s.gets new)

  -- or each but the last, which the call may get
  abbrev pub GotSoFar : S → S → Places → Type 0
  GotSoFar old new there = GoesSoFar (MayGet i m first there pieces (s.puts new) tree) (IsTaken i m first there pieces (s.puts new) tree) (s.gets old) (s.gets new)

  -- the last is bad, and each other is good
  abbrev pub GotBad : S → S → Places → ℕ → Type 0
  GotBad old new there at = IsFaulty i (values_of m first) there tree at × StopsAt (IsTaken i m first there pieces (s.puts new) tree) (s.gets old) (s.gets new) at

  -- how a call that gave up took what it got: where the store failed, by what stood in it when it did
  abbrev pub Halts : S → S → TreeFault F G → Type 0
  Halts old new (tree_fault.Store fault) = FailedWhere s (GotSoFar old new) old new fault
  Halts old new (tree_fault.BadNode at) = GotBad old new (places (s.nodes new)) at
  Halts old new (tree_fault.Summer fault) = GotGood old new (places (s.nodes new))
  Halts old new tree_fault.NoMemory = GotSoFar old new (places (s.nodes new))

  -- how a call took what it got: a bad node is never passed over, since each place but the last is good, and that one too where the
  -- call answers Ok
  abbrev pub Takes : {X : Type 0} → S → S → Result X (TreeFault F G) → Type 0
  Takes old new (Ok value) = GotGood old new (places (s.nodes new))
  Takes old new (Err fault) = Halts old new fault

  -- the same of a part of a call, and a fact of what it answers
  abbrev pub Took : {X : Type 0} → S → S → Result X (TreeFault F G) → (X → Type 0) → Type 0
  Took old new result P = Takes old new result × IfOk result P

module _ {T S F M Sum G : Type 0} (i : Items T) (s : Sources S F) (m : Summers M T Sum G) (first : M) (pieces : List (List ℕ)) where
  -- a part of a call begins: the store tells what stands in it, the summer means what it meant at first, and these pieces had been put when the call began
  pub record IsUnderWay (summer : M) (store : S) : Type 0 where
    pub known : IsKnown i s m first summer store
    pub since : EachSince (λ piece. Unit {0}) pieces (s.puts store)
