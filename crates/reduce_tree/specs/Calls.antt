-- How calls on a store and on a summer went.
use Rattle.std.specs.Prelude.{◌≡◌, ◌⊎◌, ℕ, List, ◌∷◌, Option, Some, None, Result, Ok, Err}
use Rattle.tree_laws.specs.declared.item.Item.{Ghosts as Items}
use Rattle.tree_laws.specs.declared.store.NodeSource.{Ghosts as Sources}
use Rattle.tree_laws.specs.declared.summer.Summer.{Ghosts as Summers}
use Rattle.tree_laws.specs.declared.tree.TreeFault.{TreeFault}
use Rattle.tree_laws.specs.declared.tree.TreeFault.TheVariants as tree_fault
use Rattle.tree_laws.specs.Stores.{EachSince, Places}
use Rattle.reduce_tree.specs.Pieces.{IsNodePiece}

-- what stands in a store, where it tells that
abbrev pub places : Option Places → Places
places None = λ at. None
places (Some there) = there

module _ {S F : Type 0} (s : Sources S F) where
  -- the store went on to a state in which a call on it began that failed with this fault: a place was got, or a piece was put
  pub record FailsAt (old new : S) (fault : F) : Type 0 where
    pub mid : S
    pub went : s.goes old mid
    pub failed : s.fails mid new fault
    pub call : ((at : ℕ) × (s.gets new ≡ at ∷ s.gets mid) × (s.puts new ≡ s.puts mid)) ⊎ ((piece : List ℕ) × (s.puts new ≡ piece ∷ s.puts mid) × (s.gets new ≡ s.gets mid))

  -- nothing was put
  pub record PutNone (old new : S) : Type 0 where
    pub puts : s.puts new ≡ s.puts old
    pub size : s.size new ≡ s.size old

module _ {T S F M Sum G : Type 0} (i : Items T) (s : Sources S F) (m : Summers M T Sum G) where
  -- the store tells what stands in it, and the summer means what it meant at first
  pub record IsKnown (first summer : M) (store : S) : Type 0 where
    pub goes : m.goes first summer
    pub there : Places
    pub told : s.nodes store ≡ Some there

  -- how calls went: what the store did, what the summer did, that each piece put, or tried to, is a node with summaries of values that
  -- fit, and that the places got are noted with those before them
  pub record Went (old new : S) (before after : M) (StoreDid SummerDid : Type 0) : Type 0 where
    pub store : StoreDid
    pub summer : SummerDid
    pub puts : EachSince (IsNodePiece i m before after) (s.puts old) (s.puts new)
    pub gets : EachSince (λ at. Unit {0}) (s.gets old) (s.gets new)

  -- calls of which none failed
  abbrev pub GoOn : S → S → M → M → Type 0
  GoOn old new before after = Went old new before after (s.goes old new) (m.goes before after)

  -- why a call gave up: the object that failed did what its fault says, and the other went on
  abbrev pub Fails : S → S → M → M → TreeFault F G → Type 0
  Fails old new before after (tree_fault.Store fault) = Went old new before after (FailsAt s old new fault) (m.goes before after)
  Fails old new before after (tree_fault.BadNode at) = GoOn old new before after
  Fails old new before after (tree_fault.Summer fault) = Went old new before after (s.goes old new) (m.fails before after fault)
  Fails old new before after tree_fault.NoMemory = GoOn old new before after

  -- a call answered Ok and went on, or it failed for a reason
  abbrev pub Ran : {X : Type 0} → S → S → M → M → Result X (TreeFault F G) → Type 0
  Ran old new before after (Ok value) = GoOn old new before after
  Ran old new before after (Err fault) = Fails old new before after fault

module _ {T M Sum G : Type 0} (m : Summers M T Sum G) where
  -- a summer's call, with no call on a store
  abbrev pub Summed : {X F : Type 0} → M → M → Result X (TreeFault F G) → Type 0
  Summed before after (Ok value) = m.goes before after
  Summed before after (Err (tree_fault.Store fault)) = ⊥
  Summed before after (Err (tree_fault.BadNode at)) = ⊥
  Summed before after (Err (tree_fault.Summer fault)) = m.fails before after fault
  Summed before after (Err tree_fault.NoMemory) = m.goes before after

module _ {F G : Type 0} where
  -- a fault that blames no node
  abbrev pub BlamesNone : TreeFault F G → Type 0
  BlamesNone (tree_fault.Store fault) = Unit {0}
  BlamesNone (tree_fault.BadNode at) = ⊥
  BlamesNone (tree_fault.Summer fault) = Unit {0}
  BlamesNone tree_fault.NoMemory = Unit {0}

  -- a fact, but for where a call on the store failed
  abbrev pub UnlessStore : {X : Type 0} → Result X (TreeFault F G) → Type 0 → Type 0
  UnlessStore (Ok value) P = P
  UnlessStore (Err (tree_fault.Store fault)) P = Unit {0}
  UnlessStore (Err (tree_fault.BadNode at)) P = P
  UnlessStore (Err (tree_fault.Summer fault)) P = P
  UnlessStore (Err tree_fault.NoMemory) P = P

  -- no node is blamed, and a fact of the value, if there is one
  abbrev pub IfSound : {X : Type 0} → Result X (TreeFault F G) → (X → Type 0) → Type 0
  IfSound (Ok value) P = P value
  IfSound (Err fault) P = BlamesNone fault
