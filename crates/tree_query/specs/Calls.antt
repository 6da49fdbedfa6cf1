-- How calls on a tree in a store went.
use Rattle.std.specs.Prelude.{◌≡◌, ◌-◌, ◌*◌, ℕ, List, Result, Ok, Err}
use Rattle.tree_laws.specs.declared.item.Item.{Ghosts as Items}
use Rattle.tree_laws.specs.declared.store.NodeSource.{Ghosts as Sources}
use Rattle.tree_laws.specs.declared.summer.Summer.{Ghosts as Summers}
use Rattle.tree_laws.specs.declared.tree.Tree.{Tree}
use Rattle.tree_laws.specs.declared.tree.TreeFault.{TreeFault}
use Rattle.tree_laws.specs.declared.tree.TreeFault.TheVariants as tree_fault
use Rattle.tree_laws.specs.Reaching.{GoesSoFar, HasNode, IsReached, IsUnfit, StopsAt, StopsShort}
use Rattle.tree_laws.specs.Stores.{EachSince, RisesBy, WhereTold}
use Rattle.tree_query.specs.Reaching.{IsBlamed}

-- a store was only read, and nothing of it changed: in so many steps at most, with two reads at most for each
pub record OnlyReads {S F : Type 0} (s : Sources S F) (most : ℕ) (old new : S) (before after : ℕ) : Type 0 where
  pub nodes : s.nodes new ≡ s.nodes old
  pub size : s.size new ≡ s.size old
  pub puts : s.puts new ≡ s.puts old
  pub steps : RisesBy most before after
  pub reads : RisesBy (2 * (after - before)) (s.reads old) (s.reads new)

-- What a call on a store alone leaves of it, wherever it went: after a fault of the store what that fault says, and else the store goes on.
module _ {S F : Type 0} (s : Sources S F) where
  abbrev pub IsCaused : {M : Type 0} → S → S → TreeFault F M → Type 0
  IsCaused old new (tree_fault.Store fault) = s.fails old new fault
  IsCaused old new (tree_fault.BadNode at) = s.goes old new
  IsCaused old new (tree_fault.Summer fault) = ⊥
  IsCaused old new tree_fault.NoMemory = s.goes old new

  abbrev pub Caused : {X M : Type 0} → S → S → Result X (TreeFault F M) → Type 0
  Caused old new (Ok value) = s.goes old new
  Caused old new (Err fault) = IsCaused old new fault

module _ {T S F : Type 0} (i : Items T) (s : Sources S F) (tree : Tree) where
  -- the store goes on, and at each place that was got a node stands that is reached and fits
  pub record WentOver (old new : S) : Type 0 where
    pub goes : s.goes old new
    pub got : WhereTold (s.nodes old) (λ there. EachSince (HasNode i there tree) (s.gets old) (s.gets new))

  -- why a call gave up: the store failed, the place that it got last has no node that fits, or memory ran out. All that it got before
  -- fits, and after each of these but the first the store goes on
  abbrev pub Fails : {M : Type 0} → S → S → TreeFault F M → Type 0
  Fails old new (tree_fault.Store fault) = s.fails old new fault × WhereTold (s.nodes old) (λ there. StopsShort (IsReached i there tree) (HasNode i there tree) (s.gets old) (s.gets new))
  Fails old new (tree_fault.BadNode at) = s.goes old new × WhereTold (s.nodes old) (λ there. IsUnfit i there tree at × StopsAt (HasNode i there tree) (s.gets old) (s.gets new) at)
  Fails old new (tree_fault.Summer fault) = ⊥
  Fails old new tree_fault.NoMemory = s.goes old new × WhereTold (s.nodes old) (λ there. GoesSoFar (IsReached i there tree) (HasNode i there tree) (s.gets old) (s.gets new))

  -- a call answered Ok over nodes that fit, or it gave up for a reason
  abbrev pub Ran : {X M : Type 0} → S → S → Result X (TreeFault F M) → Type 0
  Ran old new (Ok value) = WentOver old new
  Ran old new (Err fault) = Fails old new fault

-- a call on a summer alone
module _ {M T Sum G : Type 0} (m : Summers M T Sum G) where
  abbrev pub Summed : {X F : Type 0} → M → M → Result X (TreeFault F G) → Type 0
  Summed before after (Ok value) = m.goes before after
  Summed before after (Err (tree_fault.Store fault)) = ⊥
  Summed before after (Err (tree_fault.BadNode at)) = ⊥
  Summed before after (Err (tree_fault.Summer fault)) = m.fails before after fault
  Summed before after (Err tree_fault.NoMemory) = m.goes before after

-- with a summer beside the store, over a tree of its values as they were at first, where so much was got before
module _ {T S F M Sum G : Type 0} (i : Items T) (s : Sources S F) (m : Summers M T Sum G) (first : M) (tree : Tree) (since : List ℕ) where
  -- why a call gave up: the store or the summer failed, a place that was got is bad, or memory ran out. Whichever didn't fail goes on
  abbrev pub SumFails : S → S → M → M → TreeFault F G → Type 0
  SumFails old new before after (tree_fault.Store fault) = Fails i s tree {M = G} old new (tree_fault.Store fault) × m.goes before after
  SumFails old new before after (tree_fault.BadNode at) = s.goes old new × WhereTold (s.nodes old) (λ there. IsBlamed i m first there tree since (s.gets old) (s.gets new) at) × m.goes before after
  SumFails old new before after (tree_fault.Summer fault) = WentOver i s tree old new × m.fails before after fault
  SumFails old new before after tree_fault.NoMemory = Fails i s tree {M = G} old new tree_fault.NoMemory × m.goes before after

  -- a call answered Ok over nodes that fit and both go on, or it gave up for a reason
  abbrev pub SumRan : {X : Type 0} → S → S → M → M → Result X (TreeFault F G) → Type 0
  SumRan old new before after (Ok value) = WentOver i s tree old new × m.goes before after
  SumRan old new before after (Err fault) = SumFails old new before after fault
