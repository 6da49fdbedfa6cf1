-- What stood in a store when it failed, and what a call had put that gave up.
use Rattle.std.specs.Prelude.{◌+◌, ◌≤◌, ℕ, List, length}
use Rattle.tree_laws.specs.declared.item.Item.{Ghosts as Items}
use Rattle.tree_laws.specs.declared.store.NodeSource.{Ghosts as Sources}
use Rattle.tree_laws.specs.declared.summer.Summer.{Ghosts as Summers}
use Rattle.tree_laws.specs.declared.tree.Fill.TheVariants.{Below}
use Rattle.tree_laws.specs.declared.tree.TreeFault.{TreeFault}
use Rattle.tree_laws.specs.declared.tree.TreeFault.TheVariants as tree_fault
use Rattle.tree_laws.specs.Stores.{EachSince, Places}
use Rattle.reduce_tree.specs.Calls.{places, FailsAt}
use Rattle.reduce_tree.specs.Pieces.{ArePieces, IsTried}

-- the store failed with this fault in a call that began in a state in which such a fact holds of what stood in it
pub record FailedWhere {S F : Type 0} (s : Sources S F) (P : Places → Type 0) (old new : S) (fault : F) : Type 0 where
  pub fails : FailsAt s old new fault
  pub stood : P (places (s.nodes fails.mid))

module _ {T S F M Sum G : Type 0} (i : Items T) (s : Sources S F) (m : Summers M T Sum G) (first : M) (among : List T) where
  -- nodes below a root were put, which stand there, and behind them one more node at most, which may stand nowhere
  pub record ArePutTill (old new : List (List ℕ)) (there : Places) : Type 0 where
    pub until : List (List ℕ)
    pub pieces : ArePieces i m first among there Below old until
    pub last : EachSince (IsTried i m first among there) until new
    pub one : length new ≤ length until + 1

  -- what a call put that gave up: nodes below a root, which stand in the store, and where the store failed one more at most, at which
  -- it may have failed
  abbrev pub WerePieces : S → S → TreeFault F G → Type 0
  WerePieces old new (tree_fault.Store fault) = FailedWhere s (ArePutTill (s.puts old) (s.puts new)) old new fault
  WerePieces old new (tree_fault.BadNode at) = ArePieces i m first among (places (s.nodes new)) Below (s.puts old) (s.puts new)
  WerePieces old new (tree_fault.Summer fault) = ArePieces i m first among (places (s.nodes new)) Below (s.puts old) (s.puts new)
  WerePieces old new tree_fault.NoMemory = ArePieces i m first among (places (s.nodes new)) Below (s.puts old) (s.puts new)
