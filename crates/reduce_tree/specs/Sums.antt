-- Which summaries stand in the nodes that are put.
use Rattle.std.specs.Prelude.{◌≡◌, ◌⊎◌, ◌∷◌, ◌++◌, ℕ, List, [], Some, All, Contains, Result, Ok, Err, IfSome, map}
use Rattle.std.specs.List.{flat_map}
use Rattle.tree_laws.specs.declared.item.Item.{Ghosts as Items}
use Rattle.tree_laws.specs.declared.store.NodeSource.{Ghosts as Sources}
use Rattle.tree_laws.specs.declared.summer.Summer.{Ghosts as Summers}
use Rattle.tree_laws.specs.declared.node.Child.{Child}
use Rattle.tree_laws.specs.declared.node.Node.{Node}
use Rattle.tree_laws.specs.declared.node.Node.TheVariants.{Leaf, Inner}
use Rattle.tree_laws.specs.declared.tree.TreeFault.{TreeFault}
use Rattle.tree_laws.specs.declared.tree.TreeFault.TheVariants as tree_fault
use Rattle.tree_laws.specs.Nodes.{FitsNode, spelled_node}
use Rattle.tree_laws.specs.Stores.{EachSince, IsSince}
use Rattle.reduce_tree.specs.declared.builder.Builder.{Builder}

-- the summaries that rows of entries keep, and those of a builder
abbrev pub row_sums : {T : Type 0} → List (List (Child T)) → List (List ℕ)
row_sums rows = flat_map (λ row. map (λ child. child.sum) row) rows

abbrev pub sums_of : {T : Type 0} → Builder T → List (List ℕ)
sums_of builder = row_sums builder.rows.items

module _ {T M Sum Fault : Type 0} (m : Summers M T Sum Fault) where
  -- the bytes of a value that the summer answered on the way from the one state to the other
  pub record IsSumGiven (before after : M) (bytes : List ℕ) : Type 0 where
    pub sum : Sum
    pub gave : m.gave before after sum
    pub bytes_are : bytes ≡ (m.meaning before).spelled sum

module _ {T M Sum Fault : Type 0} (i : Items T) (m : Summers M T Sum Fault) (Was : List ℕ → Type 0) (before after : M) where
  -- such bytes, or some that were known before
  abbrev pub IsSumHad : List ℕ → Type 0
  IsSumHad bytes = Was bytes ⊎ IsSumGiven m before after bytes

  -- entries, rows of them and a node keep such summaries alone
  abbrev pub AreHad : List (Child T) → Type 0
  AreHad children = All (λ child. IsSumHad child.sum) children

  abbrev pub RowsHad : List (List (Child T)) → Type 0
  RowsHad rows = All AreHad rows

  abbrev pub KeepsHad : Node T → Type 0
  KeepsHad (Leaf items) = Unit {0}
  KeepsHad (Inner children) = AreHad children

  -- the bytes of such a node
  pub record IsPieceHad (bytes : List ℕ) : Type 0 where
    pub node : Node T
    pub fits : FitsNode i.fits i.spelled node
    pub bytes_are : bytes ≡ spelled_node i.spelled node
    pub sums : KeepsHad node

  -- the pieces that were put since are such
  abbrev pub ArePiecesHad : List (List ℕ) → List (List ℕ) → Type 0
  ArePiecesHad = EachSince IsPieceHad

module _ {T S F : Type 0} (i : Items T) (s : Sources S F) where
  -- since a call had begun, and before this state, a place was got at which such a summary stood in a node
  pub record IsSumRead (begun now : S) (bytes : List ℕ) : Type 0 where
    pub at : ℕ
    pub since : IsSince at (s.gets begun) (s.gets now)
    pub mid : S
    pub went : s.goes begun mid
    pub later : s.goes mid now
    pub children : List (Child T)
    pub fits : FitsNode i.fits i.spelled (Inner children)
    pub stood : IfSome (s.nodes mid) (λ there. there at ≡ Some (spelled_node i.spelled (Inner children)))
    pub child : Child T
    pub inside : Contains children child
    pub is : child.sum ≡ bytes

module _ {S F T M Sum G : Type 0} (s : Sources S F) (m : Summers M T Sum G) where
  -- a part of a call begins: the summer has gone on from its first state, and the store from where it was when the call began
  pub record IsOnTheWay (first : M) (begun : S) (now : M) (store : S) : Type 0 where
    pub goes : m.goes first now
    pub went : s.goes begun store
    pub gets : EachSince (λ at. Unit {0}) (s.gets begun) (s.gets store)

-- the same of summaries that were read since a call began, or answered
module _ {T S F M Sum G : Type 0} (i : Items T) (s : Sources S F) (m : Summers M T Sum G) (first : M) (begun : S) (summer : M) (store : S) where
  abbrev pub KnowsSum : List ℕ → Type 0
  KnowsSum = IsSumHad i m (IsSumRead i s begun store) first summer

  abbrev pub KnowsRow : List (Child T) → Type 0
  KnowsRow = AreHad i m (IsSumRead i s begun store) first summer

  abbrev pub KnowsNode : Node T → Type 0
  KnowsNode = KeepsHad i m (IsSumRead i s begun store) first summer

-- each entry that a list with the newest first got since is such, beside all that it had before that entry
abbrev pub EachInTurn : {X : Type 0} → (X → List X → Type 0) → List X → List X → Type 0
EachInTurn P [] old = Unit {0}
EachInTurn P (x ∷ more) old = P x (more ++ old) × EachInTurn P more old

module _ {T S F M Sum G : Type 0} (i : Items T) (s : Sources S F) (m : Summers M T Sum G) (first : M) (begun : S) where
  -- a piece that was put, or tried, after these earlier ones and on the way to this state, is a node that keeps such summaries alone:
  -- what was read of them was read before it was put
  pub record IsPieceKnown (Later : S → S → Type 0) (summer : M) (now : S) (bytes : List ℕ) (earlier : List (List ℕ)) : Type 0 where
    pub before : S
    pub later : Later before now
    pub puts : s.puts before ≡ earlier
    pub gets : EachSince (λ at. Unit {0}) (s.gets before) (s.gets now)
    pub node : Node T
    pub fits : FitsNode i.fits i.spelled node
    pub bytes_are : bytes ≡ spelled_node i.spelled node
    pub sums : KnowsNode i s m first begun summer before node

  -- each piece that was put since is one
  abbrev pub ArePiecesKnown : (S → S → Type 0) → M → S → List (List ℕ) → Type 0
  ArePiecesKnown Later summer now old = (more : List (List ℕ)) × (s.puts now ≡ more ++ old) × EachInTurn (IsPieceKnown Later summer now) more old

  -- by calls that went on
  abbrev pub KnowsPieces : M → S → List (List ℕ) → Type 0
  KnowsPieces = ArePiecesKnown s.goes

  -- by a call that gave up
  abbrev pub KnewPieces : M → S → List (List ℕ) → TreeFault F G → Type 0
  KnewPieces summer now old (tree_fault.Store fault) = ArePiecesKnown (λ a b. s.fails a b fault) summer now old
  KnewPieces summer now old (tree_fault.BadNode at) = KnowsPieces summer now old
  KnewPieces summer now old (tree_fault.Summer fault) = KnowsPieces summer now old
  KnewPieces summer now old tree_fault.NoMemory = KnowsPieces summer now old

  -- and whatever is answered
  abbrev pub PutsKnown : {X : Type 0} → M → S → List (List ℕ) → Result X (TreeFault F G) → Type 0
  PutsKnown summer now old (Ok value) = KnowsPieces summer now old
  PutsKnown summer now old (Err fault) = KnewPieces summer now old fault
