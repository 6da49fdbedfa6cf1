-- What the calls that build put, and what they leave.
use Rattle.std.proofs.Common.{◌≡◌, ◌⊎◌, inl, inr, ℕ, ◌+◌, ◌≤◌, ◌∷◌, [], List, Option, Some, Result, Ok, Err, OnErr, ap, length, length-append, refl, arith, ◌∙◌, ◌<◌, ◌*◌}
use Rattle.std.proofs.lemmas.Bool.{cases_lt}
use Rattle.tree_laws.specs.declared.item.Item.{Ghosts as Items}
use Rattle.tree_laws.specs.declared.store.NodeSource.{Ghosts as Sources}
use Rattle.tree_laws.specs.declared.summer.Summer.{Ghosts as Summers}
use Rattle.tree_laws.specs.declared.node.Node.{Node}
use Rattle.tree_laws.specs.declared.tree.TreeFault.{TreeFault}
use Rattle.tree_laws.specs.declared.tree.TreeFault.TheVariants as tree_fault
use Rattle.tree_laws.specs.Nodes.{entries, FitsNode, spelled_node}
use Rattle.tree_laws.specs.Stores.{EachSince, KeepsPlaces, Places}
use Rattle.reduce_tree.specs.Built.{ArePutPacked, HasEntries, IsPopped}
use Rattle.reduce_tree.specs.Calls.{places, Ran, UnlessStore}
use Rattle.reduce_tree.proofs.Calls.{Laws, ran_goes, unless_on}
use Rattle.reduce_tree.proofs.Since.{since_none, since_on, since_one, since_weaker}

pub told_places : (told : Option Places) (there : Places) → told ≡ Some there → places told ≡ there
told_places told there e = ap places e

-- there is one row less, or there was none
pub rows_left : {X : Type 0} (old new : List (List X)) (row : List X) → IsPopped old new row → (length old ≡ length new + 1) ⊎ ((length old ≡ 0) × (length new ≡ 0) × (length row ≡ 0))
rows_left old new row p = elim p [
  | inl e ↦ inl (ap length e ∙ length-append new (row ∷ []))
  | inr e ↦ inr (ap length e.0, ap length e.1, ap length e.2)
]

-- a row is cut, and each node is put once: of n entries at goes into the first node, and right into the others
pub row_puts : (n at right p q r : ℕ) → 32 < n → right + at ≡ n → (n < 40 → at ≡ 24) → (40 ≤ n → at ≡ 32) → q ≤ p + 1 → 32 * r ≤ 32 * q + (right + 31) → 32 * r ≤ 32 * p + (n + 31)
row_puts n at right p q r long sum short full one more = elim (cases_lt n 40) [
  | inl s ↦ let e = short s in omega (arith, long, sum, e, s, one, more)
  | inr b ↦ let e = full b in omega (arith, sum, e, one, more)
]

-- two nodes of a level at most, and what the levels above put: of the rows `old` those of `new` are left
pub rise_puts : {X : Type 0} (old new : List (List X)) (row : List X) (placed list n a b c : ℕ) → IsPopped old new row → length row < 40 → list ≡ length row + placed → 32 * placed ≤ n + 31 → n ≤ 41 → 32 * b ≤ 32 * a + (n + 31)
    → (length new ≡ 0 → list ≤ 32 → c ≤ b + 1) → (list ≤ 41 → c ≤ b + (2 * length new + 3)) → c ≤ a + (2 * length old + 3)
rise_puts old new row placed list n a b c popped few sum packed most puts once more = elim (rows_left old new row popped) [
  | inl e ↦ let above = more (omega (arith, few, sum, packed, most)) in omega (arith, e, puts, most, above)
  | inr e ↦ let root = once e.1 (omega (arith, e.2, sum, packed, most)) in omega (arith, puts, most, root)
]

module _ {T : Type 0} (i : Items T) where
  wider : (least most low high : ℕ) → low ≤ least → most ≤ high → (bytes : List ℕ) → HasEntries i least most bytes → HasEntries i low high bytes
  wider least most low high l h bytes p = record { node = p.node; fits = p.fits; bytes_are = p.bytes_are; least = omega (arith, p.least, l); most = omega (arith, p.most, h) }

  -- what is filled within narrow bounds is so within wide ones
  pub filled_wider : (least most low high : ℕ) → low ≤ least → most ≤ high → (old new : List (List ℕ)) → EachSince (HasEntries i least most) old new → EachSince (HasEntries i low high) old new
  filled_wider least most low high l h old new p = since_weaker (HasEntries i least most) (HasEntries i low high) (wider least most low high l h) old new p

  pub filled_none : (least most : ℕ) (old : List (List ℕ)) → EachSince (HasEntries i least most) old old
  filled_none least most old = since_none (HasEntries i least most) old old refl

  pub filled_same : (least most : ℕ) (old new : List (List ℕ)) → new ≡ old → EachSince (HasEntries i least most) old new
  filled_same least most old new e = since_none (HasEntries i least most) old new e

  pub filled_on : (least most : ℕ) (a b c : List (List ℕ)) → EachSince (HasEntries i least most) a b → EachSince (HasEntries i least most) b c → EachSince (HasEntries i least most) a c
  filled_on least most a b c h k = since_on (HasEntries i least most) (HasEntries i least most) (λ x p. p) a b c h k

  -- the bytes of a node were put, or tried
  pub filled_one : (node : Node T) (bytes : List ℕ) (old new : List (List ℕ)) → new ≡ bytes ∷ old → bytes ≡ spelled_node i.spelled node → FitsNode i.fits i.spelled node → EachSince (HasEntries i (entries node) (entries node)) old new
  filled_one node bytes old new e is fits = since_one (HasEntries i (entries node) (entries node)) bytes old new e (record { node = node; fits = fits; bytes_are = is; least = omega arith; most = omega arith })

  -- a root alone
  pub packed_top : (old new : List (List ℕ)) → EachSince (HasEntries i 1 32) old new → length new ≤ length old + 1 → ArePutPacked i old new
  packed_top old new h few = record { mid = old; below = filled_none 8 32 old; root = h; one = few }

  -- no root yet
  pub packed_below : (old new : List (List ℕ)) → EachSince (HasEntries i 8 32) old new → ArePutPacked i old new
  packed_below old new h = record { mid = new; below = h; root = filled_none 1 32 new; one = omega arith }

  -- nodes below those that are put later
  pub packed_on : (a b c : List (List ℕ)) → EachSince (HasEntries i 8 32) a b → ArePutPacked i b c → ArePutPacked i a c
  packed_on a b c h k = record { mid = k.mid; below = filled_on 8 32 a b k.mid h k.below; root = k.root; one = k.one }

module _ {F G : Type 0} (P Q : Type 0) where
  unless_pass : (X : Type 0) (fault : TreeFault F G) → (P → Q) → UnlessStore {X = Unit {0}} (Err fault) P → UnlessStore {X = X} (Err fault) Q
  unless_pass X (tree_fault.Store fault) f h = tt
  unless_pass X (tree_fault.BadNode at) f h = f h
  unless_pass X (tree_fault.Summer fault) f h = f h
  unless_pass X tree_fault.NoMemory f h = f h

  -- what is said of a refusal but `Store`, at the exit of a `?` that hands on a fault of which as much was said
  pub refused_on : {X : Type 0} (q : Result X (TreeFault F G)) (fault y : TreeFault F G) → y ≡ fault → q ≡ Err y → (P → Q) → UnlessStore {X = Unit {0}} (Err fault) P → OnErr q (UnlessStore q Q)
  refused_on {X} q fault y e is f h = rw is (rw e (unless_pass X fault f h))

-- and where it holds whatever is answered
pub refused_sure : {B F G : Type 0} (Q : Type 0) (q : Result B (TreeFault F G)) → Q → OnErr q (UnlessStore q Q)
refused_sure Q (Ok value) h = tt
refused_sure Q (Err (tree_fault.Store fault)) h = tt
refused_sure Q (Err (tree_fault.BadNode at)) h = h
refused_sure Q (Err (tree_fault.Summer fault)) h = h
refused_sure Q (Err tree_fault.NoMemory) h = h

module _ {T S F M Sum G : Type 0} (i : Items T) (s : Sources S F) (m : Summers M T Sum G) (laws : Laws s m) where
  -- where no call on the store failed, all that stood there stays
  pub kept_unless : {X : Type 0} (a b : S) (u v : M) (q : Result X (TreeFault F G)) → Ran i s m a b u v q → UnlessStore q (KeepsPlaces (s.nodes a) (s.nodes b))
  kept_unless a b u v q h = unless_on (s.goes a b) (KeepsPlaces (s.nodes a) (s.nodes b)) q (laws.store_keeps a b) (ran_goes i s m laws a b u v q h)

  -- and it is ready
  pub ready_unless : ((a b : S) → s.goes a b → s.is_ready a → s.is_ready b) → {X : Type 0} (a b : S) (u v : M) (q : Result X (TreeFault F G)) → s.is_ready a → Ran i s m a b u v q → UnlessStore q (s.is_ready b)
  ready_unless stays a b u v q ready h = unless_on (s.goes a b) (s.is_ready b) q (λ went. stays a b went ready) (ran_goes i s m laws a b u v q h)
