-- How calls that come one after another are one.
use Rattle.std.proofs.Common.{◌≡◌, inl, inr, ℕ, List, ◌∷◌, Option, Some, None, Result, Ok, Err, OnErr, IfSome, ◌≤◌, refl, sym, ap, ◌∙◌}
use Rattle.tree_laws.specs.declared.item.Item.{Ghosts as Items}
use Rattle.tree_laws.specs.declared.store.NodeSource.{Ghosts as Sources}
use Rattle.tree_laws.specs.declared.summer.Summer.{Ghosts as Summers}
use Rattle.tree_laws.specs.declared.node.Node.{Node}
use Rattle.tree_laws.specs.declared.tree.Fill.{Fill}
use Rattle.tree_laws.specs.declared.tree.TreeFault.{TreeFault}
use Rattle.tree_laws.specs.declared.tree.TreeFault.TheVariants as tree_fault
use Rattle.tree_laws.specs.Fetching.{FetchFails}
use Rattle.tree_laws.specs.Meaning.{AreSteps, KeepsMeaning, Meaning, StaysCaused, StaysNoted}
use Rattle.tree_laws.specs.Nodes.{entries, FitsNode, spelled_node}
use Rattle.tree_laws.specs.Stores.{EachSince, Extends, KeepsPlaces, Places}
use Rattle.tree_laws.specs.SummerTrees.{KeepsBadSum, IsUnread}
use Rattle.reduce_tree.specs.Calls.{places, IsKnown, FailsAt, GoOn, Fails, Ran, Summed, UnlessStore}
use Rattle.reduce_tree.specs.Pieces.{IsNodePiece, IsSummed}
use Rattle.reduce_tree.proofs.Since.{node_ahead, node_back, since_both, since_none, since_one}

-- the laws of a store and of a summer
pub record Laws {T S F M Sum G : Type 0} (s : Sources S F) (m : Summers M T Sum G) : Type 0 where
  pub store_steps : AreSteps s.goes
  pub store_keeps : (a b : S) → s.goes a b → KeepsPlaces (s.nodes a) (s.nodes b)
  pub store_caused : StaysCaused s.goes s.fails
  pub summer_steps : AreSteps m.goes
  pub summer_keeps : KeepsMeaning m.goes m.meaning m.lawful m.usable m.fits
  pub summer_caused : StaysCaused m.goes m.fails
  pub summer_asked : StaysNoted m.goes m.fails m.asked
  pub summer_gave : StaysNoted m.goes m.fails m.gave

pub told_on : (old new : Option Places) (there : Places) → old ≡ Some there → KeepsPlaces old new → (now : Places) × (new ≡ Some now)
told_on None new there e k = absurd (cc)
told_on (Some old) None there e k = absurd k
told_on (Some old) (Some new) there e k = (new, refl)

pub extends_places : (old new : Option Places) → KeepsPlaces old new → Extends (places old) (places new)
extends_places None new k = λ at bytes h. absurd (cc)
extends_places (Some old) None k = absurd k
extends_places (Some old) (Some new) k = k

pub told_at : (told : Option Places) (P : Places → Type 0) (there : Places) → IfSome told P → told ≡ Some there → P (places told)
told_at None P there h e = absurd (cc)
told_at (Some now) P there h e = h

-- places that were got, of which nothing is said
abbrev pub Noted : List ℕ → List ℕ → Type 0
Noted = EachSince (λ (at : ℕ). Unit {0})

pub noted_none : (a b : List ℕ) → b ≡ a → Noted a b
noted_none a b e = since_none (λ (at : ℕ). Unit {0}) a b e

pub noted_one : (at : ℕ) (a b : List ℕ) → b ≡ at ∷ a → Noted a b
noted_one at a b e = since_one (λ (at : ℕ). Unit {0}) at a b e tt

pub noted_both : (a b c : List ℕ) → Noted a b → Noted b c → Noted a c
noted_both a b c h k = since_both (λ (at : ℕ). Unit {0}) (λ (at : ℕ). Unit {0}) (λ (at : ℕ). Unit {0}) (λ at x. x) (λ at x. x) a b c h k

module _ {T S F M Sum G : Type 0} (i : Items T) (s : Sources S F) (m : Summers M T Sum G) (laws : Laws s m) where
  -- b is the store after some calls, and c after more, which left the summer as w
  nodes_on : (a b c : S) (u v w : M) → m.goes u v → ((items : List T) → m.asked u v items → m.asked u w items)
      → EachSince (IsNodePiece i m u v) (s.puts a) (s.puts b) → EachSince (IsNodePiece i m v w) (s.puts b) (s.puts c) → EachSince (IsNodePiece i m u w) (s.puts a) (s.puts c)
  nodes_on a b c u v w g later h k =
      since_both (IsNodePiece i m u v) (IsNodePiece i m v w) (IsNodePiece i m u w) (node_ahead i m u v w later) (node_back i m laws.summer_keeps u v g w laws.summer_asked) (s.puts a) (s.puts b) (s.puts c) h k

  asked_on : (u v w : M) → m.goes v w → (items : List T) → m.asked u v items → m.asked u w items
  asked_on u v w g items h = laws.summer_asked.behind u v w items h g

  pub goes_on : (a b c : S) (u v w : M) → GoOn i s m a b u v → GoOn i s m b c v w → GoOn i s m a c u w
  goes_on a b c u v w h k = record {
    store = laws.store_steps.both a b c h.store k.store;
    summer = laws.summer_steps.both u v w h.summer k.summer;
    puts = nodes_on a b c u v w h.summer (asked_on u v w k.summer) h.puts k.puts;
    gets = noted_both (s.gets a) (s.gets b) (s.gets c) h.gets k.gets;
  }

  -- a node was got
  pub goes_store : (a b : S) (u : M) (at : ℕ) → s.goes a b → s.puts b ≡ s.puts a → s.gets b ≡ at ∷ s.gets a → GoOn i s m a b u u
  goes_store a b u at h e f = record { store = h; summer = laws.summer_steps.none u; puts = since_none (IsNodePiece i m u u) (s.puts a) (s.puts b) e; gets = noted_one at (s.gets a) (s.gets b) f }

  pub goes_summer : (a : S) (u v : M) → m.goes u v → GoOn i s m a a u v
  goes_summer a u v h = record { store = laws.store_steps.none a; summer = h; puts = since_none (IsNodePiece i m u v) (s.puts a) (s.puts a) refl; gets = noted_none (s.gets a) (s.gets a) refl }

  pub goes_none : (a : S) (u : M) → GoOn i s m a a u u
  goes_none a u = goes_summer a u u (laws.summer_steps.none u)

  -- a node was put
  pub goes_put : (a b : S) (u v : M) (piece : List ℕ) (node : Node T) → s.goes a b → m.goes u v → s.puts b ≡ piece ∷ s.puts a → s.gets b ≡ s.gets a → piece ≡ spelled_node i.spelled node → FitsNode i.fits i.spelled node → entries node ≤ 32 → IsSummed i m u v node → GoOn i s m a b u v
  goes_put a b u v piece node h g e f is fits most summed = record {
    store = h;
    summer = g;
    puts = since_one (IsNodePiece i m u v) piece (s.puts a) (s.puts b) e (record { node = node; fits = fits; bytes_are = is; most = most; summed = summed });
    gets = noted_none (s.gets a) (s.gets b) f;
  }

  -- and a put failed
  pub fails_put : (a b : S) (u v : M) (fault : F) (piece : List ℕ) (node : Node T) → s.fails a b fault → m.goes u v → s.puts b ≡ piece ∷ s.puts a → s.gets b ≡ s.gets a → piece ≡ spelled_node i.spelled node → FitsNode i.fits i.spelled node → entries node ≤ 32 → IsSummed i m u v node
      → Fails i s m a b u v (tree_fault.Store fault)
  fails_put a b u v fault piece node h g e f is fits most summed = record {
    store = record { mid = a; went = laws.store_steps.none a; failed = h; call = inr (piece, e, f) };
    summer = g;
    puts = since_one (IsNodePiece i m u v) piece (s.puts a) (s.puts b) e (record { node = node; fits = fits; bytes_are = is; most = most; summed = summed });
    gets = noted_none (s.gets a) (s.gets b) f;
  }

  -- or a get did
  fails_get : (a b : S) (u : M) (at : ℕ) (fault : F) → s.fails a b fault → s.puts b ≡ s.puts a → s.gets b ≡ at ∷ s.gets a → Fails i s m a b u u (tree_fault.Store fault)
  fails_get a b u at fault h e f = record {
    store = record { mid = a; went = laws.store_steps.none a; failed = h; call = inl (at, f, e) };
    summer = laws.summer_steps.none u;
    puts = since_none (IsNodePiece i m u u) (s.puts a) (s.puts b) e;
    gets = noted_one at (s.gets a) (s.gets b) f;
  }

  -- what a store did that failed, over the whole way
  pub fails_all : (a b : S) (fault : F) → FailsAt s a b fault → s.fails a b fault
  fails_all a b fault h = laws.store_caused a h.mid b fault h.went h.failed

  unread_on : (u v : M) (bytes : List ℕ) → m.goes u v → IsUnread i m v bytes → IsUnread i m u bytes
  unread_on u v bytes g h sum fits is = h sum ((laws.summer_keeps.fits u v sum g).0 fits) (ap (λ (x : Meaning T Sum). x.spelled sum) (laws.summer_keeps.meaning u v g) ∙ is)

  unread_back : (u v : M) (bytes : List ℕ) → m.goes u v → IsUnread i m u bytes → IsUnread i m v bytes
  unread_back u v bytes g h sum fits is = h sum ((laws.summer_keeps.fits u v sum g).1 fits) (ap (λ (x : Meaning T Sum). x.spelled sum) (sym (laws.summer_keeps.meaning u v g)) ∙ is)

  -- a summary is read before a summer's calls where it is read after them
  pub bad_on : (u v : M) (node : Node T) → m.goes u v → KeepsBadSum i m v node → KeepsBadSum i m u node
  bad_on u v node g h = record { children = h.children; inner = h.inner; child = h.child; inside = h.inside; unread = unread_on u v h.child.sum g h.unread }

  pub bad_back : (u v : M) (node : Node T) → m.goes u v → KeepsBadSum i m u node → KeepsBadSum i m v node
  bad_back u v node g h = record { children = h.children; inner = h.inner; child = h.child; inside = h.inside; unread = unread_back u v h.child.sum g h.unread }

  pub fails_on : (a b c : S) (u v w : M) → GoOn i s m a b u v → (fault : TreeFault F G) → Fails i s m b c v w fault → Fails i s m a c u w fault
  fails_on a b c u v w g (tree_fault.Store fault) h = record {
    store = (let k = h.store in record { mid = k.mid; went = laws.store_steps.both a b k.mid g.store k.went; failed = k.failed; call = k.call });
    summer = laws.summer_steps.both u v w g.summer h.summer;
    puts = nodes_on a b c u v w g.summer (asked_on u v w h.summer) g.puts h.puts;
    gets = noted_both (s.gets a) (s.gets b) (s.gets c) g.gets h.gets;
  }
  fails_on a b c u v w g (tree_fault.BadNode at) h = goes_on a b c u v w g h
  fails_on a b c u v w g (tree_fault.Summer fault) h = record {
    store = laws.store_steps.both a b c g.store h.store;
    summer = laws.summer_caused u v w fault g.summer h.summer;
    puts = nodes_on a b c u v w g.summer (λ items noted. laws.summer_asked.failed u v w items fault noted h.summer) g.puts h.puts;
    gets = noted_both (s.gets a) (s.gets b) (s.gets c) g.gets h.gets;
  }
  fails_on a b c u v w g tree_fault.NoMemory h = goes_on a b c u v w g h

  pub ran_on : {X : Type 0} (a b c : S) (u v w : M) (result : Result X (TreeFault F G)) → GoOn i s m a b u v → Ran i s m b c v w result → Ran i s m a c u w result
  ran_on a b c u v w (Ok value) g h = goes_on a b c u v w g h
  ran_on a b c u v w (Err fault) g h = fails_on a b c u v w g fault h

  -- a call on the summer alone that gave up
  pub summed_fails : (X : Type 0) (a : S) (u v : M) (fault : TreeFault F G) → Summed m {X = X} {F = F} u v (Err fault) → Fails i s m a a u v fault
  summed_fails X a u v (tree_fault.Store fault) h = absurd h
  summed_fails X a u v (tree_fault.BadNode at) h = absurd h
  summed_fails X a u v (tree_fault.Summer fault) h = record { store = laws.store_steps.none a; summer = h; puts = since_none (IsNodePiece i m u v) (s.puts a) (s.puts a) refl; gets = noted_none (s.gets a) (s.gets a) refl }
  summed_fails X a u v tree_fault.NoMemory h = goes_summer a u v h

  pub fetch_fails : (a b : S) (u : M) (level count : ℕ) (fill : Fill) (at : ℕ) (fault : TreeFault F G) → s.nodes b ≡ s.nodes a → s.puts b ≡ s.puts a → s.gets b ≡ at ∷ s.gets a → FetchFails i level count fill s a b at fault → Fails i s m a b u u fault
  fetch_fails a b u level count fill at (tree_fault.Store fault) e f n h = fails_get a b u at fault h f n
  fetch_fails a b u level count fill at (tree_fault.BadNode place) e f n h = goes_store a b u at h.2 f n
  fetch_fails a b u level count fill at (tree_fault.Summer fault) e f n h = absurd h
  fetch_fails a b u level count fill at tree_fault.NoMemory e f n h = goes_store a b u at h f n

  pub known_on : (first : M) (a b : S) (u v : M) → IsKnown i s m first u a → GoOn i s m a b u v → IsKnown i s m first v b
  known_on first a b u v k g =
      let t = told_on (s.nodes a) (s.nodes b) k.there k.told (laws.store_keeps a b g.store) in
      record { goes = laws.summer_steps.both first u v k.goes g.summer; there = t.0; told = t.1 }

  pub extends_on : (a b : S) (u v : M) → GoOn i s m a b u v → Extends (places (s.nodes a)) (places (s.nodes b))
  extends_on a b u v g = extends_places (s.nodes a) (s.nodes b) (laws.store_keeps a b g.store)

  -- what the exit of a `?` returns
  pub ran_err : {X : Type 0} (a b : S) (u v : M) (q : Result X (TreeFault F G)) (fault y : TreeFault F G) → y ≡ fault → q ≡ Err y → Fails i s m a b u v fault → Ran i s m a b u v q
  ran_err a b u v q fault y e is h = rw is (rw e h)

  -- where no call on the store failed, it went on
  pub ran_goes : {X : Type 0} (a b : S) (u v : M) (q : Result X (TreeFault F G)) → Ran i s m a b u v q → UnlessStore q (s.goes a b)
  ran_goes a b u v (Ok value) h = h.store
  ran_goes a b u v (Err (tree_fault.Store fault)) h = tt
  ran_goes a b u v (Err (tree_fault.BadNode at)) h = h.store
  ran_goes a b u v (Err (tree_fault.Summer fault)) h = h.store
  ran_goes a b u v (Err tree_fault.NoMemory) h = h.store

module _ {X F G : Type 0} where
  pub unless_on : (P Q : Type 0) (q : Result X (TreeFault F G)) → (P → Q) → UnlessStore q P → UnlessStore q Q
  unless_on P Q (Ok value) f h = f h
  unless_on P Q (Err (tree_fault.Store fault)) f h = tt
  unless_on P Q (Err (tree_fault.BadNode at)) f h = f h
  unless_on P Q (Err (tree_fault.Summer fault)) f h = f h
  unless_on P Q (Err tree_fault.NoMemory) f h = f h

-- a summer's call that found no memory
pub summed_none : {T M Sum F G : Type 0} {X : Type 0} (m : Summers M T Sum G) (u v : M) (q : Result X (TreeFault F G)) (y : TreeFault F G) → y ≡ tree_fault.NoMemory → q ≡ Err y → m.goes u v → Summed m u v q
summed_none m u v q y e is h = rw is (rw e h)

pub on_err : {X E : Type 0} (q : Result X E) (P : Type 0) → P → OnErr q P
on_err (Ok value) P h = tt
on_err (Err fault) P h = h
