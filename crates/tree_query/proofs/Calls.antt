-- How calls that come one after another are one.
use Rattle.std.proofs.Common.{◌≡◌, ◌∷◌, ℕ, List, Option, Some, Result, Ok, Err, IfSome, sym, ◌∙◌, subst, inl, inr}
use Rattle.tree_laws.specs.declared.item.Item.{Ghosts as Items}
use Rattle.tree_laws.specs.declared.store.NodeSource.{Ghosts as Sources}
use Rattle.tree_laws.specs.declared.node.Node.{Node}
use Rattle.tree_laws.specs.declared.tree.Fill.{Fill}
use Rattle.tree_laws.specs.declared.tree.Tree.{Tree}
use Rattle.tree_laws.specs.declared.tree.TreeFault.{TreeFault}
use Rattle.tree_laws.specs.declared.tree.TreeFault.TheVariants as tree_fault
use Rattle.tree_laws.specs.Fetching.{FetchFails, IsBadAt}
use Rattle.tree_laws.specs.Meaning.{AreSteps, StaysCaused}
use Rattle.tree_laws.specs.Reaching.{GoesSoFar, HasNode, IsReached, IsUnfit, Reaches, StandsFit, StopsAt, StopsShort}
use Rattle.tree_laws.specs.Stores.{EachSince, Places, WhereTold}
use Rattle.tree_query.specs.Calls.{Caused, Fails, IsCaused, Ran, WentOver}
use Rattle.tree_query.specs.Leading.{Blames}
use Rattle.tree_query.proofs.Since.{each_none, each_on, each_one}

-- the laws of a source
pub record Laws {S F : Type 0} (s : Sources S F) : Type 0 where
  pub steps : AreSteps s.goes
  pub caused : StaysCaused s.goes s.fails

pub told_at : (told : Option Places) (P : Places → Type 0) → IfSome told P → WhereTold told P
told_at told P h there e = subst (λ o. IfSome o P) e h

pub told_same : (told : Option Places) (a b : Places) → told ≡ Some a → told ≡ Some b → a ≡ b
told_same told a b e f = let both : Some a ≡ Some b = sym e ∙ f in cc

-- what a call left of the store
module _ {S F : Type 0} (s : Sources S F) (laws : Laws s) where
  pub caused_on : {M : Type 0} (a b c : S) (fault : TreeFault F M) → s.goes a b → IsCaused s b c fault → IsCaused s a c fault
  caused_on a b c (tree_fault.Store fault) g h = laws.caused a b c fault g h
  caused_on a b c (tree_fault.BadNode at) g h = laws.steps.both a b c g h
  caused_on a b c (tree_fault.Summer fault) g h = absurd h
  caused_on a b c tree_fault.NoMemory g h = laws.steps.both a b c g h

  pub call_caused_on : {X M : Type 0} (a b c : S) (result : Result X (TreeFault F M)) → s.goes a b → Caused s b c result → Caused s a c result
  call_caused_on a b c (Ok value) g h = laws.steps.both a b c g h
  call_caused_on a b c (Err fault) g h = caused_on a b c fault g h

  -- what the exit of a `?` returns
  pub caused_err : {X M : Type 0} (a b : S) (q : Result X (TreeFault F M)) (fault y : TreeFault F M) → y ≡ fault → q ≡ Err y → IsCaused s a b fault → Caused s a b q
  caused_err a b q fault y e is h = rw is (rw e h)

-- a node that wasn't got
module _ {T S F : Type 0} (i : Items T) (s : Sources S F) where
  pub fetch_caused : {M : Type 0} (a b : S) (level count : ℕ) (fill : Fill) (at : ℕ) (fault : TreeFault F M) → FetchFails i level count fill s a b at fault → IsCaused s a b fault
  fetch_caused a b level count fill at (tree_fault.Store fault) h = h
  fetch_caused a b level count fill at (tree_fault.BadNode place) h = h.2
  fetch_caused a b level count fill at (tree_fault.Summer fault) h = absurd h
  fetch_caused a b level count fill at tree_fault.NoMemory h = h

  pub fetch_blames : {M : Type 0} (a b : S) (there : Places) (level count : ℕ) (fill : Fill) (at : ℕ) (fault : TreeFault F M) → s.nodes a ≡ Some there → FetchFails i level count fill s a b at fault
      → Blames (λ place. (place ≡ at) × IsBadAt i level count fill there at) fault
  fetch_blames a b there level count fill at (tree_fault.Store fault) told h = tt
  fetch_blames a b there level count fill at (tree_fault.BadNode place) told h = (h.0, told_at (s.nodes a) (λ there. IsBadAt i level count fill there at) h.1 there told)
  fetch_blames a b there level count fill at (tree_fault.Summer fault) told h = tt
  fetch_blames a b there level count fill at tree_fault.NoMemory told h = tt

-- where a call stopped
module _ {T : Type 0} (i : Items T) (there : Places) (tree : Tree) where
  pub stops_one : (at : ℕ) (old new : List ℕ) → new ≡ at ∷ old → StopsAt (HasNode i there tree) old new at
  stops_one at old new e = record { before = old; last = e; good = each_none (HasNode i there tree) old }

  pub stops_on : (at : ℕ) (a b c : List ℕ) → EachSince (HasNode i there tree) a b → StopsAt (HasNode i there tree) b c at → StopsAt (HasNode i there tree) a c at
  stops_on at a b c h k = record { before = k.before; last = k.last; good = each_on (HasNode i there tree) a b k.before h k.good }

  pub short_on : (a b c : List ℕ) → EachSince (HasNode i there tree) a b → StopsShort (IsReached i there tree) (HasNode i there tree) b c → StopsShort (IsReached i there tree) (HasNode i there tree) a c
  short_on a b c h k = record { at = k.at; may = k.may; stops = stops_on k.at a b c h k.stops }

  pub some_on : (a b c : List ℕ) → EachSince (HasNode i there tree) a b → GoesSoFar (IsReached i there tree) (HasNode i there tree) b c → GoesSoFar (IsReached i there tree) (HasNode i there tree) a c
  some_on a b c h (inl k) = inl (each_on (HasNode i there tree) a b c h k)
  some_on a b c h (inr k) = inr (short_on a b c h k)

module _ {T S F : Type 0} (i : Items T) (s : Sources S F) (laws : Laws s) (tree : Tree) where
  pub went_none : (a : S) → WentOver i s tree a a
  went_none a = record { goes = laws.steps.none a; got = λ there told. each_none (HasNode i there tree) (s.gets a) }

  pub went_on : (a b c : S) → s.nodes b ≡ s.nodes a → WentOver i s tree a b → WentOver i s tree b c → WentOver i s tree a c
  went_on a b c e h k = record {
    goes = laws.steps.both a b c h.goes k.goes;
    got = λ there told. each_on (HasNode i there tree) (s.gets a) (s.gets b) (s.gets c) (h.got there told) (k.got there (e ∙ told));
  }

  pub fails_on : (M : Type 0) (a b c : S) (fault : TreeFault F M) → s.nodes b ≡ s.nodes a → WentOver i s tree a b → Fails i s tree b c fault → Fails i s tree a c fault
  fails_on M a b c (tree_fault.Store fault) e g h = (laws.caused a b c fault g.goes h.0, (λ there told. short_on i there tree (s.gets a) (s.gets b) (s.gets c) (g.got there told) (h.1 there (e ∙ told))))
  fails_on M a b c (tree_fault.BadNode at) e g h = (
    laws.steps.both a b c g.goes h.0,
    (λ there told.
        let k = h.1 there (e ∙ told) in
        (k.0, stops_on i there tree at (s.gets a) (s.gets b) (s.gets c) (g.got there told) k.1)),
  )
  fails_on M a b c (tree_fault.Summer fault) e g h = absurd h
  fails_on M a b c tree_fault.NoMemory e g h = (laws.steps.both a b c g.goes h.0, (λ there told. some_on i there tree (s.gets a) (s.gets b) (s.gets c) (g.got there told) (h.1 there (e ∙ told))))

  -- memory ran out before anything was got
  pub no_memory : (a : S) → Fails i s tree {M = Unit {0}} a a tree_fault.NoMemory
  no_memory a = (laws.steps.none a, (λ there told. inl (each_none (HasNode i there tree) (s.gets a))))

  pub ran_on : (X M : Type 0) (a b c : S) (result : Result X (TreeFault F M)) → s.nodes b ≡ s.nodes a → WentOver i s tree a b → Ran i s tree b c result → Ran i s tree a c result
  ran_on X M a b c (Ok value) e g h = went_on a b c e g h
  ran_on X M a b c (Err fault) e g h = fails_on M a b c fault e g h

  -- memory ran out after nodes that fit
  pub went_no_memory : (a b : S) → WentOver i s tree a b → Fails i s tree {M = Unit {0}} a b tree_fault.NoMemory
  went_no_memory a b g = (g.goes, (λ there told. inl (g.got there told)))

  -- what the exit of a `?` returns
  pub ran_err : (X M : Type 0) (a b : S) (q : Result X (TreeFault F M)) (fault y : TreeFault F M) → y ≡ fault → q ≡ Err y → Fails i s tree a b fault → Ran i s tree a b q
  ran_err X M a b q fault y e is h = rw is (rw e h)

  -- a place that is bad, where the call answers so
  pub ran_bad : (X M : Type 0) (a b : S) (there : Places) (result : Result X (TreeFault F M)) (at : ℕ) → Ran i s tree a b result → s.nodes a ≡ Some there → result ≡ Err (tree_fault.BadNode at) → IsUnfit i there tree at
  ran_bad X M a b there result at h told e = let says : Fails i s tree {M = M} a b (tree_fault.BadNode at) = subst (λ (r : Result X (TreeFault F M)). Ran i s tree a b r) e h in (says.1 there told).0

  -- ---- a node at a place that is reached

  pub fetch_went : (a b : S) (level count : ℕ) (fill : Fill) (at : ℕ) (node : Node T) → s.gets b ≡ at ∷ s.gets a → s.goes a b → WhereTold (s.nodes a) (λ there. Reaches i there tree at level count fill)
      → WhereTold (s.nodes a) (λ there. StandsFit i there at level count fill node) → WentOver i s tree a b
  fetch_went a b level count fill at node e g r h = record {
    goes = g;
    got = λ there told. each_one (HasNode i there tree) at (s.gets a) (s.gets b) e (record { level = level; node = node; met = record { count = count; fill = fill; reached = r there told; stands = h there told } });
  }

  short_one : (a b : S) (level count : ℕ) (fill : Fill) (at : ℕ) → s.gets b ≡ at ∷ s.gets a → WhereTold (s.nodes a) (λ there. Reaches i there tree at level count fill) → WhereTold (s.nodes a) (λ there. StopsShort (IsReached i there tree) (HasNode i there tree) (s.gets a) (s.gets b))
  short_one a b level count fill at e r there told = record { at = at; may = record { level = level; count = count; fill = fill; reached = r there told }; stops = stops_one i there tree at (s.gets a) (s.gets b) e }

  pub fetch_fails : (M : Type 0) (a b : S) (level count : ℕ) (fill : Fill) (at : ℕ) (fault : TreeFault F M) → s.gets b ≡ at ∷ s.gets a → WhereTold (s.nodes a) (λ there. Reaches i there tree at level count fill)
      → FetchFails i level count fill s a b at fault → Fails i s tree a b fault
  fetch_fails M a b level count fill at (tree_fault.Store fault) e r h = (h, short_one a b level count fill at e r)
  fetch_fails M a b level count fill at (tree_fault.BadNode place) e r h = (
    h.2,
    (λ there told. (
      record {
        level = level;
        count = count;
        fill = fill;
        reached = subst (λ p. Reaches i there tree p level count fill) (sym h.0) (r there told);
        bad = subst (λ p. IsBadAt i level count fill there p) (sym h.0) (told_at (s.nodes a) (λ there. IsBadAt i level count fill there at) h.1 there told);
      },
      stops_one i there tree place (s.gets a) (s.gets b) (subst (λ p. s.gets b ≡ p ∷ s.gets a) (sym h.0) e),
    )),
  )
  fetch_fails M a b level count fill at (tree_fault.Summer fault) e r h = absurd h
  fetch_fails M a b level count fill at tree_fault.NoMemory e r h = (h, (λ there told. inr (short_one a b level count fill at e r there told)))
