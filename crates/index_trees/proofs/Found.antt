-- Over a tree something stands at each place that a call gets.
use Rattle.std.proofs.Common.{◌≡◌, ◌⊎◌, ℕ, zero, suc, List, ◌∷◌, Some, Result, Ok, Err, refl, ap, sym, ◌∙◌, subst, inl, inr}
use Rattle.tree_laws.specs.declared.item.Item.{Ghosts as Items}
use Rattle.tree_laws.specs.declared.store.NodeSource.{Ghosts as Sources}
use Rattle.tree_laws.specs.declared.summer.Summer.{Ghosts as Summers}
use Rattle.tree_laws.specs.declared.tree.Fill.{Fill}
use Rattle.tree_laws.specs.declared.tree.Tree.{Tree}
use Rattle.tree_laws.specs.declared.tree.TreeFault.{TreeFault}
use Rattle.tree_laws.specs.declared.tree.TreeFault.TheVariants as tree_fault
use Rattle.tree_laws.specs.Meaning.{Values}
use Rattle.tree_laws.specs.Nodes.{spelled_node}
use Rattle.tree_laws.specs.Reaching.{GoesSoFar, HasNode, IsFaulty, IsReached, Reaches, StopsAt, StopsShort}
use Rattle.tree_laws.specs.Reaching.IsFaulty.{unfit, unread}
use Rattle.tree_laws.specs.Spelled.{IsSpelledOnce}
use Rattle.tree_laws.specs.Stores.{EachSince, Extends, KeepsPlaces, Places}
use Rattle.tree_laws.specs.Trees.{IsTree}
use Rattle.tree_laws.proofs.Reached.{reached_fits}
use Rattle.tree_laws.proofs.Structure.{same_sums, tree_passes}
use Rattle.tree_query.specs.Calls as reading
use Rattle.reduce_tree.specs.Calls.{places, UnlessStore}
use Rattle.reduce_tree.specs.Given.{IsTaken, LeadsTo, MayGet, Takes}
use Rattle.reduce_tree.proofs.Since.{since_both, since_none, since_one, since_weaker}
use Rattle.index_trees.specs.Exchanges.{GotFound, GotThere, HasBytes}
use Rattle.index_trees.proofs.Sequences.{StoreLaws, extends_then, told_then}

-- ---- places that were got

pub got_none : (there : Places) (gets : List ℕ) → GotThere there gets gets
got_none there gets = since_none (HasBytes there) gets gets refl

got_both : (there : Places) (a b c : List ℕ) → GotThere there a b → GotThere there b c → GotThere there a c
got_both there a b c = since_both (HasBytes there) (HasBytes there) (HasBytes there) (λ at h. h) (λ at h. h) a b c

got_wider : (old new : Places) → Extends old new → (a b : List ℕ) → GotThere old a b → GotThere new a b
got_wider old new e a b = since_weaker (HasBytes old) (HasBytes new) (λ at h. (h.0, e at h.0 h.1)) a b

-- where something stands at the good places, and at those that may be got
module _ (there : Places) (May Good : ℕ → Type 0) (may : (at : ℕ) → May at → HasBytes there at) (good : (at : ℕ) → Good at → HasBytes there at) (a b : List ℕ) where
  good_there : EachSince Good a b → GotThere there a b
  good_there each = since_weaker Good (HasBytes there) good a b each

  stop_there : (at : ℕ) → StopsAt Good a b at → HasBytes there at → GotThere there a b
  stop_there at stops own = since_both Good (HasBytes there) (HasBytes there) good (λ p h. h) a stops.before b stops.good (since_one (HasBytes there) at stops.before b stops.last own)

  short_there : StopsShort May Good a b → GotThere there a b
  short_there short = stop_there short.at short.stops (may short.at short.may)

  so_far_there : GoesSoFar May Good a b → GotThere there a b
  so_far_there (inl each) = good_there each
  so_far_there (inr short) = short_there short

-- ---- calls one after another

module _ {S F : Type 0} (n : Sources S F) (laws : StoreLaws n) (a b c : S) (went : n.goes a b) (got : GotThere (places (n.nodes b)) (n.gets a) (n.gets b)) where
  got_later : KeepsPlaces (n.nodes b) (n.nodes c) → GotThere (places (n.nodes c)) (n.gets b) (n.gets c) → GotThere (places (n.nodes c)) (n.gets a) (n.gets c)
  got_later keeps later =
      got_both (places (n.nodes c)) (n.gets a) (n.gets b) (n.gets c)
      (got_wider (places (n.nodes b)) (places (n.nodes c)) (extends_then (n.nodes b) (n.nodes c) keeps) (n.gets a) (n.gets b) got) later

  pub found_then : {X G : Type 0} (result : Result X (TreeFault F G)) → UnlessStore result (KeepsPlaces (n.nodes b) (n.nodes c)) → GotFound n b c result → GotFound n a c result
  found_then (Ok value) keeps h = got_later keeps h
  found_then (Err (tree_fault.Store fault)) keeps h = record {
    mid = h.mid;
    went = laws.steps.both a b h.mid went h.went;
    failed = h.failed;
    call = h.call;
    found =
        let there = places (n.nodes h.mid) in
        got_both there (n.gets a) (n.gets b) (n.gets c) (got_wider (places (n.nodes b)) there (extends_then (n.nodes b) (n.nodes h.mid) (laws.keeps b h.mid h.went)) (n.gets a) (n.gets b) got) h.found;
  }
  found_then (Err (tree_fault.BadNode at)) keeps h = got_later keeps h
  found_then (Err (tree_fault.Summer fault)) keeps h = got_later keeps h
  found_then (Err tree_fault.NoMemory) keeps h = got_later keeps h

module _ {S F : Type 0} (X Y : Type 0) (n : Sources S F) (a b : S) where
  -- the same refusal of another answer
  pub found_other : {G : Type 0} (fault : TreeFault F G) → GotFound n {X = X} a b (Err fault) → GotFound n {X = Y} a b (Err fault)
  found_other (tree_fault.Store fault) h = h
  found_other (tree_fault.BadNode at) h = h
  found_other (tree_fault.Summer fault) h = h
  found_other tree_fault.NoMemory h = h

-- ---- calls on a tree

module _ {T : Type 0} (i : Items T) (there : Places) (tree : Tree) where
  has_node : (at : ℕ) → HasNode i there tree at → HasBytes there at
  has_node at h = (spelled_node i.spelled h.node, h.met.stands.bytes)

  faulty_there : {V : Type 0} (v : Values T V) (at : ℕ) → IsFaulty i v there tree at → HasBytes there at
  faulty_there v at (unfit u) = (u.bad.bytes, u.bad.stand)
  faulty_there v at (unread u) = (spelled_node i.spelled u.node, u.met.stands.bytes)

  -- over a tree
  module _ {V : Type 0} (v : Values T V) (once : IsSpelledOnce i.fits i.spelled) (items : List T) (is : IsTree i v there tree items) where
    reached_there : (at level count : ℕ) (fill : Fill) → Reaches i there tree at level count fill → HasBytes there at
    reached_there at level count fill h = let own = reached_fits i v there once tree items is at level count fill h in (spelled_node i.spelled own.0, own.1.bytes)

    is_reached : (at : ℕ) → IsReached i there tree at → HasBytes there at
    is_reached at h = reached_there at h.level h.count h.fill h.reached

    -- by a call that may have put nodes itself
    module _ {M Sum G : Type 0} (m : Summers M T Sum G) (first : M) (old new : List (List ℕ)) where
      leads_there : (level at count : ℕ) (fill : Fill) → LeadsTo i m first there old new tree level at count fill → HasBytes there at
      leads_there zero at count fill (inl h) = reached_there at zero count fill h
      leads_there zero at count fill (inr h) = (spelled_node i.spelled h.node, h.stands.bytes)
      leads_there (suc level) at count fill (inl h) = reached_there at (suc level) count fill h
      leads_there (suc level) at count fill (inr h) = (spelled_node i.spelled h.node, h.stands.bytes)

      may_get : (at : ℕ) → MayGet i m first there old new tree at → HasBytes there at
      may_get at h = leads_there h.level at h.count h.fill h.leads

      is_taken : (at : ℕ) → IsTaken i m first there old new tree at → HasBytes there at
      is_taken at h = (spelled_node i.spelled h.node, h.stands.bytes)

-- the store tells what stands there, and the tree has these items
module _ {T V S F : Type 0} (i : Items T) (v : Values T V) (once : IsSpelledOnce i.fits i.spelled) (n : Sources S F) (laws : StoreLaws n) (tree : Tree) (there : Places) (items : List T) (old new : S) (told : n.nodes old ≡ Some there) (is : IsTree i v there tree items) where
  later_tree : (s : S) → KeepsPlaces (n.nodes old) (n.nodes s) → IsTree i v (places (n.nodes s)) tree items
  later_tree s keeps = tree_passes i v v (same_sums v) there (places (n.nodes s)) (told_then (n.nodes old) (n.nodes s) there told keeps).1 tree items is

  module _ {M Sum G : Type 0} (m : Summers M T Sum G) (first : M) (pieces : List (List ℕ)) where
    abbrev May : S → ℕ → Type 0
    May s = MayGet i m first (places (n.nodes s)) pieces (n.puts new) tree

    abbrev Good : S → ℕ → Type 0
    Good s = IsTaken i m first (places (n.nodes s)) pieces (n.puts new) tree

    -- what the call took of what it got, by what stood there then
    so_far : (s : S) → KeepsPlaces (n.nodes old) (n.nodes s) → GoesSoFar (May s) (Good s) (n.gets old) (n.gets new) → GotThere (places (n.nodes s)) (n.gets old) (n.gets new)
    so_far s keeps h =
        let p = places (n.nodes s) in
        let here = later_tree s keeps in
        so_far_there p (May s) (Good s) (may_get i p tree v once items here m first pieces (n.puts new)) (is_taken i p tree v once items here m first pieces (n.puts new)) (n.gets old) (n.gets new) h

    stopped : KeepsPlaces (n.nodes old) (n.nodes new) → (at : ℕ) → StopsAt (Good new) (n.gets old) (n.gets new) at → HasBytes (places (n.nodes new)) at → GotThere (places (n.nodes new)) (n.gets old) (n.gets new)
    stopped keeps at h own =
        let p = places (n.nodes new) in
        let here = later_tree new keeps in
        stop_there p (May new) (Good new) (may_get i p tree v once items here m first pieces (n.puts new)) (is_taken i p tree v once items here m first pieces (n.puts new)) (n.gets old) (n.gets new) at h own

    one_call : (s : S) → ((at : ℕ) × (n.gets new ≡ at ∷ n.gets s) × (n.puts new ≡ n.puts s)) ⊎ ((piece : List ℕ) × (n.puts new ≡ piece ∷ n.puts s) × (n.gets new ≡ n.gets s))
        → (n.puts new ≡ n.puts s) ⊎ ((piece : List ℕ) × (n.puts new ≡ piece ∷ n.puts s) × (n.gets new ≡ n.gets s))
    one_call s (inl h) = inl h.2
    one_call s (inr h) = inr h

    pub takes_found : {X : Type 0} (result : Result X (TreeFault F G)) → UnlessStore result (KeepsPlaces (n.nodes old) (n.nodes new)) → Takes i n m first tree pieces old new result → GotFound n old new result
    takes_found (Ok value) keeps h = so_far new keeps (inl h)
    takes_found (Err (tree_fault.Store fault)) keeps h = record {
      mid = h.fails.mid;
      went = h.fails.went;
      failed = h.fails.failed;
      call = one_call h.fails.mid h.fails.call;
      found = so_far h.fails.mid (laws.keeps old h.fails.mid h.fails.went) h.stood;
    }
    takes_found (Err (tree_fault.BadNode at)) keeps h = stopped keeps at h.1 (faulty_there i (places (n.nodes new)) tree _ at h.0)
    takes_found (Err (tree_fault.Summer fault)) keeps h = so_far new keeps (inl h)
    takes_found (Err tree_fault.NoMemory) keeps h = so_far new keeps h

  -- ---- calls that only read

  module _ (nodes : n.nodes new ≡ n.nodes old) (puts : n.puts new ≡ n.puts old) where
    abbrev Reached : ℕ → Type 0
    Reached = IsReached i there tree

    abbrev HasOne : ℕ → Type 0
    HasOne = HasNode i there tree

    to_new : GotThere there (n.gets old) (n.gets new) → GotThere (places (n.nodes new)) (n.gets old) (n.gets new)
    to_new h = subst (λ p. GotThere p (n.gets old) (n.gets new)) (sym (ap places nodes ∙ ap places told)) h

    pub reads_found : reading.WentOver i n tree old new → GotThere (places (n.nodes new)) (n.gets old) (n.gets new)
    reads_found h = to_new (good_there there Reached HasOne (is_reached i there tree v once items is) (has_node i there tree) (n.gets old) (n.gets new) (h.got there told))

    pub fails_found : {M : Type 0} (X : Type 0) (fault : TreeFault F M) → reading.Fails i n tree old new fault → GotFound n {X = X} old new (Err fault)
    fails_found X (tree_fault.Store fault) h = record {
      mid = old;
      went = laws.steps.none old;
      failed = h.0;
      call = inl puts;
      found =
          subst (λ p. GotThere p (n.gets old) (n.gets new)) (sym (ap places told))
          (short_there there Reached HasOne (is_reached i there tree v once items is) (has_node i there tree) (n.gets old) (n.gets new) (h.1 there told));
    }
    fails_found X (tree_fault.BadNode at) h =
        let bad = h.1 there told in
        to_new (stop_there there Reached HasOne (is_reached i there tree v once items is) (has_node i there tree) (n.gets old) (n.gets new) at bad.1 (faulty_there i there tree v at (unfit bad.0)))
    fails_found X (tree_fault.Summer fault) h = absurd h
    fails_found X tree_fault.NoMemory h = to_new (so_far_there there Reached HasOne (is_reached i there tree v once items is) (has_node i there tree) (n.gets old) (n.gets new) (h.1 there told))
