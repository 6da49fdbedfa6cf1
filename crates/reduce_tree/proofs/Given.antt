-- What entries lead to, over calls one after another.
use Rattle.std.proofs.Common.{◌≡◌, ◌⊎◌, inl, inr, ℕ, zero, suc, ◌-◌, ◌<◌, List, Some, ◌∷◌, ◌++◌, All, Contains, IfSome, Result, Err, refl, sym, ap, ◌∙◌, append_assoc, subst, arith}
use Rattle.std.proofs.lemmas.List.Elements.{All-append, All-contains, All-contains_itself, All-weaker, Contains-append_right}
use Rattle.tree_laws.specs.declared.item.Item.{Ghosts as Items}
use Rattle.tree_laws.specs.declared.store.NodeSource.{Ghosts as Sources}
use Rattle.tree_laws.specs.declared.summer.Summer.{Ghosts as Summers}
use Rattle.tree_laws.specs.declared.node.Child.{Child}
use Rattle.tree_laws.specs.declared.node.Node.{Node}
use Rattle.tree_laws.specs.declared.node.Node.TheVariants.{Leaf, Inner}
use Rattle.tree_laws.specs.declared.tree.Fill.{Fill}
use Rattle.tree_laws.specs.declared.tree.Fill.TheVariants.{Below, Root}
use Rattle.tree_laws.specs.declared.tree.Tree.{Tree}
use Rattle.tree_laws.specs.declared.tree.TreeFault.{TreeFault}
use Rattle.tree_laws.specs.declared.tree.TreeFault.TheVariants as tree_fault
use Rattle.tree_laws.specs.Fetching.{FetchFails, IsBadAt}
use Rattle.tree_laws.specs.Fitting.{AreLarge, IsFilled, IsFitFor, item_count}
use Rattle.tree_laws.specs.Nodes.{FitsNode, spelled_node}
use Rattle.tree_laws.specs.Reaching.{GoesSoFar, IsFaulty, Reaches, StandsFit, StopsAt, root, below, unfit, unread}
use Rattle.tree_laws.specs.Spelled.{IsSpelledOnce}
use Rattle.tree_laws.specs.Stores.{EachSince, Extends, IsSince, Places}
use Rattle.tree_laws.specs.Values.{values_of}
use Rattle.tree_laws.specs.SummerTrees.{KeepsBadSum}
use Rattle.reduce_tree.specs.Calls.{places, BlamesNone, Fails, GoOn}
use Rattle.reduce_tree.specs.Given.{AreEach, AreGiven, GotSoFar, Halts, IsGiven, IsOwnNode, IsTaken, IsUnderWay, LeadsTo, Leads, MayGet, Given, AllGiven, Took}
use Rattle.reduce_tree.specs.Rows.{IsAtLevel, IsSplit}
use Rattle.reduce_tree.specs.Pieces.{IsNodePiece, IsSummed, IsSumSpelled}
use Rattle.reduce_tree.proofs.Calls.{Laws, bad_back, bad_on, extends_on, extends_places, goes_none, known_on, told_at}
use Rattle.reduce_tree.proofs.Quiet.{all_back, all_front}
use Rattle.reduce_tree.proofs.Since.{since_both, since_none, since_one}

module _ {X : Type 0} where
  since_later : (P : X → Type 0) (x : X) (a b c : List X) → IsSince x a b → EachSince P b c → IsSince x a c
  since_later P x a b c h k = (k.0 ++ h.0, k.1 ∙ ap (λ t. k.0 ++ t) h.1 ∙ sym (append_assoc k.0 h.0 a), Contains-append_right k.0 h.0 x h.2)

module _ {T : Type 0} (i : Items T) (n0 n1 : Places) (e01 : Extends n0 n1) where
  fit_stays : (at level count : ℕ) (fill : Fill) (node : Node T) → StandsFit i n0 at level count fill node → StandsFit i n1 at level count fill node
  fit_stays at level count fill node h = record { fits = h.fits; bytes = e01 at (spelled_node i.spelled node) h.bytes; place = h.place }

  reaches_stays : (tree : Tree) (at level count : ℕ) (fill : Fill) → Reaches i n0 tree at level count fill → Reaches i n1 tree at level count fill
  reaches_stays tree at level count fill (root some) = root some
  reaches_stays tree at level count fill (below above up more full children child h stands inside) = below above up more full children child (reaches_stays tree above (suc up) more full h) (fit_stays above (suc up) more full (Inner children) stands) inside

module _ {T : Type 0} where
  each_weaker : (P Q : Child T → Type 0) → ((c : Child T) → P c → Q c) → (node : Node T) → AreEach P node → AreEach Q node
  each_weaker P Q f (Leaf xs) h = tt
  each_weaker P Q f (Inner cs) h = All-weaker P Q f cs h

  -- of a node cut in two
  pub each_split : (P : Child T → Type 0) (node left right : Node T) → IsSplit node left right → AreEach P node → AreEach P left × AreEach P right
  each_split P (Leaf xs) (Leaf ys) (Leaf zs) e h = (tt, tt)
  each_split P (Inner xs) (Inner ys) (Inner zs) e h = let all = subst (All P) e h in (all_front P ys zs all, all_back P ys zs all)
  each_split P (Leaf xs) (Leaf ys) (Inner zs) e h = absurd e
  each_split P (Leaf xs) (Inner ys) right e h = absurd e
  each_split P (Inner xs) (Leaf ys) right e h = absurd e
  each_split P (Inner xs) (Inner ys) (Leaf zs) e h = absurd e

  pub each_join : (P : Child T → Type 0) (node left right : Node T) → IsSplit node left right → AreEach P left → AreEach P right → AreEach P node
  each_join P (Leaf xs) (Leaf ys) (Leaf zs) e h k = tt
  each_join P (Inner xs) (Inner ys) (Inner zs) e h k = subst (All P) (sym e) (All-append P ys zs h k)
  each_join P (Leaf xs) (Leaf ys) (Inner zs) e h k = absurd e
  each_join P (Leaf xs) (Inner ys) right e h k = absurd e
  each_join P (Inner xs) (Leaf ys) right e h k = absurd e
  each_join P (Inner xs) (Inner ys) (Leaf zs) e h k = absurd e

module _ {T M Sum G : Type 0} (i : Items T) (m : Summers M T Sum G) (first : M) (tree : Tree) (pieces : List (List ℕ)) where
  -- more stands at n1, and more pieces were put
  module _ (n0 n1 : Places) (e01 : Extends n0 n1) (old new : List (List ℕ)) (P : List ℕ → Type 0) (more : EachSince P old new) where
    own_node_stays : (A B : Child T → Type 0) → ((c : Child T) → A c → B c) → (at level count : ℕ) (fill : Fill) → IsOwnNode i m first n0 pieces old A at level count fill → IsOwnNode i m first n1 pieces new B at level count fill
    own_node_stays A B f at level count fill h = record {
      node = h.node;
      stands = fit_stays i n0 n1 e01 at level count fill h.node h.stands;
      read = h.read;
      since = since_later P (spelled_node i.spelled h.node) pieces old new h.since more;
      entries = each_weaker A B f h.node h.entries;
    }

    pub leads_stays : (level at count : ℕ) (fill : Fill) → LeadsTo i m first n0 pieces old tree level at count fill → LeadsTo i m first n1 pieces new tree level at count fill
    leads_stays zero at count fill (inl h) = inl (reaches_stays i n0 n1 e01 tree at zero count fill h)
    leads_stays zero at count fill (inr h) = inr (own_node_stays (λ c. Unit {0}) (λ c. Unit {0}) (λ c u. u) at zero count fill h)
    leads_stays (suc level) at count fill (inl h) = inl (reaches_stays i n0 n1 e01 tree at (suc level) count fill h)
    leads_stays (suc level) at count fill (inr h) = inr (own_node_stays (λ c. LeadsTo i m first n0 pieces old tree level c.at c.count Below) (λ c. LeadsTo i m first n1 pieces new tree level c.at c.count Below) (λ c k. leads_stays level c.at c.count Below k) at (suc level) count fill h)

    pub given_stays : (level : ℕ) (c : Child T) → IsGiven i m first n0 pieces old tree level c → IsGiven i m first n1 pieces new tree level c
    given_stays level c h = leads_stays level c.at c.count Below h

    pub all_stay : (level : ℕ) (cs : List (Child T)) → All (IsGiven i m first n0 pieces old tree level) cs → All (IsGiven i m first n1 pieces new tree level) cs
    all_stay level cs h = All-weaker (IsGiven i m first n0 pieces old tree level) (IsGiven i m first n1 pieces new tree level) (given_stays level) cs h

    pub row_stays : (level : ℕ) (node : Node T) → AreGiven i m first n0 pieces old tree level node → AreGiven i m first n1 pieces new tree level node
    row_stays level node h = each_weaker (IsGiven i m first n0 pieces old tree (level - 1)) (IsGiven i m first n1 pieces new tree (level - 1)) (given_stays (level - 1)) node h

    pub taken_stays : (at : ℕ) → IsTaken i m first n0 pieces old tree at → IsTaken i m first n1 pieces new tree at
    taken_stays at h = record {
      level = h.level;
      count = h.count;
      fill = h.fill;
      leads = leads_stays h.level at h.count h.fill h.leads;
      node = h.node;
      stands = fit_stays i n0 n1 e01 at h.level h.count h.fill h.node h.stands;
      read = h.read;
    }

  module _ (there : Places) (now : List (List ℕ)) where
    -- a place that is reached
    pub reached : (level at count : ℕ) (fill : Fill) → Reaches i there tree at level count fill → LeadsTo i m first there pieces now tree level at count fill
    reached zero at count fill h = inl h
    reached (suc level) at count fill h = inl h

    -- a node that the call put
    own_given : (level at count : ℕ) (node : Node T) → StandsFit i there at level count Below node → (KeepsBadSum i m first node → ⊥) → IsSince (spelled_node i.spelled node) pieces now → AreGiven i m first there pieces now tree level node
        → LeadsTo i m first there pieces now tree level at count Below
    own_given zero at count node stands read since entries = inr (record { node = node; stands = stands; read = read; since = since; entries = each_weaker (IsGiven i m first there pieces now tree (0 - 1)) (λ d. Unit {0}) (λ d h. tt) node entries })
    own_given (suc level) at count node stands read since entries =
        let l : suc level - 1 ≡ level = omega arith in
        inr (record { node = node; stands = stands; read = read; since = since; entries = subst (λ n. AreEach (IsGiven i m first there pieces now tree n) node) l entries })

    -- one of the two
    parts : (level at count : ℕ) (fill : Fill) → LeadsTo i m first there pieces now tree level at count fill → Reaches i there tree at level count fill ⊎ IsOwnNode i m first there pieces now (λ c. Unit {0}) at level count fill
    parts zero at count fill h = h
    parts (suc level) at count fill (inl h) = inl h
    parts (suc level) at count fill (inr h) = inr (record { node = h.node; stands = h.stands; read = h.read; since = h.since; entries = each_weaker (λ c. LeadsTo i m first there pieces now tree level c.at c.count Below) (λ c. Unit {0}) (λ c k. tt) h.node h.entries })

    -- ---- a node that was got

    pub got_taken : (level at count : ℕ) (fill : Fill) (node : Node T) → LeadsTo i m first there pieces now tree level at count fill → StandsFit i there at level count fill node → (KeepsBadSum i m first node → ⊥) → IsTaken i m first there pieces now tree at
    got_taken level at count fill node h stands read = record { level = level; count = count; fill = fill; leads = h; node = node; stands = stands; read = read }

    -- it may be got
    pub got_may : (level at count : ℕ) (fill : Fill) → LeadsTo i m first there pieces now tree level at count fill → MayGet i m first there pieces now tree at
    got_may level at count fill h = record { level = level; count = count; fill = fill; leads = h }

    -- no node that the call put is blamed
    pub got_bad : (level at count : ℕ) (fill : Fill) → LeadsTo i m first there pieces now tree level at count fill → IsBadAt i level count fill there at → IsFaulty i (values_of m first) there tree at
    got_bad level at count fill h bad = elim (parts level at count fill h) [
      | inl k ↦ unfit (record { level = level; count = count; fill = fill; reached = k; bad = bad })
      | inr k ↦
          let s = k.stands in
          let same : spelled_node i.spelled k.node ≡ bad.bytes = let a = s.bytes in let b = bad.stand in cc in
          absurd (bad.bad k.node s.fits s.place same)
    ]

    module _ (once : IsSpelledOnce (FitsNode i.fits i.spelled) (spelled_node i.spelled)) where
      same_own : (A : Child T → Type 0) (at level count : ℕ) (fill : Fill) (node : Node T) (h : IsOwnNode i m first there pieces now A at level count fill) → FitsNode i.fits i.spelled node → there at ≡ Some (spelled_node i.spelled node) → h.node ≡ node
      same_own A at level count fill node h fits stand =
          let k = h.stands in
          let same : spelled_node i.spelled h.node ≡ spelled_node i.spelled node = let a = k.bytes in cc in
          once h.node node k.fits fits same

      -- its entries are given
      pub got_given : (level at count : ℕ) (fill : Fill) (node : Node T) → LeadsTo i m first there pieces now tree level at count fill → StandsFit i there at level count fill node → AreGiven i m first there pieces now tree level node
      got_given level at count fill (Leaf xs) h stands = tt
      got_given zero at count fill (Inner cs) h stands = let k = stands.place in let e = k.kind in absurd (cc)
      got_given (suc level) at count fill (Inner cs) (inl h) stands =
          let P : Child T → Type 0 = IsGiven i m first there pieces now tree level in
          let l : level ≡ suc level - 1 = omega arith in
          subst (λ n. All (IsGiven i m first there pieces now tree n) cs) l
          (All-weaker (Contains cs) P (λ c inside. reached level c.at c.count Below (below at level count fill cs c h stands inside)) cs (All-contains_itself cs))
      got_given (suc level) at count fill (Inner cs) (inr h) stands =
          let P : Child T → Type 0 = λ c. LeadsTo i m first there pieces now tree level c.at c.count Below in
          let l : level ≡ suc level - 1 = omega arith in
          let e = same_own P at (suc level) count fill (Inner cs) h stands.fits stands.bytes in
          subst (λ n. All (IsGiven i m first there pieces now tree n) cs) l (subst (AreEach P) e h.entries)

      pub got_unread : (level at count : ℕ) (fill : Fill) (node : Node T) → LeadsTo i m first there pieces now tree level at count fill → StandsFit i there at level count fill node → KeepsBadSum i m first node → IsFaulty i (values_of m first) there tree at
      got_unread level at count fill node h stands bad = elim (parts level at count fill h) [
        | inl k ↦ unread (record { level = level; node = node; met = record { count = count; fill = fill; reached = k; stands = stands }; bad = bad })
        | inr k ↦ absurd (k.read (subst (KeepsBadSum i m first) (sym (same_own (λ c. Unit {0}) at level count fill node k stands.fits stands.bytes)) bad))
      ]

-- ---- calls one after another

-- what was got from a to b was good, and is so by what stands in the end
module _ (Was May Good : ℕ → Type 0) (is : (at : ℕ) → Was at → Good at) (a b c : List ℕ) (h : EachSince Was a b) where
  good_later : EachSince Good b c → EachSince Good a c
  good_later k = since_both Was Good Good is (λ at t. t) a b c h k

  stops_later : (at : ℕ) → StopsAt Good b c at → StopsAt Good a c at
  stops_later at k = record { before = k.before; last = k.last; good = since_both Was Good Good is (λ x t. t) a b k.before h k.good }

  so_far_later : GoesSoFar May Good b c → GoesSoFar May Good a c
  so_far_later (inl k) = inl (good_later k)
  so_far_later (inr k) = inr (record { at = k.at; may = k.may; stops = stops_later k.at k.stops })

-- one place was got
stops_one : (Good : ℕ → Type 0) (a b : List ℕ) (at : ℕ) → b ≡ at ∷ a → StopsAt Good a b at
stops_one Good a b at e = record { before = a; last = e; good = since_none Good a a refl }

module _ {T S F M Sum G : Type 0} (i : Items T) (s : Sources S F) (m : Summers M T Sum G) (laws : Laws s m) (first : M) (tree : Tree) (pieces : List (List ℕ)) where
  -- how a place was taken, and what is to blame, by what stands in the store now
  abbrev pub Taken : S → ℕ → Type 0
  Taken a = IsTaken i m first (places (s.nodes a)) pieces (s.puts a) tree

  abbrev pub Faulty : S → ℕ → Type 0
  Faulty a = IsFaulty i (values_of m first) (places (s.nodes a)) tree

  pub under_on : (a b : S) (u v : M) → IsUnderWay i s m first pieces u a → GoOn i s m a b u v → IsUnderWay i s m first pieces v b
  under_on a b u v h g = record {
    known = known_on i s m laws first a b u v h.known g;
    since = since_both (λ x. Unit {0}) (IsNodePiece i m u v) (λ x. Unit {0}) (λ x k. tt) (λ x k. tt) pieces (s.puts a) (s.puts b) h.since g.puts;
  }

  -- more pieces were put at c
  taken_at : (b c : S) (there : Places) → Extends (places (s.nodes b)) there → (P : List ℕ → Type 0) → EachSince P (s.puts b) (s.puts c) → (at : ℕ) → Taken b at → IsTaken i m first there pieces (s.puts c) tree at
  taken_at b c there e P more = taken_stays i m first tree pieces (places (s.nodes b)) there e (s.puts b) (s.puts c) P more

  taken_then : (b c : S) (v w : M) → GoOn i s m b c v w → (at : ℕ) → Taken b at → Taken c at
  taken_then b c v w g = taken_at b c (places (s.nodes c)) (extends_on i s m laws b c v w g) (IsNodePiece i m v w) g.puts

  -- b is the store after a
  module _ (a b : S) (u v : M) (g : GoOn i s m a b u v) where
    pub leads_on : (level at count : ℕ) (fill : Fill) → Leads i s m first tree pieces a level at count fill → Leads i s m first tree pieces b level at count fill
    leads_on = leads_stays i m first tree pieces (places (s.nodes a)) (places (s.nodes b)) (extends_on i s m laws a b u v g) (s.puts a) (s.puts b) (IsNodePiece i m u v) g.puts

    pub given_on : (level : ℕ) (c : Child T) → Given i s m first tree pieces a level c → Given i s m first tree pieces b level c
    given_on level c h = leads_on level c.at c.count Below h

    pub all_on : (level : ℕ) (cs : List (Child T)) → All (Given i s m first tree pieces a level) cs → All (Given i s m first tree pieces b level) cs
    all_on = all_stay i m first tree pieces (places (s.nodes a)) (places (s.nodes b)) (extends_on i s m laws a b u v g) (s.puts a) (s.puts b) (IsNodePiece i m u v) g.puts

    pub row_on : (level : ℕ) (node : Node T) → AllGiven i s m first tree pieces a level node → AllGiven i s m first tree pieces b level node
    row_on = row_stays i m first tree pieces (places (s.nodes a)) (places (s.nodes b)) (extends_on i s m laws a b u v g) (s.puts a) (s.puts b) (IsNodePiece i m u v) g.puts

    -- what was got before a, and what from a to b
    pub taken_on : (before : List ℕ) → EachSince (Taken a) before (s.gets a) → EachSince (Taken b) (s.gets a) (s.gets b) → EachSince (Taken b) before (s.gets b)
    taken_on before h k = since_both (Taken a) (Taken b) (Taken b) (taken_then a b u v g) (λ at t. t) before (s.gets a) (s.gets b) h k

    -- nothing was got from a to b
    pub taken_quiet : (before : List ℕ) → s.gets b ≡ s.gets a → EachSince (Taken a) before (s.gets a) → EachSince (Taken b) before (s.gets b)
    taken_quiet before e h = taken_on before h (since_none (Taken b) (s.gets a) (s.gets b) e)

    -- what was got from a to b was taken, and a call gave up later, at c
    pub halts_later : (c : S) (w : M) (fault : TreeFault F G) → Fails i s m b c v w fault → EachSince (Taken b) (s.gets a) (s.gets b) → Halts i s m first tree pieces b c fault → Halts i s m first tree pieces a c fault
    halts_later c w (tree_fault.Store fault) ran h k =
        let d = k.fails in
        let there = places (s.nodes d.mid) in
        let May : ℕ → Type 0 = MayGet i m first there pieces (s.puts c) tree in
        let Good : ℕ → Type 0 = IsTaken i m first there pieces (s.puts c) tree in
        let stays = extends_places (s.nodes b) (s.nodes d.mid) (laws.store_keeps b d.mid d.went) in
        record {
          fails = record { mid = d.mid; went = laws.store_steps.both a b d.mid g.store d.went; failed = d.failed; call = d.call };
          stood = so_far_later (Taken b) May Good (taken_at b c there stays (IsNodePiece i m v w) ran.puts) (s.gets a) (s.gets b) (s.gets c) h k.stood;
        }
    halts_later c w (tree_fault.BadNode at) ran h k = (k.0, stops_later (Taken b) (Taken c) (Taken c) (taken_then b c v w ran) (s.gets a) (s.gets b) (s.gets c) h at k.1)
    halts_later c w (tree_fault.Summer fault) ran h k =
        good_later (Taken b) (Taken c) (Taken c) (taken_at b c (places (s.nodes c)) (extends_places (s.nodes b) (s.nodes c) (laws.store_keeps b c ran.store)) (IsNodePiece i m v w) ran.puts) (s.gets a) (s.gets b) (s.gets c) h k
    halts_later c w tree_fault.NoMemory ran h k = so_far_later (Taken b) (MayGet i m first (places (s.nodes c)) pieces (s.puts c) tree) (Taken c) (taken_then b c v w ran) (s.gets a) (s.gets b) (s.gets c) h k

  -- a call that got nothing gave up
  pub halts_quiet : (a b : S) (u v : M) (fault : TreeFault F G) → Fails i s m a b u v fault → s.gets b ≡ s.gets a → BlamesNone fault → Halts i s m first tree pieces a b fault
  halts_quiet a b u v (tree_fault.Store fault) ran e h = (let k = ran.store in record { fails = k; stood = inl (since_none (IsTaken i m first (places (s.nodes k.mid)) pieces (s.puts b) tree) (s.gets a) (s.gets b) e) })
  halts_quiet a b u v (tree_fault.BadNode at) ran e h = absurd h
  halts_quiet a b u v (tree_fault.Summer fault) ran e h = since_none (Taken b) (s.gets a) (s.gets b) e
  halts_quiet a b u v tree_fault.NoMemory ran e h = inl (since_none (Taken b) (s.gets a) (s.gets b) e)

  -- a call that did nothing at all found no memory
  pub fails_none : (a : S) (u : M) → Fails i s m a a u u tree_fault.NoMemory
  fails_none a u = goes_none i s m laws a u

  pub took_none : (a b : S) → s.gets b ≡ s.gets a → EachSince (Taken b) (s.gets a) (s.gets b)
  took_none a b e = since_none (Taken b) (s.gets a) (s.gets b) e

  -- what the exit of a `?` returns: the call that gave up came first
  pub took_fault : {X : Type 0} (q : Result X (TreeFault F G)) (P : X → Type 0) (a c : S) (fault y : TreeFault F G) → y ≡ fault → q ≡ Err y → Halts i s m first tree pieces a c fault → Took i s m first tree pieces a c q P
  took_fault q P a c fault y e is h = rw is (rw e (h, tt))

  -- or it came later, from b
  pub took_later : {X : Type 0} (q : Result X (TreeFault F G)) (P : X → Type 0) (a b c : S) (u v w : M) → GoOn i s m a b u v → EachSince (Taken b) (s.gets a) (s.gets b) → (fault y : TreeFault F G) → y ≡ fault → q ≡ Err y → Fails i s m b c v w fault → Halts i s m first tree pieces b c fault
      → Took i s m first tree pieces a c q P
  took_later q P a b c u v w g k fault y e is ran h = took_fault q P a c fault y e is (halts_later a b u v g c w fault ran k h)

  -- or it came later and got nothing
  pub took_quiet : {X : Type 0} (q : Result X (TreeFault F G)) (P : X → Type 0) (a b c : S) (u v w : M) → GoOn i s m a b u v → EachSince (Taken b) (s.gets a) (s.gets b) → (fault y : TreeFault F G) → y ≡ fault → q ≡ Err y → Fails i s m b c v w fault → s.gets c ≡ s.gets b → BlamesNone fault
      → Took i s m first tree pieces a c q P
  took_quiet q P a b c u v w g k fault y e is ran none blames = took_later q P a b c u v w g k fault y e is ran (halts_quiet b c v w fault ran none blames)

  -- the root's place
  pub root_leads : (a : S) → 0 < tree.height → Leads i s m first tree pieces a (tree.height - 1) tree.root tree.count Root
  root_leads a some = reached i m first tree pieces (places (s.nodes a)) (s.puts a) (tree.height - 1) tree.root tree.count Root (root some)

  -- ---- a get

  pub leads_same : (a b : S) (level at count : ℕ) (fill : Fill) → s.nodes b ≡ s.nodes a → s.puts b ≡ s.puts a → Leads i s m first tree pieces a level at count fill → Leads i s m first tree pieces b level at count fill
  leads_same a b level at count fill e f h =
      subst (λ n. LeadsTo i m first (places n) pieces (s.puts b) tree level at count fill) (sym e) (subst (λ p. LeadsTo i m first (places (s.nodes a)) pieces p tree level at count fill) (sym f) h)

  -- the place may be got, and was
  got_last : (a b : S) (there : Places) (level count at : ℕ) (fill : Fill) → LeadsTo i m first there pieces (s.puts b) tree level at count fill → s.gets b ≡ at ∷ s.gets a → GotSoFar i s m first tree pieces a b there
  got_last a b there level count at fill leads f = inr (record {
    at = at;
    may = got_may i m first tree pieces there (s.puts b) level at count fill leads;
    stops = stops_one (IsTaken i m first there pieces (s.puts b) tree) (s.gets a) (s.gets b) at f;
  })

  -- memory ran out when it had been got
  pub got_no_memory : (a b : S) (level count at : ℕ) (fill : Fill) → Leads i s m first tree pieces b level at count fill → s.gets b ≡ at ∷ s.gets a → Halts i s m first tree pieces a b tree_fault.NoMemory
  got_no_memory a b level count at fill leads f = got_last a b (places (s.nodes b)) level count at fill leads f

  -- why a node was not fetched
  pub fetch_blames : (a b : S) (u : M) (level count at : ℕ) (fill : Fill) (fault : TreeFault F G) → IsUnderWay i s m first pieces u a → Leads i s m first tree pieces b level at count fill → s.nodes b ≡ s.nodes a → s.puts b ≡ s.puts a → s.gets b ≡ at ∷ s.gets a
      → FetchFails i level count fill s a b at fault → Halts i s m first tree pieces a b fault
  fetch_blames a b u level count at fill (tree_fault.Store fault) under leads e same f h =
      let was = subst (λ n. LeadsTo i m first (places n) pieces (s.puts b) tree level at count fill) e leads in
      record { fails = record { mid = a; went = laws.store_steps.none a; failed = h; call = inl (at, f, same) }; stood = got_last a b (places (s.nodes a)) level count at fill was f }
  fetch_blames a b u level count at fill (tree_fault.BadNode place) under leads e same f h =
      let k = under.known in
      let bad0 : IsBadAt i level count fill (places (s.nodes a)) at = told_at (s.nodes a) (λ there. IsBadAt i level count fill there at) k.there h.1 k.told in
      let bad : IsBadAt i level count fill (places (s.nodes b)) at = subst (λ n. IsBadAt i level count fill (places n) at) (sym e) bad0 in
      let blamed : Faulty b at = got_bad i m first tree pieces (places (s.nodes b)) (s.puts b) level at count fill leads bad in
      subst (λ p. Halts i s m first tree pieces a b (tree_fault.BadNode p)) (sym h.0) (blamed, stops_one (Taken b) (s.gets a) (s.gets b) at f)
  fetch_blames a b u level count at fill (tree_fault.Summer fault) under leads e same f h = absurd h
  fetch_blames a b u level count at fill tree_fault.NoMemory under leads e same f h = got_no_memory a b level count at fill leads f

  module _ (a b : S) (u : M) (level count at : ℕ) (fill : Fill) (under : IsUnderWay i s m first pieces u a) (leads : Leads i s m first tree pieces b level at count fill) (e : s.nodes b ≡ s.nodes a) (f : s.gets b ≡ at ∷ s.gets a)
      (once : IsSpelledOnce (FitsNode i.fits i.spelled) (spelled_node i.spelled)) (node : Node T) (fits : FitsNode i.fits i.spelled node) (bytes : IfSome (s.nodes a) (λ there. there at ≡ Some (spelled_node i.spelled node))) (place : IsFitFor level count fill node) where
    fetched_there : StandsFit i (places (s.nodes b)) at level count fill node
    fetched_there =
        let k = under.known in
        let old : places (s.nodes a) at ≡ Some (spelled_node i.spelled node) = told_at (s.nodes a) (λ there. there at ≡ Some (spelled_node i.spelled node)) k.there bytes k.told in
        record { fits = fits; bytes = ap (λ n. places n at) e ∙ old; place = place }

    -- a node was fetched, and its summaries were read
    pub fetch_takes : (KeepsBadSum i m u node → ⊥) → EachSince (Taken b) (s.gets a) (s.gets b) × AllGiven i s m first tree pieces b level node
    fetch_takes read =
        let k = under.known in
        let stands = fetched_there in (
          since_one (Taken b) at (s.gets a) (s.gets b) f (got_taken i m first tree pieces (places (s.nodes b)) (s.puts b) level at count fill node leads stands (λ bad. read (bad_back i s m laws first u node k.goes bad))),
          got_given i m first tree pieces (places (s.nodes b)) (s.puts b) once level at count fill node leads stands,
        )

    -- or one of them wasn't
    pub fetch_unread : KeepsBadSum i m u node → Halts i s m first tree pieces a b (tree_fault.BadNode at)
    fetch_unread bad =
        let k = under.known in
        (got_unread i m first tree pieces (places (s.nodes b)) (s.puts b) once level at count fill node leads fetched_there (bad_on i s m laws first u node k.goes bad), stops_one (Taken b) (s.gets a) (s.gets b) at f)

  -- ---- a put

  module _ (a b : S) (u v : M) (under : IsUnderWay i s m first pieces u a) (g : GoOn i s m a b u v) (piece : List ℕ) (more : s.puts b ≡ piece ∷ s.puts a) (node : Node T) (spells : piece ≡ spelled_node i.spelled node) (fits : FitsNode i.fits i.spelled node) (summed : IsSummed i m u v node) where
    no_bad_sum : (x : Node T) → x ≡ node → KeepsBadSum i m first x → ⊥
    no_bad_sum x same bad =
        let k = under.known in
        let own = bad_back i s m laws first u x k.goes bad in
        let is : IsSummed i m u v (Inner own.children) = subst (IsSummed i m u v) (sym same ∙ own.inner) summed in
        let sum = All-contains (λ (c : Child T). IsSumSpelled i m u c.sum) own.children own.child is own.inside in
        own.unread sum.sum sum.fits (sym sum.bytes_are)

    pub put_given : (level at count : ℕ) → IfSome (s.nodes b) (λ there. there at ≡ Some piece) → count ≡ item_count node → IsAtLevel level node → IsFilled Below node → AreLarge level node → AllGiven i s m first tree pieces a level node
        → Leads i s m first tree pieces b level at count Below
    put_given level at count stands_at counted kind filled large entries =
        let later = under_on a b u v under g in
        let k = later.known in
        let stand : places (s.nodes b) at ≡ Some piece = told_at (s.nodes b) (λ there. there at ≡ Some piece) k.there stands_at k.told in
        let old = under.since in
        own_given i m first tree pieces (places (s.nodes b)) (s.puts b) level at count node
        (record { fits = fits; bytes = stand ∙ ap Some spells; place = record { kind = kind; filled = filled; large = large; items = sym counted } })
        (no_bad_sum node refl)
        (subst (λ p. IsSince p pieces (s.puts b)) spells (piece ∷ old.0, more ∙ ap (λ t. piece ∷ t) old.1, (0, omega arith, refl)))
        (row_on a b u v g level node entries)

-- a whole call, which begins with the summer as it is and the pieces put before it
pub begins : {T S F M Sum G : Type 0} (i : Items T) (s : Sources S F) (m : Summers M T Sum G) (laws : Laws s m) (a : S) (u : M) (there : Places) → s.nodes a ≡ Some there → IsUnderWay i s m u (s.puts a) u a
begins i s m laws a u there told = record {
  known = record { goes = laws.summer_steps.none u; there = there; told = told };
  since = since_none (λ x. Unit {0}) (s.puts a) (s.puts a) refl;
}
