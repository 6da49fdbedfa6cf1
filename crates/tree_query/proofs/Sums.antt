-- How calls on a store and a summer that come one after another are one.
use Rattle.std.proofs.Common.{◌≡◌, ℕ, List, ◌++◌, ◌∷◌, [], All, Contains, Result, Ok, Err, IfErr, OnOk, Some, sym, ap, ◌∙◌, suc, subst, refl}
use Rattle.std.proofs.lemmas.List.Elements.{All-cons, All-contains, All-contains_itself, All-head, All-nil, All-tail, All-weaker}
use Rattle.tree_laws.specs.declared.item.Item.{Ghosts as Items}
use Rattle.tree_laws.specs.declared.store.NodeSource.{Ghosts as Sources}
use Rattle.tree_laws.specs.declared.summer.Summer.{Ghosts as Summers}
use Rattle.tree_laws.specs.declared.node.Child.{Child}
use Rattle.tree_laws.specs.declared.node.Node.{Node}
use Rattle.tree_laws.specs.declared.node.Node.TheVariants.{Inner}
use Rattle.tree_laws.specs.declared.tree.Fill.{Fill}
use Rattle.tree_laws.specs.declared.tree.Fill.TheVariants.{Below}
use Rattle.tree_laws.specs.declared.tree.Tree.{Tree}
use Rattle.tree_laws.specs.declared.tree.TreeFault.{TreeFault}
use Rattle.tree_laws.specs.declared.tree.TreeFault.TheVariants as tree_fault
use Rattle.tree_laws.specs.Fetching.{IsUnread}
use Rattle.tree_laws.specs.Meaning.{AreSteps, KeepsMeaning, Meaning, StaysCaused}
use Rattle.tree_laws.specs.Reaching.{HasNode, IsMet, Reaches, StandsFit, below}
use Rattle.tree_laws.specs.Spelled.{IsSpelledOnce}
use Rattle.tree_laws.specs.Stores.{EachSince, Places, WhereTold}
use Rattle.tree_laws.specs.SummerTrees.{IsTree}
use Rattle.tree_laws.specs.Values.{values_of}
use Rattle.tree_query.specs.Calls.{Fails, SumFails, SumRan, Summed, WentOver}
use Rattle.tree_query.specs.Reaching.{AreOf, AreReached, IsBlamed, IsGot, IsUnreadAt, ReadFails, unfit, unread}
use Rattle.tree_query.proofs.Calls.{Laws, fails_on, no_memory, stops_on, went_none, went_on}
use Rattle.tree_query.proofs.Reached.{met_summary, none_unfit}
use Rattle.tree_query.proofs.Since.{IsLater, each_none, each_on, later_of_since, since_before, since_later, since_one}

-- the laws of a source and of a summer
pub record BothLaws {T S F M Sum G : Type 0} (s : Sources S F) (m : Summers M T Sum G) : Type 0 where
  pub steps : AreSteps s.goes
  pub caused : StaysCaused s.goes s.fails
  pub sum_steps : AreSteps m.goes
  pub sum_caused : StaysCaused m.goes m.fails
  pub sum_keeps : KeepsMeaning m.goes m.meaning m.lawful m.usable m.fits

pub source_laws : {T S F M Sum G : Type 0} (s : Sources S F) (m : Summers M T Sum G) → BothLaws s m → Laws s
source_laws s m laws = record { steps = laws.steps; caused = laws.caused }

-- a place that is blamed in the second call is blamed in both
blamed_on : {T M Sum G : Type 0} (i : Items T) (m : Summers M T Sum G) (first : M) (there : Places) (tree : Tree) (since a b c : List ℕ) (at : ℕ) → EachSince (HasNode i there tree) a b → IsBlamed i m first there tree since b c at → IsBlamed i m first there tree since a c at
blamed_on i m first there tree since a b c at h (unfit u k) = unfit u (stops_on i there tree at a b c h k)
blamed_on i m first there tree since a b c at h (unread u got good) = unread u got (each_on (HasNode i there tree) a b c h good)

module _ {T S F M Sum G : Type 0} (i : Items T) (s : Sources S F) (m : Summers M T Sum G) (laws : BothLaws s m) (first : M) (tree : Tree) (since : List ℕ) where
  pub sum_none : (a : S) → WentOver i s tree a a
  sum_none a = went_none i s (source_laws s m laws) tree a

  pub sum_went_on : (a b c : S) → s.nodes b ≡ s.nodes a → WentOver i s tree a b → WentOver i s tree b c → WentOver i s tree a c
  sum_went_on a b c e g h = went_on i s (source_laws s m laws) tree a b c e g h

  pub sum_fails_on : (a b c : S) (u v w : M) (fault : TreeFault F G) → s.nodes b ≡ s.nodes a → WentOver i s tree a b → m.goes u v → SumFails i s m first tree since b c v w fault → SumFails i s m first tree since a c u w fault
  sum_fails_on a b c u v w (tree_fault.Store fault) e g k h = (fails_on i s (source_laws s m laws) tree G a b c (tree_fault.Store fault) e g h.0, laws.sum_steps.both u v w k h.1)
  sum_fails_on a b c u v w (tree_fault.BadNode at) e g k h = (
    laws.steps.both a b c g.goes h.0,
    (λ there told. blamed_on i m first there tree since (s.gets a) (s.gets b) (s.gets c) at (g.got there told) (h.1 there (e ∙ told))),
    laws.sum_steps.both u v w k h.2,
  )
  sum_fails_on a b c u v w (tree_fault.Summer fault) e g k h = (sum_went_on a b c e g h.0, laws.sum_caused u v w fault k h.1)
  sum_fails_on a b c u v w tree_fault.NoMemory e g k h = (fails_on i s (source_laws s m laws) tree G a b c tree_fault.NoMemory e g h.0, laws.sum_steps.both u v w k h.1)

  pub sum_ran_on : (X : Type 0) (a b c : S) (u v w : M) (result : Result X (TreeFault F G)) → s.nodes b ≡ s.nodes a → WentOver i s tree a b → m.goes u v → SumRan i s m first tree since b c v w result → SumRan i s m first tree since a c u w result
  sum_ran_on X a b c u v w (Ok value) e g k h = (sum_went_on a b c e g h.0, laws.sum_steps.both u v w k h.1)
  sum_ran_on X a b c u v w (Err fault) e g k h = sum_fails_on a b c u v w fault e g k h

  -- what the exit of a `?` returns
  pub sum_ran_err : (X : Type 0) (a b : S) (u v : M) (q : Result X (TreeFault F G)) (fault y : TreeFault F G) → y ≡ fault → q ≡ Err y → SumFails i s m first tree since a b u v fault → SumRan i s m first tree since a b u v q
  sum_ran_err X a b u v q fault y e is h = rw is (rw e h)

  -- a call on the summer alone that gave up
  pub summed_fails : (X : Type 0) (a : S) (u v : M) (fault : TreeFault F G) → Summed m {X = X} u v (Err fault) → SumFails i s m first tree since a a u v fault
  summed_fails X a u v (tree_fault.Store fault) h = absurd h
  summed_fails X a u v (tree_fault.BadNode at) h = absurd h
  summed_fails X a u v (tree_fault.Summer fault) h = (sum_none a, h)
  summed_fails X a u v tree_fault.NoMemory h = (no_memory i s (source_laws s m laws) tree a, h)

  -- a call on the summer alone
  pub summed_ran : (X : Type 0) (a : S) (u v : M) (result : Result X (TreeFault F G)) → Summed m u v result → SumRan i s m first tree since a a u v result
  summed_ran X a u v (Ok value) h = (sum_none a, h)
  summed_ran X a u v (Err fault) h = summed_fails X a u v fault h

  pub sum_bad : (X : Type 0) (a b : S) (u v : M) (there : Places) (result : Result X (TreeFault F G)) (at : ℕ) → SumRan i s m first tree since a b u v result → s.nodes a ≡ Some there → result ≡ Err (tree_fault.BadNode at)
      → IsBlamed i m first there tree since (s.gets a) (s.gets b) at
  sum_bad X a b u v there result at h told e = let says : SumFails i s m first tree since a b u v (tree_fault.BadNode at) = subst (λ (r : Result X (TreeFault F G)). SumRan i s m first tree since a b u v r) e h in says.1 there told

  -- ---- nodes and what they keep

  -- a node that wasn't got
  pub got_fails : (a b : S) (u : M) (fault : TreeFault F G) → Fails i s tree a b fault → SumFails i s m first tree since a b u u fault
  got_fails a b u (tree_fault.Store fault) h = (h, laws.sum_steps.none u)
  got_fails a b u (tree_fault.BadNode at) h = (h.0, (λ there told. let k = h.1 there told in unfit k.0 k.1), laws.sum_steps.none u)
  got_fails a b u (tree_fault.Summer fault) h = absurd h
  got_fails a b u tree_fault.NoMemory h = (h, laws.sum_steps.none u)

  -- a node that was got
  pub node_got : (a b : S) (at level count : ℕ) (fill : Fill) (node : Node T) → s.gets b ≡ at ∷ s.gets a → WhereTold (s.nodes a) (λ there. IsLater since (s.gets a)) → WhereTold (s.nodes a) (λ there. Reaches i there tree at level count fill)
      → WhereTold (s.nodes a) (λ there. StandsFit i there at level count fill node) → WhereTold (s.nodes a) (λ there. IsGot i there tree since (s.gets b) at level node)
  node_got a b at level count fill node e later r h there told = record {
    met = record { count = count; fill = fill; reached = r there told; stands = h there told };
    got = since_later at since (s.gets a) (s.gets b) (later there told) (since_one at (s.gets a) (s.gets b) e);
  }

  unread_before : (u : M) (bytes : List ℕ) → m.goes first u → IsUnread (values_of m u) bytes → IsUnread (values_of m first) bytes
  unread_before u bytes g h sum fits is = h sum ((laws.sum_keeps.fits first u sum g).0 fits) (ap (λ (x : Meaning T Sum). x.spelled sum) (laws.sum_keeps.meaning first u g) ∙ is)

  -- values that weren't read
  pub read_fails : (a : S) (u : M) (at low : ℕ) (children : List (Child T)) (fault : TreeFault F G) → m.goes first u → WhereTold (s.nodes a) (λ there. AreOf i there tree since (s.gets a) at low children) → ReadFails m u at children fault
      → SumFails i s m first tree since a a u u fault
  read_fails a u at low children (tree_fault.Store fault) g of h = absurd h
  read_fails a u at low children (tree_fault.BadNode place) g of h = (
    laws.steps.none a,
    (λ there told.
        let o = of there told in
        subst (λ p. IsBlamed i m first there tree since (s.gets a) (s.gets a) p) (sym h.0)
        (unread (record {
          level = suc low;
          node = Inner o.all;
          met = o.own.met;
          bad = record { children = o.all; inner = refl; child = h.1.child; inside = All-contains (Contains o.all) children h.1.child o.inside h.1.inside; unread = unread_before u h.1.child.sum g h.1.unread };
        }) o.own.got (each_none (HasNode i there tree) (s.gets a)))),
    laws.sum_steps.none u,
  )
  read_fails a u at low children (tree_fault.Summer fault) g of h = absurd h
  read_fails a u at low children tree_fault.NoMemory g of h = (no_memory i s (source_laws s m laws) tree a, laws.sum_steps.none u)

  pub read_ran : (X : Type 0) (a : S) (u : M) (at low : ℕ) (children : List (Child T)) (result : Result X (TreeFault F G)) → m.goes first u → WhereTold (s.nodes a) (λ there. AreOf i there tree since (s.gets a) at low children) → IfErr result (ReadFails m u at children)
      → SumRan i s m first tree since a a u u result
  read_ran X a u at low children (Ok value) g of h = (sum_none a, laws.sum_steps.none u)
  read_ran X a u at low children (Err fault) g of h = read_fails a u at low children fault g of h

  -- ---- rows of children

  pub all_of : (a : S) (at level low : ℕ) (node : Node T) (cs : List (Child T)) → WhereTold (s.nodes a) (λ there. IsGot i there tree since (s.gets a) at level node) → node ≡ Inner cs → level ≡ suc low → WhereTold (s.nodes a) (λ there. AreOf i there tree since (s.gets a) at low cs)
  all_of a at level low node cs got is up there told =
      let k = got there told in
      record {
        all = cs;
        own = record { met = subst (λ l. IsMet i there tree at l (Inner cs)) up (subst (λ n. IsMet i there tree at level n) is k.met); got = k.got };
        inside = All-contains_itself cs;
      }

  of_back : (P : Child T → Type 0) (front back : List (Child T)) → All P (front ++ back) → All P back
  of_back P [] back h = h
  of_back P (c ∷ cs) back h = of_back P cs back (All-tail P c (cs ++ back) h)

  of_front : (P : Child T → Type 0) (front back : List (Child T)) → All P (front ++ back) → All P front
  of_front P [] back h = All-nil P
  of_front P (c ∷ cs) back h = All-cons P c cs (All-head P c (cs ++ back) h) (of_front P cs back (All-tail P c (cs ++ back) h))

  pub back_of : (a : S) (at low : ℕ) (cs front back : List (Child T)) → cs ≡ front ++ back → WhereTold (s.nodes a) (λ there. AreOf i there tree since (s.gets a) at low cs) → WhereTold (s.nodes a) (λ there. AreOf i there tree since (s.gets a) at low back)
  back_of a at low cs front back e of there told = let o = of there told in record { all = o.all; own = o.own; inside = of_back (Contains o.all) front back (subst (All (Contains o.all)) e o.inside) }

  pub front_of : (a : S) (at low : ℕ) (cs front back : List (Child T)) → cs ≡ front ++ back → WhereTold (s.nodes a) (λ there. AreOf i there tree since (s.gets a) at low cs) → WhereTold (s.nodes a) (λ there. AreOf i there tree since (s.gets a) at low front)
  front_of a at low cs front back e of there told = let o = of there told in record { all = o.all; own = o.own; inside = of_front (Contains o.all) front back (subst (All (Contains o.all)) e o.inside) }

  -- they are so after a further call
  pub of_on : (a b : S) (at low : ℕ) (cs : List (Child T)) → s.nodes b ≡ s.nodes a → WentOver i s tree a b → WhereTold (s.nodes a) (λ there. AreOf i there tree since (s.gets a) at low cs) → WhereTold (s.nodes b) (λ there. AreOf i there tree since (s.gets b) at low cs)
  of_on a b at low cs e g of there told =
      let back : s.nodes a ≡ Some there = sym e ∙ told in
      let o = of there back in
      record { all = o.all; own = record { met = o.own.met; got = since_before (HasNode i there tree) at since (s.gets a) (s.gets b) o.own.got (g.got there back) }; inside = o.inside }

  pub later_of : (a : S) (at low : ℕ) (cs : List (Child T)) → WhereTold (s.nodes a) (λ there. AreOf i there tree since (s.gets a) at low cs) → WhereTold (s.nodes a) (λ there. IsLater since (s.gets a))
  later_of a at low cs of there told = later_of_since at since (s.gets a) (of there told).own.got

  reached_of : (a : S) (at low : ℕ) (cs : List (Child T)) → WhereTold (s.nodes a) (λ there. AreOf i there tree since (s.gets a) at low cs) → WhereTold (s.nodes a) (λ there. AreReached i there tree low cs)
  reached_of a at low cs of there told =
      let o = of there told in
      let k = o.own.met in
      All-weaker (Contains o.all) (λ child. Reaches i there tree child.at low child.count Below) (λ child inside. below at low k.count k.fill o.all child k.reached k.stands inside) cs o.inside

  pub first_of : (a : S) (at low : ℕ) (cs : List (Child T)) (c : Child T) (rest : List (Child T)) → cs ≡ c ∷ rest → WhereTold (s.nodes a) (λ there. AreOf i there tree since (s.gets a) at low cs) → WhereTold (s.nodes a) (λ there. Reaches i there tree c.at low c.count Below)
  first_of a at low cs c rest e of there told = All-head (λ child. Reaches i there tree child.at low child.count Below) c rest (subst (AreReached i there tree low) e (reached_of a at low cs of there told))

module _ {T M Sum G : Type 0} (i : Items T) (m : Summers M T Sum G) (first : M) (once : IsSpelledOnce i.fits i.spelled) (there : Places) (tree : Tree) (items : List T) (is : IsTree i m first there tree items) where
  -- no place is blamed over a tree of this summer
  pub none_blamed : (since old now : List ℕ) (at : ℕ) → IsBlamed i m first there tree since old now at → ⊥
  none_blamed since old now at (unfit u stops) = none_unfit i (values_of m first) once there tree items is at u
  none_blamed since old now at (unread u got good) =
      let met = subst (λ n. IsMet i there tree at u.level n) u.bad.inner u.met in
      let own = met_summary i (values_of m first) once there tree items is at u.level u.bad.children u.bad.child met u.bad.inside in
      u.bad.unread own.sum own.fits (sym own.bytes_are)

-- what the exit of a `?` returns
pub summed_err : {M T Sum G F : Type 0} (m : Summers M T Sum G) (X : Type 0) (u v : M) (q : Result X (TreeFault F G)) (fault y : TreeFault F G) → y ≡ fault → q ≡ Err y → Summed m {X = X} u v (Err fault) → Summed m u v q
summed_err m X u v q fault y e is h = rw is (rw e h)

pub ok_on : {X E : Type 0} (P Q : Type 0) → (P → Q) → (result : Result X E) → OnOk result P → OnOk result Q
ok_on P Q f (Ok value) h = f h
ok_on P Q f (Err fault) h = tt

pub ok_is : {X E : Type 0} (Q : Type 0) (result : Result X E) → Q → OnOk result Q
ok_is Q (Ok value) h = h
ok_is Q (Err fault) h = tt

-- what the exit of a `?` says of its fault
pub err_as : {X E : Type 0} (Q : E → Type 0) (q : Result X E) (fault y : E) → y ≡ fault → q ≡ Err y → Q fault → IfErr q Q
err_as Q q fault y e is h = rw is (rw e h)

pub read_err : {T M Sum G F H : Type 0} (m : Summers M T Sum G) (u : M) (at : ℕ) (children : List (Child T)) (child : Child T) (fault : TreeFault F H) → Contains children child → IsUnreadAt m u at child.sum fault → ReadFails m u at children fault
read_err m u at children child (tree_fault.Store fault) inside h = absurd h
read_err m u at children child (tree_fault.BadNode place) inside h = (h.0, record { child = child; inside = inside; unread = h.1 })
read_err m u at children child (tree_fault.Summer fault) inside h = absurd h
read_err m u at children child tree_fault.NoMemory inside h = tt
