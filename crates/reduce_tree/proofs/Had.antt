-- Which summaries stand in the nodes that are put, over calls one after another.
use Rattle.std.proofs.Common.{◌≡◌, inl, inr, ℕ, List, [], ◌∷◌, ◌++◌, Some, All, Contains, Result, Err, IfSome, map, sym, ap, ◌∙◌, append_assoc, arith, subst, refl}
use Rattle.std.proofs.lemmas.List.Elements.{All-append, All-cons, All-contains_itself, All-head, All-nil, All-tail, All-weaker, Contains-append_right}
use Rattle.tree_laws.specs.declared.item.Item.{Ghosts as Items}
use Rattle.tree_laws.specs.declared.store.NodeSource.{Ghosts as Sources}
use Rattle.tree_laws.specs.declared.summer.Summer.{Ghosts as Summers}
use Rattle.tree_laws.specs.declared.node.Child.{Child}
use Rattle.tree_laws.specs.declared.node.Node.{Node}
use Rattle.tree_laws.specs.declared.node.Node.TheVariants.{Leaf, Inner}
use Rattle.tree_laws.specs.declared.tree.TreeFault.{TreeFault}
use Rattle.tree_laws.specs.declared.tree.TreeFault.TheVariants as tree_fault
use Rattle.tree_laws.specs.Meaning.{KeepsMeaning, Meaning}
use Rattle.tree_laws.specs.Nodes.{FitsNode, spelled_node}
use Rattle.tree_laws.specs.Stores.{IsSince}
use Rattle.reduce_tree.specs.Built.{IsPopped}
use Rattle.reduce_tree.specs.Calls.{Fails, GoOn}
use Rattle.reduce_tree.specs.Rows.{IsSplit}
use Rattle.reduce_tree.specs.Sums.{AreHad, ArePiecesHad, ArePiecesKnown, EachInTurn, IsOnTheWay, IsPieceHad, IsPieceKnown, IsSumGiven, IsSumHad, IsSumRead, KeepsHad, KnewPieces, KnowsNode, KnowsPieces, KnowsRow, KnowsSum, PutsKnown, RowsHad, row_sums}
use Rattle.reduce_tree.proofs.Calls.{Laws, Noted, fails_all, noted_both, noted_none}
use Rattle.reduce_tree.proofs.Quiet.{all_back, all_front}
use Rattle.reduce_tree.proofs.Since.{since_both, since_none, since_one}

-- ---- entries in turn

module _ {X : Type 0} where
  turn_weaker : (P Q : X → List X → Type 0) → ((x : X) (earlier : List X) → P x earlier → Q x earlier) → (more old : List X) → EachInTurn P more old → EachInTurn Q more old
  turn_weaker P Q weaker [] old h = tt
  turn_weaker P Q weaker (x ∷ more) old h = (weaker x (more ++ old) h.0, turn_weaker P Q weaker more old h.1)

  turn_both : (P : X → List X → Type 0) (newer more old : List X) → EachInTurn P newer (more ++ old) → EachInTurn P more old → EachInTurn P (newer ++ more) old
  turn_both P [] more old h k = k
  turn_both P (x ∷ newer) more old h k = (subst (λ t. P x t) (sym (append_assoc newer more old)) h.0, turn_both P newer more old h.1 k)

-- the bytes of a value that was answered, as the summer spells it afterwards
pub sum_given : {T M Sum Fault : Type 0} (m : Summers M T Sum Fault) → KeepsMeaning m.goes m.meaning m.lawful m.usable m.fits → (u v : M) → m.goes u v → (sum : Sum) (bytes : List ℕ) → m.gave u v sum → bytes ≡ (m.meaning v).spelled sum → IsSumGiven m u v bytes
sum_given {T} {M} {Sum} m keeps u v g sum bytes gave is = record { sum = sum; gave = gave; bytes_are = is ∙ ap (λ (x : Meaning T Sum). x.spelled sum) (keeps.meaning u v g) }

module _ {T S F M Sum G : Type 0} (s : Sources S F) (m : Summers M T Sum G) (laws : Laws s m) (first : M) where
  -- what was answered stays so
  pub gave_goes : (u v : M) → m.goes u v → (sum : Sum) → m.gave first u sum → m.gave first v sum
  gave_goes u v g sum h = laws.summer_gave.behind first u v sum h g

  pub gave_fails : (i : Items T) (a b : S) (u v : M) (fault : TreeFault F G) → Fails i s m a b u v fault → (sum : Sum) → m.gave first u sum → m.gave first v sum
  gave_fails i a b u v (tree_fault.Store fault) ran sum h = gave_goes u v ran.summer sum h
  gave_fails i a b u v (tree_fault.BadNode at) ran sum h = gave_goes u v ran.summer sum h
  gave_fails i a b u v (tree_fault.Summer fault) ran sum h = laws.summer_gave.failed first u v sum fault h ran.summer
  gave_fails i a b u v tree_fault.NoMemory ran sum h = gave_goes u v ran.summer sum h

  -- and was answered since an earlier state
  pub given_since : (u v : M) → m.goes first u → (bytes : List ℕ) → IsSumGiven m u v bytes → IsSumGiven m first v bytes
  given_since u v g bytes h = record { sum = h.sum; gave = laws.summer_gave.before first u v h.sum g h.gave; bytes_are = h.bytes_are ∙ ap (λ (x : Meaning T Sum). x.spelled h.sum) (laws.summer_keeps.meaning first u g) }

  pub given_later : (u v : M) → m.goes u v → (bytes : List ℕ) → IsSumGiven m first u bytes → IsSumGiven m first v bytes
  given_later u v g bytes h = record { sum = h.sum; gave = gave_goes u v g h.sum h.gave; bytes_are = h.bytes_are }

module _ {T M Sum Fault : Type 0} (i : Items T) (m : Summers M T Sum Fault) (had : List (List ℕ)) (first : M) where
  -- the summaries that rows keep are there
  own_had : (u : M) (cs : List (Child T)) → All (Contains had) (map (λ (c : Child T). c.sum) cs) → AreHad i m (Contains had) first u cs
  own_had u [] h = All-nil (λ (c : Child T). IsSumHad i m (Contains had) first u c.sum)
  own_had u (c ∷ cs) h =
      let rest = map (λ (d : Child T). d.sum) cs in
      All-cons (λ (d : Child T). IsSumHad i m (Contains had) first u d.sum) c cs (inl (All-head (Contains had) c.sum rest h)) (own_had u cs (All-tail (Contains had) c.sum rest h))

  pub rows_own : (u : M) (rows : List (List (Child T))) → All (Contains had) (row_sums rows) → RowsHad i m (Contains had) first u rows
  rows_own u [] h = All-nil (AreHad i m (Contains had) first u)
  rows_own u (row ∷ rows) h =
      let own = map (λ (c : Child T). c.sum) row in
      let rest = row_sums rows in
      All-cons (AreHad i m (Contains had) first u) row rows (own_had u row (all_front (Contains had) own rest h)) (rows_own u rows (all_back (Contains had) own rest h))

module _ {T M Sum Fault : Type 0} (i : Items T) (m : Summers M T Sum Fault) (Was Is : List ℕ → Type 0) (first : M) where
  -- more is known than was, and more was answered up to v than up to u
  module _ (u v : M) (known : (bytes : List ℕ) → Was bytes → Is bytes) (more : (sum : Sum) → m.gave first u sum → m.gave first v sum) where
    pub sum_into : (bytes : List ℕ) → IsSumHad i m Was first u bytes → IsSumHad i m Is first v bytes
    sum_into bytes (inl h) = inl (known bytes h)
    sum_into bytes (inr h) = inr (record { sum = h.sum; gave = more h.sum h.gave; bytes_are = h.bytes_are })

    pub row_into : (cs : List (Child T)) → AreHad i m Was first u cs → AreHad i m Is first v cs
    row_into cs h = All-weaker (λ (c : Child T). IsSumHad i m Was first u c.sum) (λ (c : Child T). IsSumHad i m Is first v c.sum) (λ c k. sum_into c.sum k) cs h

    pub node_into : (node : Node T) → KeepsHad i m Was first u node → KeepsHad i m Is first v node
    node_into (Leaf items) h = tt
    node_into (Inner children) h = row_into children h

    piece_into : (bytes : List ℕ) → IsPieceHad i m Was first u bytes → IsPieceHad i m Is first v bytes
    piece_into bytes h = record { node = h.node; fits = h.fits; bytes_are = h.bytes_are; sums = node_into h.node h.sums }

    -- pieces put up to u, and up to v
    pub pieces_into : (a b c : List (List ℕ)) → ArePiecesHad i m Was first u a b → ArePiecesHad i m Is first v b c → ArePiecesHad i m Is first v a c
    pieces_into a b c h k = since_both (IsPieceHad i m Was first u) (IsPieceHad i m Is first v) (IsPieceHad i m Is first v) piece_into (λ bytes p. p) a b c h k

    -- a node was put, or tried
    pub one_into : (node : Node T) (piece : List ℕ) (a b : List (List ℕ)) → b ≡ piece ∷ a → piece ≡ spelled_node i.spelled node → FitsNode i.fits i.spelled node → KeepsHad i m Was first u node → ArePiecesHad i m Is first v a b
    one_into node piece a b e is fits sums = since_one (IsPieceHad i m Is first v) piece a b e (record { node = node; fits = fits; bytes_are = is; sums = node_into node sums })

module _ {T M Sum Fault : Type 0} (i : Items T) (m : Summers M T Sum Fault) (Was : List ℕ → Type 0) (first : M) where
  -- more was answered up to v than up to u, and nothing else is known
  module _ (u v : M) (more : (sum : Sum) → m.gave first u sum → m.gave first v sum) where
    pub had_on : (cs : List (Child T)) → AreHad i m Was first u cs → AreHad i m Was first v cs
    had_on = row_into i m Was Was first u v (λ bytes h. h) more

    pub rows_on : (rows : List (List (Child T))) → RowsHad i m Was first u rows → RowsHad i m Was first v rows
    rows_on rows h = All-weaker (AreHad i m Was first u) (AreHad i m Was first v) had_on rows h

    pub node_on : (node : Node T) → KeepsHad i m Was first u node → KeepsHad i m Was first v node
    node_on = node_into i m Was Was first u v (λ bytes h. h) more

    pub had_both : (a b c : List (List ℕ)) → ArePiecesHad i m Was first u a b → ArePiecesHad i m Was first v b c → ArePiecesHad i m Was first v a c
    had_both = pieces_into i m Was Was first u v (λ bytes h. h) more

    -- and none from then on
    pub had_then : (a b : List (List ℕ)) → ArePiecesHad i m Was first u a b → ArePiecesHad i m Was first v a b
    had_then a b h = had_both a b b h (since_none (IsPieceHad i m Was first v) b b refl)

    pub had_one : (node : Node T) (piece : List ℕ) (a b : List (List ℕ)) → b ≡ piece ∷ a → piece ≡ spelled_node i.spelled node → FitsNode i.fits i.spelled node → KeepsHad i m Was first u node → ArePiecesHad i m Was first v a b
    had_one = one_into i m Was Was first u v (λ bytes h. h) more

  module _ (u : M) where
    pub had_none : (puts : List (List ℕ)) → ArePiecesHad i m Was first u puts puts
    had_none puts = since_none (IsPieceHad i m Was first u) puts puts refl

    pub had_given : (cs : List (Child T)) → All (λ (c : Child T). IsSumGiven m first u c.sum) cs → AreHad i m Was first u cs
    had_given cs h = All-weaker (λ (c : Child T). IsSumGiven m first u c.sum) (λ (c : Child T). IsSumHad i m Was first u c.sum) (λ c k. inr k) cs h

    pub had_append : (cs ds : List (Child T)) → AreHad i m Was first u cs → AreHad i m Was first u ds → AreHad i m Was first u (cs ++ ds)
    had_append cs ds h k = All-append (λ (c : Child T). IsSumHad i m Was first u c.sum) cs ds h k

    pub had_added : (row list : List (Child T)) (c : Child T) → list ≡ row ++ c ∷ [] → AreHad i m Was first u row → IsSumHad i m Was first u c.sum → AreHad i m Was first u list
    had_added row list c e h k =
        let P : Child T → Type 0 = λ d. IsSumHad i m Was first u d.sum in
        subst (AreHad i m Was first u) (sym e) (All-append P row (c ∷ []) h (All-cons P c [] k (All-nil P)))

    pub had_cut : (list full rest : List (Child T)) → list ≡ full ++ rest → AreHad i m Was first u list → AreHad i m Was first u full × AreHad i m Was first u rest
    had_cut list full rest e h =
        let P : Child T → Type 0 = λ d. IsSumHad i m Was first u d.sum in
        let all = subst (AreHad i m Was first u) e h in
        (all_front P full rest all, all_back P full rest all)

    pub had_split : (node left right : Node T) → IsSplit node left right → KeepsHad i m Was first u node → KeepsHad i m Was first u left × KeepsHad i m Was first u right
    had_split (Leaf xs) (Leaf ys) (Leaf zs) e h = (tt, tt)
    had_split (Inner xs) (Inner ys) (Inner zs) e h = had_cut xs ys zs e h
    had_split (Leaf xs) (Leaf ys) (Inner zs) e h = absurd e
    had_split (Leaf xs) (Inner ys) right e h = absurd e
    had_split (Inner xs) (Leaf ys) right e h = absurd e
    had_split (Inner xs) (Inner ys) (Leaf zs) e h = absurd e

    pub had_join : (node left right : Node T) → IsSplit node left right → KeepsHad i m Was first u left → KeepsHad i m Was first u right → KeepsHad i m Was first u node
    had_join (Leaf xs) (Leaf ys) (Leaf zs) e h k = tt
    had_join (Inner xs) (Inner ys) (Inner zs) e h k = subst (AreHad i m Was first u) (sym e) (had_append ys zs h k)
    had_join (Leaf xs) (Leaf ys) (Inner zs) e h k = absurd e
    had_join (Leaf xs) (Inner ys) right e h k = absurd e
    had_join (Inner xs) (Leaf ys) right e h k = absurd e
    had_join (Inner xs) (Inner ys) (Leaf zs) e h k = absurd e

    pub rows_popped : (old new : List (List (Child T))) (row : List (Child T)) → IsPopped old new row → RowsHad i m Was first u old → RowsHad i m Was first u new × AreHad i m Was first u row
    rows_popped old new row p h = elim p [
      | inl e ↦
          let all = subst (RowsHad i m Was first u) e h in
          (all_front (AreHad i m Was first u) new (row ∷ []) all, All-head (AreHad i m Was first u) row [] (all_back (AreHad i m Was first u) new (row ∷ []) all))
      | inr e ↦ (
        subst (RowsHad i m Was first u) (sym e.1) (All-nil (AreHad i m Was first u)),
        subst (AreHad i m Was first u) (sym e.2) (All-nil (λ (c : Child T). IsSumHad i m Was first u c.sum)),
      )
    ]

    pub rows_stacked : (old new : List (List (Child T))) (row : List (Child T)) → new ≡ old ++ row ∷ [] → RowsHad i m Was first u old → AreHad i m Was first u row → RowsHad i m Was first u new
    rows_stacked old new row e h k = subst (RowsHad i m Was first u) (sym e) (All-append (AreHad i m Was first u) old (row ∷ []) h (All-cons (AreHad i m Was first u) row [] k (All-nil (AreHad i m Was first u))))

module _ {T S F M Sum G : Type 0} (i : Items T) (s : Sources S F) (m : Summers M T Sum G) (first : M) (begun : S) where
  -- nothing was put
  pub known_none : (u : M) (a b : S) → s.puts b ≡ s.puts a → KnowsPieces i s m first begun u b (s.puts a)
  known_none u a b e = ([], e, tt)

  pub knew_none : (u : M) (a b : S) (fault : TreeFault F G) → s.puts b ≡ s.puts a → KnewPieces i s m first begun u b (s.puts a) fault
  knew_none u a b (tree_fault.Store fault) e = ([], e, tt)
  knew_none u a b (tree_fault.BadNode at) e = known_none u a b e
  knew_none u a b (tree_fault.Summer fault) e = known_none u a b e
  knew_none u a b tree_fault.NoMemory e = known_none u a b e

  -- what the exit of a `?` returns
  pub knew_err : {X : Type 0} (u : M) (b : S) (old : List (List ℕ)) (q : Result X (TreeFault F G)) (fault y : TreeFault F G) → y ≡ fault → q ≡ Err y → KnewPieces i s m first begun u b old fault → PutsKnown i s m first begun u b old q
  knew_err u b old q fault y e is h = rw is (rw e h)

module _ {T S F M Sum G : Type 0} (i : Items T) (s : Sources S F) (m : Summers M T Sum G) (laws : Laws s m) (first : M) (begun : S) where
  abbrev Read : S → List ℕ → Type 0
  Read now = IsSumRead i s begun now

  pub way_begins : IsOnTheWay s m first begun first begun
  way_begins = record { goes = laws.summer_steps.none first; went = laws.store_steps.none begun; gets = noted_none (s.gets begun) (s.gets begun) refl }

  pub way_on : (a b : S) (u v : M) → GoOn i s m a b u v → IsOnTheWay s m first begun u a → IsOnTheWay s m first begun v b
  way_on a b u v g h = record {
    goes = laws.summer_steps.both first u v h.goes g.summer;
    went = laws.store_steps.both begun a b h.went g.store;
    gets = noted_both (s.gets begun) (s.gets a) (s.gets b) h.gets g.gets;
  }

  -- a place that was got is one that was got later too
  since_longer : (at : ℕ) (a b : S) → IsSince at (s.gets begun) (s.gets a) → Noted (s.gets a) (s.gets b) → IsSince at (s.gets begun) (s.gets b)
  since_longer at a b h k = (k.0 ++ h.0, k.1 ∙ ap (λ t. k.0 ++ t) h.1 ∙ sym (append_assoc k.0 h.0 (s.gets begun)), Contains-append_right k.0 h.0 at h.2)

  read_on : (a b : S) → s.goes a b → Noted (s.gets a) (s.gets b) → (bytes : List ℕ) → Read a bytes → Read b bytes
  read_on a b later gets bytes h = record {
    at = h.at;
    since = since_longer h.at a b h.since gets;
    mid = h.mid;
    went = h.went;
    later = laws.store_steps.both h.mid a b h.later later;
    children = h.children;
    fits = h.fits;
    stood = h.stood;
    child = h.child;
    inside = h.inside;
    is = h.is;
  }

  -- what was read stays so
  pub read_goes : (a b : S) (u v : M) → GoOn i s m a b u v → (bytes : List ℕ) → Read a bytes → Read b bytes
  read_goes a b u v g = read_on a b g.store g.gets

  module _ (a b : S) (u v : M) (g : GoOn i s m a b u v) where
    pub node_goes : (node : Node T) → KnowsNode i s m first begun u a node → KnowsNode i s m first begun v b node
    node_goes = node_into i m (Read a) (Read b) first u v (read_goes a b u v g) (gave_goes s m laws first u v g.summer)

    pub row_goes : (cs : List (Child T)) → KnowsRow i s m first begun u a cs → KnowsRow i s m first begun v b cs
    row_goes = row_into i m (Read a) (Read b) first u v (read_goes a b u v g) (gave_goes s m laws first u v g.summer)

    pub sum_goes : (bytes : List ℕ) → KnowsSum i s m first begun u a bytes → KnowsSum i s m first begun v b bytes
    sum_goes = sum_into i m (Read a) (Read b) first u v (read_goes a b u v g) (gave_goes s m laws first u v g.summer)

  -- a node was put, or tried
  put_known : (Later : S → S → Type 0) (a b : S) (u v : M) → m.goes u v → Later a b → Noted (s.gets a) (s.gets b) → (node : Node T) (piece : List ℕ) → s.puts b ≡ piece ∷ s.puts a → piece ≡ spelled_node i.spelled node → FitsNode i.fits i.spelled node → KnowsNode i s m first begun u a node
      → ArePiecesKnown i s m first begun Later v b (s.puts a)
  put_known Later a b u v g later gets node piece e is fits h =
      let known : IsPieceKnown i s m first begun Later v b piece (s.puts a) =
      record { before = a; later = later; puts = refl; gets = gets; node = node; fits = fits; bytes_are = is; sums = node_on i m (Read a) first u v (gave_goes s m laws first u v g) node h } in
      (piece ∷ [], e, (known, tt))

  pub put_goes : (a b : S) (u v : M) → GoOn i s m a b u v → (node : Node T) (piece : List ℕ) → s.puts b ≡ piece ∷ s.puts a → piece ≡ spelled_node i.spelled node → FitsNode i.fits i.spelled node → KnowsNode i s m first begun u a node → KnowsPieces i s m first begun v b (s.puts a)
  put_goes a b u v g node piece e is fits h = put_known s.goes a b u v g.summer g.store g.gets node piece e is fits h

  pub put_fails : (a b : S) (u v : M) (fault : F) → s.fails a b fault → m.goes u v → s.gets b ≡ s.gets a → (node : Node T) (piece : List ℕ) → s.puts b ≡ piece ∷ s.puts a → piece ≡ spelled_node i.spelled node → FitsNode i.fits i.spelled node → KnowsNode i s m first begun u a node
      → KnewPieces i s m first begun v b (s.puts a) (tree_fault.Store fault)
  put_fails a b u v fault f g none node piece e is fits h = put_known (λ x y. s.fails x y fault) a b u v g f (noted_none (s.gets a) (s.gets b) none) node piece e is fits h

  -- pieces were put up to b, and more up to c, where more was answered
  module _ (a b c : S) (u v : M) (more : (sum : Sum) → m.gave first u sum → m.gave first v sum) (Later : S → S → Type 0) (later : (x : S) → s.goes x b → Later x c) (seen : Noted (s.gets b) (s.gets c)) where
    piece_later : (bytes : List ℕ) (earlier : List (List ℕ)) → IsPieceKnown i s m first begun s.goes u b bytes earlier → IsPieceKnown i s m first begun Later v c bytes earlier
    piece_later bytes earlier h = record {
      before = h.before;
      later = later h.before h.later;
      puts = h.puts;
      gets = noted_both (s.gets h.before) (s.gets b) (s.gets c) h.gets seen;
      node = h.node;
      fits = h.fits;
      bytes_are = h.bytes_are;
      sums = node_on i m (Read h.before) first u v more h.node h.sums;
    }

    pieces_later : KnowsPieces i s m first begun u b (s.puts a) → ArePiecesKnown i s m first begun Later v c (s.puts b) → ArePiecesKnown i s m first begun Later v c (s.puts a)
    pieces_later h k =
        let Is = IsPieceKnown i s m first begun Later v c in (
          k.0 ++ h.0,
          k.1 ∙ ap (λ t. k.0 ++ t) h.1 ∙ sym (append_assoc k.0 h.0 (s.puts a)),
          turn_both Is k.0 h.0 (s.puts a) (subst (λ t. EachInTurn Is k.0 t) h.1 k.2) (turn_weaker (IsPieceKnown i s m first begun s.goes u b) Is piece_later h.0 (s.puts a) h.2),
        )

  pub known_goes : (a b c : S) (u v : M) → GoOn i s m b c u v → KnowsPieces i s m first begun u b (s.puts a) → KnowsPieces i s m first begun v c (s.puts b) → KnowsPieces i s m first begun v c (s.puts a)
  known_goes a b c u v g h k = pieces_later a b c u v (gave_goes s m laws first u v g.summer) s.goes (λ x w. laws.store_steps.both x b c w g.store) g.gets h k

  pub known_fails : (a b c : S) (u v : M) (fault : TreeFault F G) → Fails i s m b c u v fault → KnowsPieces i s m first begun u b (s.puts a) → KnewPieces i s m first begun v c (s.puts b) fault → KnewPieces i s m first begun v c (s.puts a) fault
  known_fails a b c u v (tree_fault.Store fault) f h k =
      pieces_later a b c u v (gave_goes s m laws first u v f.summer) (λ x y. s.fails x y fault) (λ x w. laws.store_caused x b c fault w (fails_all i s m laws b c fault f.store)) f.gets h k
  known_fails a b c u v (tree_fault.BadNode at) f h k = known_goes a b c u v f h k
  known_fails a b c u v (tree_fault.Summer fault) f h k = pieces_later a b c u v (gave_fails s m laws first i b c u v (tree_fault.Summer fault) f) s.goes (λ x w. laws.store_steps.both x b c w f.store) f.gets h k
  known_fails a b c u v tree_fault.NoMemory f h k = known_goes a b c u v f h k

  -- the summaries of a node that was got
  pub read_knows : (u : M) (a b : S) (at : ℕ) (node : Node T) → IsOnTheWay s m first begun u a → s.goes a b → s.gets b ≡ at ∷ s.gets a → s.nodes b ≡ s.nodes a → FitsNode i.fits i.spelled node → IfSome (s.nodes a) (λ there. there at ≡ Some (spelled_node i.spelled node)) → KnowsNode i s m first begun u b node
  read_knows u a b at (Leaf items) way g got same fits bytes = tt
  read_knows u a b at (Inner children) way g got same fits bytes =
      let more = (way.gets).0 in
      let since : IsSince at (s.gets begun) (s.gets b) = (at ∷ more, got ∙ ap (λ t. at ∷ t) (way.gets).1, (0, omega arith, refl)) in
      All-weaker (Contains children) (λ (c : Child T). KnowsSum i s m first begun u b c.sum)
      (λ c inside. inl (record { at = at; since = since; mid = a; went = way.went; later = g; children = children; fits = fits; stood = bytes; child = c; inside = inside; is = refl })) children (All-contains_itself children)
