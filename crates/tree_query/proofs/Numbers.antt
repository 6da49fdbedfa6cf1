-- Where the numbers of items lead, and at which number a walk is.
use Rattle.std.proofs.Common.{◌≡◌, ◌==◌, ◌+◌, ◌-◌, ◌<◌, ◌≤◌, ℕ, suc, Bool, true, false, Option, Some, None, List, [], ◌∷◌, ◌++◌, length, reverse, refl, sym, ap, ◌∙◌, subst, append_assoc, arith, if◌then◌else◌}
use Rattle.std.proofs.lemmas.List.{append-nil, reverse-append}
use Rattle.tree_laws.specs.declared.item.Item.{Ghosts as Items}
use Rattle.tree_laws.specs.declared.node.Child.{Child}
use Rattle.tree_laws.specs.declared.node.Node.{Node}
use Rattle.tree_laws.specs.declared.node.Node.TheVariants.{Inner}
use Rattle.tree_laws.specs.declared.tree.Fill.{Fill}
use Rattle.tree_laws.specs.declared.tree.Fill.TheVariants.{Below, Root}
use Rattle.tree_laws.specs.declared.tree.Tree.{Tree}
use Rattle.tree_laws.specs.Fitting.{item_count}
use Rattle.tree_laws.specs.Nodes.{is_leaf}
use Rattle.tree_laws.specs.Reaching.{StandsFit}
use Rattle.tree_laws.specs.Spelled.{IsSpelledOnce}
use Rattle.tree_laws.specs.Stores.{Extends, Places}
use Rattle.tree_query.specs.declared.walk.NextChild.{NextChild}
use Rattle.tree_query.specs.declared.walk.WalkRow.{WalkRow}
use Rattle.tree_query.specs.declared.walk.Walk.{Walk}
use Rattle.tree_query.specs.Leading.{AllStand, IsLedTo, Leads, count_in, to_child, to_root}
use Rattle.tree_query.specs.Numbers.{AreAtHand, AreNext, FindsNext, HasNumber, Holds, IsAtEdge, IsFound, IsLedByAll, IsNext, IsPast, RowsNext, edge_after, first_edge, lower, number_at}
use Rattle.tree_query.specs.Walking.{turned}
use Rattle.tree_query.proofs.Counts.{count_append, count_cons}
use Rattle.tree_query.proofs.Leading.{PicksOnce, all_stand}

count_nil : (T : Type 0) (start : ℕ) → start + count_in {T = T} [] ≡ start
count_nil T start = let none : count_in {T = T} [] ≡ 0 = refl in omega (arith, none)

-- ---- a number picks one child at most

holds_once : {T : Type 0} (n start : ℕ) (f b g d : List (Child T)) (c e : Child T) → HasNumber n start f c → HasNumber n start g e → f ++ c ∷ b ≡ g ++ e ∷ d → (f ≡ g) × (c ≡ e)
holds_once n start [] b [] d c e h k is = (refl, (let own : c ≡ e = cc in own))
holds_once {T} n start [] b (y ∷ g) d c e h k is =
    let own : c ≡ y = cc in
    absurd (omega (arith, h.ends, k.begins, ap (λ (x : Child _). x.count) own, count_cons y g, count_nil T start))
holds_once {T} n start (x ∷ f) b [] d c e h k is =
    let own : x ≡ e = cc in
    absurd (omega (arith, k.ends, h.begins, ap (λ (z : Child _). z.count) own, count_cons x f, count_nil T start))
holds_once n start (x ∷ f) b (y ∷ g) d c e h k is =
    let first : x ≡ y = cc in
    let rest : f ++ c ∷ b ≡ g ++ e ∷ d = cc in
    let one = ap (λ (z : Child _). z.count) first in
    let h' : HasNumber n (start + x.count) f c = record { begins = omega (arith, h.begins, count_cons x f); ends = omega (arith, h.ends, count_cons x f) } in
    let k' : HasNumber n (start + x.count) g e = record { begins = omega (arith, k.begins, count_cons y g, one); ends = omega (arith, k.ends, count_cons y g, one) } in
    let q = holds_once n (start + x.count) f b g d c e h' k' rest in
    let lists : x ∷ f ≡ y ∷ g = ap (λ t. x ∷ t) q.0 ∙ ap (λ z. z ∷ g) first in
    (lists, q.1)

pub number_once : {T : Type 0} (n : ℕ) → PicksOnce {T = T} (HasNumber n)
number_once n start f b g d c e h k is = holds_once n start f b g d c e h k is

-- ---- edges

past_none : (flag : Bool) (a b : ℕ) → a ≡ b → IsPast flag a 0 b
past_none false a b e = omega (arith, e)
past_none true a b e = omega (arith, e)

pub past_here : (flag : Bool) (a : ℕ) → IsPast flag a 0 a
past_here flag a = past_none flag a a refl

past_on : (flag : Bool) (a b c n m : ℕ) → IsPast flag a n b → IsPast flag b m c → IsPast flag a (n + m) c
past_on false a b c n m h k = omega (arith, h, k)
past_on true a b c n m h k = omega (arith, h, k)

pub past_rest : (flag : Bool) (a b c n m : ℕ) → IsPast flag a (n + m) c → IsPast flag a n b → IsPast flag b m c
past_rest false a b c n m h k = omega (arith, h, k)
past_rest true a b c n m h k = omega (arith, h, k)

pub past_as : (flag : Bool) (a b n m : ℕ) → n ≡ m → IsPast flag a n b → IsPast flag a m b
past_as flag a b n m e h = subst (λ k. IsPast flag a k b) e h

-- nothing is passed over
past_zero : (flag : Bool) (a b : ℕ) → IsPast flag a 0 b → b ≡ a
past_zero false a b h = omega (arith, h)
past_zero true a b h = omega (arith, h)

-- the number that comes next is one of those that a walk passes over
pub holds_at : (flag : Bool) (a b edge count offset : ℕ) → IsPast flag a count b → IsPast flag a offset edge → offset < count → Holds (number_at flag edge) (lower flag a b) count
holds_at false a b edge count offset h k less = record { begins = omega (arith, k); ends = omega (arith, k, less) }
holds_at true a b edge count offset h k less = record { begins = omega (arith, h, k, less); ends = omega (arith, h, k, less) }

holds_rest : (flag : Bool) (a b edge skip len n : ℕ) → IsPast flag a (skip + len) b → IsPast flag a skip edge → Holds n (lower flag edge b) len → Holds n (lower flag a b) (skip + len)
holds_rest false a b edge skip len n h k m = record { begins = omega (arith, m.begins, k); ends = omega (arith, m.ends, k) }
holds_rest true a b edge skip len n h k m = record { begins = m.begins; ends = omega (arith, m.ends) }

-- after one item
past_one : {X : Type 0} (flag : Bool) (a b len : ℕ) (x : X) → IsPast flag a (suc len) b → IsPast flag (edge_after flag a (Some x)) len b
past_one false a b len x h = omega (arith, h)
past_one true a b len x h = omega (arith, h)

holds_one : {X : Type 0} (flag : Bool) (a b len n : ℕ) (x : X) → IsPast flag a (suc len) b → Holds n (lower flag (edge_after flag a (Some x)) b) len → Holds n (lower flag a b) (suc len)
holds_one false a b len n x h k = record { begins = omega (arith, k.begins); ends = omega (arith, k.ends) }
holds_one true a b len n x h k = record { begins = k.begins; ends = omega (arith, k.ends) }

module _ {T : Type 0} (i : Items T) (there : Places) (tree : Tree) where
  -- ---- the root

  pub root_by_all : (flag : Bool) (node : Node T) → 0 < tree.height → StandsFit i there tree.root (tree.height - 1) tree.count Root node
      → IsLedByAll i there tree tree.root (tree.height - 1) (lower flag (first_edge flag 0 tree.count) (first_edge flag tree.count 0)) node
  root_by_all false node some stands = record { count = tree.count; fill = Root; leads = λ n h. to_root some; stands = stands }
  root_by_all true node some stands = record { count = tree.count; fill = Root; leads = λ n h. to_root some; stands = stands }

  -- ---- children

  child_next : (flag : Bool) (at low start from to : ℕ) (f b : List (Child T)) (c : Child T) → IsLedByAll i there tree at (suc low) start (Inner (f ++ c ∷ b)) → start + count_in f ≡ lower flag from to → IsPast flag from c.count to
      → IsNext i there tree flag low c from to
  child_next flag at low start from to f b c led e past = record {
    past = past;
    leads = λ n h.
        let k : Holds n (start + count_in f) c.count = subst (λ m. Holds n m c.count) (sym e) h in
        let all : count_in (f ++ c ∷ b) ≡ led.count = led.stands.place.items in
        let up : Holds n start led.count = record { begins = omega (arith, k.begins); ends = omega (arith, k.ends, all, count_append f (c ∷ b), count_cons c b) } in
        subst (λ m. Leads i there tree (HasNumber n) c.at low c.count m Below) e (to_child at low led.count start led.fill f b c (led.leads n up) led.stands k);
  }

  next_append : (flag : Bool) (level : ℕ) (cs ds : List (Child T)) (a b d : ℕ) → AreNext i there tree flag level cs a b → AreNext i there tree flag level ds b d → AreNext i there tree flag level (cs ++ ds) a d
  next_append flag level [] ds a b d h k = subst (λ n. AreNext i there tree flag level ds n d) (sym h) k
  next_append flag level (c ∷ cs) ds a b d h k = (h.0, h.1, next_append flag level cs ds h.0 b d h.2 k)

  record Split (flag : Bool) (level : ℕ) (cs ds : List (Child T)) (a d : ℕ) : Type 0 where
    pub mid : ℕ
    pub front : AreNext i there tree flag level cs a mid
    pub back : AreNext i there tree flag level ds mid d

  next_split : (flag : Bool) (level : ℕ) (cs ds : List (Child T)) (a d : ℕ) → AreNext i there tree flag level (cs ++ ds) a d → Split flag level cs ds a d
  next_split flag level [] ds a d h = record { mid = a; front = refl; back = h }
  next_split flag level (c ∷ cs) ds a d h = let k = next_split flag level cs ds h.0 d h.2 in record { mid = k.mid; front = (h.0, h.1, k.front); back = k.back }

  next_past : (flag : Bool) (level : ℕ) (cs : List (Child T)) (a b : ℕ) → AreNext i there tree flag level cs a b → IsPast flag a (count_in cs) b
  next_past flag level [] a b h = past_none flag a b h
  next_past flag level (c ∷ cs) a b h = past_as flag a b (c.count + count_in cs) (count_in (c ∷ cs)) (sym (count_cons c cs)) (past_on flag a h.0 b c.count (count_in cs) h.1.past (next_past flag level cs h.0 b h.2))

  module _ (at low start : ℕ) (cs : List (Child T)) (led : IsLedByAll i there tree at (suc low) start (Inner cs)) where
    up_next : (f rest : List (Child T)) → cs ≡ f ++ rest → AreNext i there tree false low rest (start + count_in f) (start + count_in cs)
    up_next f [] e = let all : count_in cs ≡ count_in f = ap count_in (e ∙ append-nil f) in omega (arith, all)
    up_next f (c ∷ rest) e =
        let own = subst (λ ds. IsLedByAll i there tree at (suc low) start (Inner ds)) e led in
        let one : count_in (c ∷ []) ≡ c.count = omega (arith, count_cons c [], count_nil T 0) in
        let past : IsPast false (start + count_in f) c.count (start + count_in (f ++ c ∷ [])) = omega (arith, count_append f (c ∷ []), one) in (
          start + count_in (f ++ c ∷ []),
          child_next false at low start (start + count_in f) (start + count_in (f ++ c ∷ [])) f rest c own refl past,
          up_next (f ++ c ∷ []) rest (e ∙ sym (append_assoc f (c ∷ []) rest)),
        )

    down_next : (f rest : List (Child T)) → cs ≡ f ++ rest → AreNext i there tree true low (reverse rest) (start + count_in cs) (start + count_in f)
    down_next f [] e = let all : count_in cs ≡ count_in f = ap count_in (e ∙ append-nil f) in omega (arith, all)
    down_next f (c ∷ rest) e =
        let own = subst (λ ds. IsLedByAll i there tree at (suc low) start (Inner ds)) e led in
        let one : count_in (c ∷ []) ≡ c.count = omega (arith, count_cons c [], count_nil T 0) in
        let past : IsPast true (start + count_in (f ++ c ∷ [])) c.count (start + count_in f) = omega (arith, count_append f (c ∷ []), one) in
        let last : AreNext i there tree true low (c ∷ []) (start + count_in (f ++ c ∷ [])) (start + count_in f) =
        (start + count_in f, child_next true at low start (start + count_in (f ++ c ∷ [])) (start + count_in f) f rest c own refl past, refl) in
        let all = next_append true low (reverse rest) (c ∷ []) (start + count_in cs) (start + count_in (f ++ c ∷ [])) (start + count_in f) (down_next (f ++ c ∷ []) rest (e ∙ sym (append_assoc f (c ∷ []) rest))) last in
        subst (λ ds. AreNext i there tree true low ds (start + count_in cs) (start + count_in f)) (sym (reverse-append (c ∷ []) rest)) all

  -- the children of a node, in the order of a walk
  node_next : (flag : Bool) (at low from to : ℕ) (cs : List (Child T)) → IsLedByAll i there tree at (suc low) (lower flag from to) (Inner cs) → IsPast flag from (count_in cs) to → AreNext i there tree flag low (turned flag cs) from to
  node_next false at low from to cs led past =
      subst (λ n. AreNext i there tree false low cs from n) (sym past) (subst (λ n. AreNext i there tree false low cs n (from + count_in cs)) (count_nil T from) (up_next at low from cs led [] cs refl))
  node_next true at low from to cs led past =
      subst (λ n. AreNext i there tree true low (reverse cs) n to) (sym past) (subst (λ n. AreNext i there tree true low (reverse cs) (to + count_in cs) n) (count_nil T to) (down_next at low to cs led [] cs refl))

  -- the child of the item that comes next, and the children after it
  pub record Turn (flag : Bool) (low : ℕ) (c : Child T) (rest : List (Child T)) (offset edge to : ℕ) : Type 0 where
    pub begin : ℕ
    pub end : ℕ
    pub own : IsNext i there tree flag low c begin end
    pub after : AreNext i there tree flag low rest end to
    pub past : IsPast flag begin offset edge

  turn_at : (flag : Bool) (low : ℕ) (list front found rest : List (Child T)) (c : Child T) (skip offset from edge to : ℕ) → AreNext i there tree flag low list from to → list ≡ front ++ found → found ≡ c ∷ rest → count_in front + offset ≡ skip → IsPast flag from skip edge
      → Turn flag low c rest offset edge to
  turn_at flag low list front found rest c skip offset from edge to h e is count skipped =
      let all : AreNext i there tree flag low (front ++ c ∷ rest) from to = subst (λ ds. AreNext i there tree flag low ds from to) (e ∙ ap (λ t. front ++ t) is) h in
      let k = next_split flag low front (c ∷ rest) from to all in
      let b : AreNext i there tree flag low (c ∷ rest) k.mid to = k.back in
      record {
        begin = k.mid;
        end = b.0;
        own = b.1;
        after = b.2;
        past = past_rest flag from k.mid edge (count_in front) offset (past_as flag from edge skip (count_in front + offset) (sym count) skipped) (next_past flag low front from k.mid k.front);
      }

  -- on from a node to the child of the item that comes next
  pub node_turn : (flag : Bool) (at level low : ℕ) (node : Node T) (cs list front found rest : List (Child T)) (c : Child T) (skip offset from edge to : ℕ) → node ≡ Inner cs → level ≡ suc low → list ≡ turned flag cs → list ≡ front ++ found → found ≡ c ∷ rest
      → count_in front + offset ≡ skip → IsLedByAll i there tree at level (lower flag from to) node → IsPast flag from (item_count node) to → IsPast flag from skip edge → Turn flag low c rest offset edge to
  node_turn flag at level low node cs list front found rest c skip offset from edge to is up turns e first count led past skipped =
      let led' : IsLedByAll i there tree at (suc low) (lower flag from to) (Inner cs) = subst (λ l. IsLedByAll i there tree at l (lower flag from to) (Inner cs)) up (subst (IsLedByAll i there tree at level (lower flag from to)) is led) in
      let all = node_next flag at low from to cs led' (past_as flag from to (item_count node) (count_in cs) (ap item_count is) past) in
      turn_at flag low list front found rest c skip offset from edge to (subst (λ ds. AreNext i there tree flag low ds from to) (sym turns) all) e first count skipped

  -- where the number of the item that comes next leads
  pub next_leads : (flag : Bool) (low : ℕ) (c : Child T) (begin end edge offset : ℕ) → IsNext i there tree flag low c begin end → IsPast flag begin offset edge → offset < c.count
      → Leads i there tree (HasNumber (number_at flag edge)) c.at low c.count (lower flag begin end) Below
  next_leads flag low c begin end edge offset own skipped less = own.leads (number_at flag edge) (holds_at flag begin end edge c.count offset own.past skipped less)

  -- a child that was got
  pub child_got : (flag : Bool) (low : ℕ) (c : Child T) (begin end : ℕ) (node : Node T) → IsNext i there tree flag low c begin end → StandsFit i there c.at low c.count Below node → IsLedByAll i there tree c.at low (lower flag begin end) node
  child_got flag low c begin end node own stands = record { count = c.count; fill = Below; leads = own.leads; stands = stands }

  pub child_past : (flag : Bool) (low : ℕ) (c : Child T) (begin end : ℕ) (node : Node T) → IsNext i there tree flag low c begin end → StandsFit i there c.at low c.count Below node → IsPast flag begin (item_count node) end
  child_past flag low c begin end node own stands = past_as flag begin end c.count (item_count node) (sym stands.place.items) own.past

  -- ---- items at hand

  -- those of a leaf after the first ones
  pub leaf_at_hand : (flag : Bool) (at level : ℕ) (node : Node T) (leaf : List T) (skip from edge to : ℕ) → level ≡ 0 → item_count node ≡ skip + length leaf → IsLedByAll i there tree at level (lower flag from to) node → IsPast flag from (item_count node) to
      → IsPast flag from skip edge → AreAtHand i there tree flag leaf edge to
  leaf_at_hand flag at level node leaf skip from edge to low count led past skipped =
      let all : IsPast flag from (skip + length leaf) to = past_as flag from to (item_count node) (skip + length leaf) count past in
      record {
        past = past_rest flag from edge to skip (length leaf) all skipped;
        found = λ n h.
            let k = holds_rest flag from to edge skip (length leaf) n all skipped h in
            let own : Holds n (lower flag from to) led.count = subst (Holds n (lower flag from to)) (sym count ∙ led.stands.place.items) k in
            let there-is : IsLedTo i there tree (HasNumber n) at level (lower flag from to) node = record { count = led.count; fill = led.fill; leads = led.leads n own; stands = led.stands } in
            record { at = at; start = lower flag from to; leaf = node; led = subst (λ l. IsLedTo i there tree (HasNumber n) at l (lower flag from to) node) low there-is };
      }

  pub none_at_hand : (flag : Bool) (leaf : List T) (edge : ℕ) → leaf ≡ [] → AreAtHand i there tree flag leaf edge edge
  none_at_hand flag [] edge e = record { past = past_here flag edge; found = λ n h. absurd (omega (arith, h.begins, h.ends)) }
  none_at_hand flag (x ∷ leaf) edge e = absurd (cc)

  -- without the first
  pub at_hand_rest : (flag : Bool) (leaf rest : List T) (x : T) (from to : ℕ) → leaf ≡ x ∷ rest → AreAtHand i there tree flag leaf from to → AreAtHand i there tree flag rest (edge_after flag from (Some x)) to
  at_hand_rest flag leaf rest x from to e h =
      let past : IsPast flag from (suc (length rest)) to = past_as flag from to (length leaf) (suc (length rest)) (ap length e) h.past in
      record {
        past = past_one flag from to (length rest) x past;
        found = λ n k. h.found n (subst (Holds n (lower flag from to)) (sym (ap length e)) (holds_one flag from to (length rest) n x past k));
      }

  -- where there are none, the walk is still at the edge
  pub nothing_at_hand : (flag : Bool) (leaf : List T) (from to : ℕ) → leaf ≡ [] → AreAtHand i there tree flag leaf from to → to ≡ from
  nothing_at_hand flag leaf from to e h = past_zero flag from to (past_as flag from to (length leaf) 0 (ap length e) h.past)

  -- the first was found
  pub first_found : (flag : Bool) (leaf : List T) (from to : ℕ) → 0 < length leaf → AreAtHand i there tree flag leaf from to → IsFound i there tree (number_at flag from)
  first_found flag leaf from to some h = h.found (number_at flag from) (holds_at flag from to from (length leaf) 0 h.past (past_here flag from) some)

  pub found_stands : (once : IsSpelledOnce i.fits i.spelled) (n : ℕ) → IsFound i there tree n → AllStand i there tree (HasNumber n)
  found_stands once n h = all_stand i there tree (HasNumber n) once (number_once n) h.at 0 h.start h.leaf h.led
      (λ front back child e picked.
      let kind : is_leaf h.leaf ≡ (0 == 0) = h.led.stands.place.kind in
      let both : is_leaf (Inner (front ++ child ∷ back)) ≡ (0 == 0) = subst (λ node. is_leaf node ≡ (0 == 0)) e kind in
      absurd (cc))

  -- ---- rows

  pub rows_push : (flag : Bool) (rows : List (WalkRow T)) (row : WalkRow T) (a b d : ℕ) → AreNext i there tree flag row.level row.children a b → RowsNext i there tree flag rows b d → RowsNext i there tree flag (rows ++ row ∷ []) a d
  rows_push flag [] row a b d h k = (a, refl, subst (AreNext i there tree flag row.level row.children a) k h)
  rows_push flag (r ∷ rows) row a b d h k = (k.0, rows_push flag rows row a b k.0 h k.1, k.2)

  pub rows_append : (flag : Bool) (rows fresh : List (WalkRow T)) (a b d : ℕ) → RowsNext i there tree flag fresh a b → RowsNext i there tree flag rows b d → RowsNext i there tree flag (rows ++ fresh) a d
  rows_append flag [] fresh a b d h k = subst (RowsNext i there tree flag fresh a) k h
  rows_append flag (r ∷ rows) fresh a b d h k = (k.0, rows_append flag rows fresh a b k.0 h k.1, k.2)

  pub record Popped (flag : Bool) (rows : List (WalkRow T)) (row : WalkRow T) (a d : ℕ) : Type 0 where
    pub mid : ℕ
    pub own : AreNext i there tree flag row.level row.children a mid
    pub others : RowsNext i there tree flag rows mid d

  pub rows_pop : (flag : Bool) (rows : List (WalkRow T)) (row : WalkRow T) (a d : ℕ) → RowsNext i there tree flag (rows ++ row ∷ []) a d → Popped flag rows row a d
  rows_pop flag [] row a d h = record { mid = d; own = subst (λ n. AreNext i there tree flag row.level row.children n d) (sym h.1) h.2; others = refl }
  rows_pop flag (r ∷ rows) row a d h =
      let k = rows_pop flag rows row a h.0 h.1 in
      record { mid = k.mid; own = k.own; others = (h.0, k.others, h.2) }

  pub next_none : (flag : Bool) (level : ℕ) (cs : List (Child T)) (a b : ℕ) → cs ≡ [] → AreNext i there tree flag level cs a b → a ≡ b
  next_none flag level [] a b e h = h
  next_none flag level (c ∷ cs) a b e h = absurd (cc)

  pub rows_none : (flag : Bool) (rows : List (WalkRow T)) (a : ℕ) → rows ≡ [] → RowsNext i there tree flag rows a a
  rows_none flag [] a e = refl
  rows_none flag (r ∷ rows) a e = absurd (cc)

-- where the items of the whole tree begin, and how many a walk over a range passes over first
pub skipped_past : (flag : Bool) (count from to skip : ℕ) → to ≤ count → skip ≡ (if flag then count - to else from) → IsPast flag (first_edge flag 0 count) skip (first_edge flag from to)
skipped_past false count from to skip within e = omega (arith, e)
skipped_past true count from to skip within e = omega (arith, e, within)

pub tree_past : (flag : Bool) (count n : ℕ) → n ≡ count → IsPast flag (first_edge flag 0 count) n (first_edge flag count 0)
tree_past false count n e = omega (arith, e)
tree_past true count n e = omega (arith, e)

-- ---- a store that was added to

module _ {T : Type 0} (i : Items T) (old new : Places) (e : Extends old new) (tree : Tree) where
  leads_stay : (Picks : ℕ → List (Child T) → Child T → Type 0) (at level count start : ℕ) (fill : Fill) → Leads i old tree Picks at level count start fill → Leads i new tree Picks at level count start fill
  leads_stay Picks at level count start fill (to_root some) = to_root some
  leads_stay Picks at level count start fill (to_child up low n begin place f b c h s p) =
      to_child up low n begin place f b c (leads_stay Picks up (suc low) n begin place h) (record { fits = s.fits; bytes = e up _ s.bytes; place = s.place }) p

  found_stays : (n : ℕ) → IsFound i old tree n → IsFound i new tree n
  found_stays n h = record {
    at = h.at;
    start = h.start;
    leaf = h.leaf;
    led = record {
      count = h.led.count;
      fill = h.led.fill;
      leads = leads_stay (HasNumber n) h.at 0 h.led.count h.start h.led.fill h.led.leads;
      stands = record { fits = h.led.stands.fits; bytes = e h.at _ h.led.stands.bytes; place = h.led.stands.place };
    };
  }

  next_stays : (flag : Bool) (level : ℕ) (c : Child T) (a b : ℕ) → IsNext i old tree flag level c a b → IsNext i new tree flag level c a b
  next_stays flag level c a b h = record { past = h.past; leads = λ n k. leads_stay (HasNumber n) c.at level c.count (lower flag a b) Below (h.leads n k) }

  children_stay : (flag : Bool) (level : ℕ) (cs : List (Child T)) (a b : ℕ) → AreNext i old tree flag level cs a b → AreNext i new tree flag level cs a b
  children_stay flag level [] a b h = h
  children_stay flag level (c ∷ cs) a b h = (h.0, next_stays flag level c a h.0 h.1, children_stay flag level cs h.0 b h.2)

  rows_stay : (flag : Bool) (rows : List (WalkRow T)) (a b : ℕ) → RowsNext i old tree flag rows a b → RowsNext i new tree flag rows a b
  rows_stay flag [] a b h = h
  rows_stay flag (r ∷ rows) a b h = (h.0, rows_stay flag rows a h.0 h.1, children_stay flag r.level r.children h.0 b h.2)

  finds_stay : (flag : Bool) (next : Option (NextChild T)) (rows : List (WalkRow T)) (a b : ℕ) → FindsNext i old tree flag next rows a b → FindsNext i new tree flag next rows a b
  finds_stay flag None rows a b h = h
  finds_stay flag (Some next) rows a b h = (h.0, next_stays flag next.level next.child a h.0 h.1, rows_stay flag rows h.0 b h.2)

  pub edge_stays : (walk : Walk T) (edge : ℕ) → IsAtEdge i old tree walk edge → IsAtEdge i new tree walk edge
  edge_stays walk edge h = record {
    to = h.to;
    goes = record {
      mid = h.goes.mid;
      at_hand = record { past = h.goes.at_hand.past; found = λ n k. found_stays n (h.goes.at_hand.found n k) };
      finds = finds_stay walk.descending walk.next walk.rows.items h.goes.mid h.to h.goes.finds;
    };
  }
