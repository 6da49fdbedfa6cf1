-- What a value of a range rests on, gathered along the calls that go down a tree.
use Rattle.std.proofs.Common.{◌≡◌, ◌+◌, ◌-◌, ◌^◌, ◌<◌, ◌≤◌, ℕ, zero, suc, List, [], ◌∷◌, ◌++◌, All, Some, length, map, refl, sym, ap, ◌∙◌, subst, arith}
use Rattle.std.proofs.Math.Nat.{pow-succ'}
use Rattle.std.proofs.lemmas.List.Elements.{All-cons, All-head, All-nil, All-tail, All-weaker}
use Rattle.tree_laws.specs.declared.item.Item.{Ghosts as Items}
use Rattle.tree_laws.specs.declared.summer.Summer.{Ghosts as Summers}
use Rattle.tree_laws.specs.declared.node.Child.{Child}
use Rattle.tree_laws.specs.declared.node.Node.{Node}
use Rattle.tree_laws.specs.declared.node.Node.TheVariants.{Inner, Leaf}
use Rattle.tree_laws.specs.declared.tree.Fill.{Fill}
use Rattle.tree_laws.specs.declared.tree.Fill.TheVariants.{Below, Root}
use Rattle.tree_laws.specs.declared.tree.Tree.{Tree}
use Rattle.tree_laws.specs.Fitting.{item_count}
use Rattle.tree_laws.specs.Meaning.{KeepsMeaning, Meaning, Values}
use Rattle.tree_laws.specs.Nodes.{spelled_node}
use Rattle.tree_laws.specs.Reaching.{StandsFit}
use Rattle.tree_laws.specs.Spelled.{IsSpelledOnce}
use Rattle.tree_laws.specs.Stores.{Places}
use Rattle.tree_laws.specs.Values.{values_of}
use Rattle.tree_laws.proofs.Prefixes.{node_once}
use Rattle.tree_query.specs.Leading.{to_child, to_root}
use Rattle.tree_query.specs.Summaries.{BeginsInFirst, ChildIsRead, IsCut, IsRead, IsWhole, NodeIsRead, RangeIsRead, RangeLeads, RowIsRead, count_in}
use Rattle.tree_query.proofs.Counts.{count_append, count_cons}

-- more items than the number where a range begins in the first child
pub first_within : {T : Type 0} (cs : List (Child T)) (o : ℕ) → 0 < length cs → BeginsInFirst cs o → o ≤ count_in cs
first_within [] o some f = absurd (omega arith)
first_within (c ∷ cs) o some f = omega (arith, f c cs refl, count_cons c cs)

power_some : (n : ℕ) → 1 ≤ 8 ^ n
power_some zero = omega arith
power_some (suc n) = let some = power_some n in omega (arith, some, pow-succ' 8 n)

all_one : {X : Type 0} (P : X → Type 0) (front back : List X) (x : X) → All P (front ++ x ∷ back) → P x
all_one P [] back x h = All-head P x back h
all_one P (y ∷ ys) back x h = all_one P ys back x (All-tail P y (ys ++ x ∷ back) h)

-- ---- the same range, counted from a later item

module _ (from to start count : ℕ) where
  whole_from : IsWhole from to start count → IsWhole (from - start) (to - start) 0 count
  whole_from w = record { begins = omega (arith, w.begins); ends = omega (arith, w.ends) }

  cut_from : 0 < count → IsCut from to start count → IsCut (from - start) (to - start) 0 count
  cut_from some k = record {
    begins = omega (arith, k.begins, some);
    ends = omega (arith, k.ends);
    parted = λ w. k.parted (record { begins = omega (arith, w.begins); ends = omega (arith, w.ends, some) });
  }

-- ---- summaries

module _ {T S : Type 0} (v : Values T S) where
  -- the summaries of children that were read
  pub all_read : (cs : List (Child T)) (sums : List S) → map (λ c. c.sum) cs ≡ map v.meaning.spelled sums → All v.fits sums → All (λ c. IsRead v c.sum) cs
  all_read [] sums e h = All-nil (λ (c : Child T). IsRead v c.sum)
  all_read (c ∷ cs) [] e h = absurd (cc)
  all_read (c ∷ cs) (sum ∷ sums) e h =
      let one : c.sum ≡ v.meaning.spelled sum = cc in
      let others : map (λ (d : Child T). d.sum) cs ≡ map v.meaning.spelled sums = cc in
      All-cons (λ (d : Child T). IsRead v d.sum) c cs (record { sum = sum; fits = All-head v.fits sum sums h; bytes_are = one }) (all_read cs sums others (All-tail v.fits sum sums h))

module _ {T M Sum Fault : Type 0} (m : Summers M T Sum Fault) (laws : KeepsMeaning m.goes m.meaning m.lawful m.usable m.fits) where
  read_before : (first u : M) (bytes : List ℕ) → m.goes first u → IsRead (values_of m u) bytes → IsRead (values_of m first) bytes
  read_before first u bytes g h = record { sum = h.sum; fits = (laws.fits first u h.sum g).1 h.fits; bytes_are = h.bytes_are ∙ ap (λ (x : Meaning T Sum). x.spelled h.sum) (laws.meaning first u g) }

  -- what a summer reads after calls is what it read before them
  pub all_before : (first u : M) (cs : List (Child T)) → m.goes first u → All (λ c. IsRead (values_of m u) c.sum) cs → All (λ c. IsRead (values_of m first) c.sum) cs
  all_before first u cs g h = All-weaker (λ (c : Child T). IsRead (values_of m u) c.sum) (λ (c : Child T). IsRead (values_of m first) c.sum) (λ c k. read_before first u c.sum g k) cs h

-- ---- children of one level

module _ {T S : Type 0} (i : Items T) (v : Values T S) (there : Places) (level : ℕ) where
  row_same : (cs : List (Child T)) (from to f t : ℕ) → f ≡ from → t ≡ to → RowIsRead i v there level cs f t → RowIsRead i v there level cs from to
  row_same cs from to f t e k h = subst (λ n. RowIsRead i v there level cs n to) e (subst (λ n. RowIsRead i v there level cs f n) k h)

  pub row_append : (front back : List (Child T)) (from to f t : ℕ) → f ≡ from - count_in front → t ≡ to - count_in front → RowIsRead i v there level front from to → RowIsRead i v there level back f t → RowIsRead i v there level (front ++ back) from to
  row_append [] back from to f t e k h after = row_same back from to f t (omega (arith, e)) (omega (arith, k)) after
  row_append (c ∷ cs) back from to f t e k h after =
      (h.0, row_append cs back (from - c.count) (to - c.count) f t (omega (arith, e, count_cons c cs)) (omega (arith, k, count_cons c cs)) h.1 after)

  -- children before the range
  pub row_before : (cs : List (Child T)) (from to : ℕ) → count_in cs ≤ from → RowIsRead i v there level cs from to
  row_before [] from to h = tt
  row_before (c ∷ cs) from to h = (
    record { whole = λ some w. absurd (omega (arith, some, w.begins, h, count_cons c cs)); cut = λ k. absurd (omega (arith, k.begins, h, count_cons c cs)) },
    row_before cs (from - c.count) (to - c.count) (omega (arith, h, count_cons c cs)),
  )

  -- and behind it
  pub row_after : (cs : List (Child T)) (from to : ℕ) → to ≡ 0 → RowIsRead i v there level cs from to
  row_after [] from to h = tt
  row_after (c ∷ cs) from to h = (
    record { whole = λ some w. absurd (omega (arith, some, w.ends, h)); cut = λ k. absurd (omega (arith, k.ends, h)) },
    row_after cs (from - c.count) (to - c.count) (omega (arith, h)),
  )

  -- children whose items are all of the range
  pub row_whole : (cs : List (Child T)) (from to : ℕ) → from ≡ 0 → count_in cs ≤ to → All (λ c. IsRead v c.sum) cs → RowIsRead i v there level cs from to
  row_whole [] from to e h all = tt
  row_whole (c ∷ cs) from to e h all = (
    record {
      whole = λ some w. All-head (λ (d : Child T). IsRead v d.sum) c cs all;
      cut = λ k. absurd (k.parted (record { begins = omega (arith, e); ends = omega (arith, h, count_cons c cs) }));
    },
    row_whole cs (from - c.count) (to - c.count) (omega (arith, e)) (omega (arith, h, count_cons c cs)) (All-tail (λ (d : Child T). IsRead v d.sum) c cs all),
  )

  pub row_none : (cs : List (Child T)) (from to : ℕ) → cs ≡ [] → RowIsRead i v there level cs from to
  row_none [] from to e = tt
  row_none (c ∷ cs) from to e = absurd (cc)

  module _ (c : Child T) (cs : List (Child T)) (node : Node T) (stands : StandsFit i there c.at level c.count Below node) (from to : ℕ) (read : NodeIsRead i v there level node from to) where
    -- the range begins in the first child, and has all of the others
    pub row_tail : 0 < from → from < c.count → count_in (c ∷ cs) ≤ to → All (λ d. IsRead v d.sum) cs → RowIsRead i v there level (c ∷ cs) from to
    row_tail some less h all = (
      record { whole = λ many w. absurd (omega (arith, some, w.begins)); cut = λ k. (node, stands, read) },
      row_whole cs (from - c.count) (to - c.count) (omega (arith, less)) (omega (arith, h, count_cons c cs)) all,
    )

    -- it ends in the first child
    pub row_head : to < c.count → RowIsRead i v there level (c ∷ cs) from to
    row_head less = (
      record { whole = λ many w. absurd (omega (arith, less, w.ends)); cut = λ k. (node, stands, read) },
      row_after cs (from - c.count) (to - c.count) (omega (arith, less)),
    )

  -- what is known of one of the children
  row_one : (front back : List (Child T)) (c : Child T) (from to f t : ℕ) → from - count_in front ≡ f → to - count_in front ≡ t → RowIsRead i v there level (front ++ c ∷ back) from to → ChildIsRead i v there (NodeIsRead i v there level) level c f t
  row_one [] back c from to f t e k h =
      let P = ChildIsRead i v there (NodeIsRead i v there level) level c in
      let begins : from ≡ f = omega (arith, e) in
      let ends : to ≡ t = omega (arith, k) in
      subst (λ n. P n t) begins (subst (λ n. P from n) ends h.0)
  row_one (d ∷ ds) back c from to f t e k h = row_one ds back c (from - d.count) (to - d.count) f t (omega (arith, e, count_cons d ds)) (omega (arith, k, count_cons d ds)) h.1

-- ---- nodes

module _ {T S : Type 0} (i : Items T) (v : Values T S) (there : Places) where
  leaf_read : (level : ℕ) (xs : List T) (from to : ℕ) → NodeIsRead i v there level (Leaf xs) from to
  leaf_read zero xs from to = tt
  leaf_read (suc level) xs from to = tt

  pub is_leaf_read : (level : ℕ) (node : Node T) (xs : List T) (from to : ℕ) → node ≡ Leaf xs → NodeIsRead i v there level node from to
  is_leaf_read level node xs from to is = subst (λ n. NodeIsRead i v there level n from to) (sym is) (leaf_read level xs from to)

  -- a node whose children are these in two parts
  pub node_read : (level low : ℕ) (node : Node T) (cs front back : List (Child T)) (from to f t : ℕ) → node ≡ Inner cs → level ≡ suc low → cs ≡ front ++ back → f ≡ from - count_in front → t ≡ to - count_in front
      → RowIsRead i v there low front from to → RowIsRead i v there low back f t → NodeIsRead i v there level node from to
  node_read level low node cs front back from to f t is up e b n h k =
      let row : RowIsRead i v there low cs from to = subst (λ ds. RowIsRead i v there low ds from to) (sym e) (row_append i v there low front back from to f t b n h k) in
      let own : NodeIsRead i v there (suc low) (Inner cs) from to = row in
      subst (λ n. NodeIsRead i v there level n from to) (sym is) (subst (λ l. NodeIsRead i v there l (Inner cs) from to) (sym up) own)

  -- how many items the second part has at most
  pub back_within : (node : Node T) (cs front back : List (Child T)) (to : ℕ) → node ≡ Inner cs → cs ≡ front ++ back → item_count node ≤ to → count_in back ≤ to - count_in front
  back_within node cs front back to is e h =
      let all : item_count node ≡ count_in front + count_in back = ap item_count is ∙ ap count_in e ∙ count_append front back in
      omega (arith, all, h)

  module _ (once : IsSpelledOnce i.fits i.spelled) (tree : Tree) (from to : ℕ) where
    -- the node that stands where the range leads, and what a value rests on there
    record IsLed (at level count start : ℕ) (fill : Fill) : Type 0 where
      pub node : Node T
      pub stands : StandsFit i there at level count fill node
      pub read : NodeIsRead i v there level node (from - start) (to - start)

    same_stands : (at level count : ℕ) (fill : Fill) (a b : Node T) → StandsFit i there at level count fill a → StandsFit i there at level count fill b → a ≡ b
    same_stands at level count fill a b h k =
        let bytes : Some (spelled_node i.spelled a) ≡ Some (spelled_node i.spelled b) = sym h.bytes ∙ k.bytes in
        let same : spelled_node i.spelled a ≡ spelled_node i.spelled b = cc in
        node_once i.fits i.spelled once a b h.fits k.fits same

    child_led : (at level count start : ℕ) (fill : Fill) (front back : List (Child T)) (child : Child T) → IsLed at (suc level) count start fill → StandsFit i there at (suc level) count fill (Inner (front ++ child ∷ back))
        → ChildIsRead i v there (NodeIsRead i v there level) level child (from - (start + count_in front)) (to - (start + count_in front))
    child_led at level count start fill front back child led stands =
        let same = same_stands at (suc level) count fill led.node (Inner (front ++ child ∷ back)) led.stands stands in
        let row : RowIsRead i v there level (front ++ child ∷ back) (from - start) (to - start) = subst (λ n. NodeIsRead i v there (suc level) n (from - start) (to - start)) same led.read in
        row_one i v there level front back child (from - start) (to - start) (from - (start + count_in front)) (to - (start + count_in front)) (omega arith) (omega arith) row

    child_some : (at level count : ℕ) (fill : Fill) (front back : List (Child T)) (child : Child T) → StandsFit i there at (suc level) count fill (Inner (front ++ child ∷ back)) → 0 < child.count
    child_some at level count fill front back child stands =
        let many : 8 ^ suc level ≤ child.count = all_one (λ (c : Child T). 8 ^ suc level ≤ c.count) front back child stands.place.large in
        omega (arith, many, power_some (suc level))

    module _ (root : Node T) (stands : StandsFit i there tree.root (tree.height - 1) tree.count Root root) (read : NodeIsRead i v there (tree.height - 1) root from to) where
      led : (at level count start : ℕ) (fill : Fill) → RangeLeads i there tree from to at level count start fill → IsLed at level count start fill
      led at level count start fill (to_root some) =
          let begins : from ≡ from - 0 = omega arith in
          let ends : to ≡ to - 0 = omega arith in
          record {
            node = root;
            stands = stands;
            read = subst (λ n. NodeIsRead i v there (tree.height - 1) root n (to - 0)) begins (subst (λ n. NodeIsRead i v there (tree.height - 1) root from n) ends read);
          }
      led at level count start fill (to_child up low n begin place front back child h s cut) =
          let own = child_led up low n begin place front back child (led up (suc low) n begin place h) s in
          let node = own.cut (cut_from from to (begin + count_in front) child.count (child_some up low n place front back child s) cut) in
          record { node = node.0; stands = node.1; read = node.2 }

      -- a root over which each summary is read that is taken from it
      pub range_read : RangeIsRead i there tree from to v
      range_read = record {
        nodes = λ at level count start fill h.
            let l = led at level count start fill h in
            (l.node, l.stands);
        sums = λ at level count start fill front back child h s w.
            let own = child_led at level count start fill front back child (led at (suc level) count start fill h) s in
            own.whole (child_some at level count fill front back child s) (whole_from from to (start + count_in front) child.count w);
      }
