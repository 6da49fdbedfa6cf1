-- Nodes in memory: what they have, cut and joined.
use Rattle.std.proofs.Common.{◌≡◌, ℕ, zero, suc, ◌-◌, ◌==◌, Bool, true, false, Some, None, List, [], ◌∷◌, ◌++◌, length, get_or, ◌+◌, ◌*◌, ◌<◌, ◌≤◌, ◌^◌, refl, sym, ap, ◌∙◌, append_assoc, length-append, subst, arith}
use Rattle.std.specs.List.{sum_by}
use Rattle.std.proofs.lemmas.List.{append-nil}
use Rattle.std.proofs.lemmas.List.Elements.{All-append, All-cons, All-nil, All-head, All-tail}
use Rattle.std.proofs.lemmas.List.Sums.{sum_by-append, sum_by-cons}
use Rattle.std.proofs.lemmas.Bool.Decides.{nat_tests}
use Rattle.std.proofs.Math.Nat.{mul-le-mul_right, pow-succ', pow-le-pow_right}
use Rattle.tree_laws.specs.declared.item.Item.{Ghosts as Items}
use Rattle.tree_laws.specs.declared.summer.Summer.{Ghosts as Summers}
use Rattle.tree_laws.specs.declared.node.Child.{Child}
use Rattle.tree_laws.specs.declared.node.Node.{Node}
use Rattle.tree_laws.specs.declared.node.Node.TheVariants.{Leaf, Inner}
use Rattle.tree_laws.specs.declared.tree.Fill.TheVariants.{Root, Below}
use Rattle.tree_laws.specs.declared.tree.Tree.{Tree}
use Rattle.tree_laws.specs.Fitting.{AreLarge, IsFilled, item_count}
use Rattle.tree_laws.specs.Nodes.{entries, is_leaf}
use Rattle.tree_laws.specs.Spelled.{IsSpelledOnce}
use Rattle.tree_laws.specs.Stores.{Places}
use Rattle.tree_laws.specs.SummerTrees.{AreChildren, Has, HasRoot, IsAt, IsChild, IsTreeSize, Joins, Stands}
use Rattle.tree_laws.proofs.SummerTrees.{children_append, children_split, same_node}
use Rattle.tree_laws.proofs.SummerTrees.{counts_add}
use Rattle.reduce_tree.specs.Rows.{IsAtLevel, IsSplit, Tells, lone}

-- ---- numbers of items

pub power_some : (n : ℕ) → 1 ≤ 8 ^ n
power_some zero = omega arith
power_some (suc n) = let some = power_some n in omega (arith, some, pow-succ' 8 n)

-- a level of so many items is low
pub level_small : (n k : ℕ) → 8 ^ n ≤ k → k ≤ 2 ^ 40 → n < 14
level_small n k h few =
    let f : 14 ≤ n → 8 ^ 14 ≤ 8 ^ n = λ e. pow-le-pow_right (omega arith) e in
    grind (arith, f, h, few)

module _ {T : Type 0} where
  pub total : List (Child T) → ℕ
  total cs = sum_by (λ c. c.count) cs

  pub count_append : (cs ds : List (Child T)) → item_count (Inner (cs ++ ds)) ≡ item_count (Inner cs) + item_count (Inner ds)
  count_append cs ds = sum_by-append (λ (c : Child T). c.count) cs ds

  pub count_cons : (c : Child T) (cs : List (Child T)) → item_count (Inner (c ∷ cs)) ≡ c.count + item_count (Inner cs)
  count_cons c cs = sum_by-cons (λ (c : Child T). c.count) c cs

  pub count_one : (c : Child T) → item_count (Inner (c ∷ [])) ≡ c.count
  count_one c = omega (arith, count_cons c [])

  pub large_append : (level : ℕ) (cs ds : List (Child T)) → AreLarge level (Inner cs) → AreLarge level (Inner ds) → AreLarge level (Inner (cs ++ ds))
  large_append level cs ds h k = All-append (λ (c : Child T). 8 ^ level ≤ c.count) cs ds h k

  pub large_one : (level : ℕ) (c : Child T) → 8 ^ level ≤ c.count → AreLarge level (Inner (c ∷ []))
  large_one level c h = All-cons (λ (c : Child T). 8 ^ level ≤ c.count) c [] h (All-nil (λ (c : Child T). 8 ^ level ≤ c.count))

  pub large_none : (level : ℕ) → AreLarge {T = T} level (Inner [])
  large_none level = All-nil (λ (c : Child T). 8 ^ level ≤ c.count)

  pub large_head : (level : ℕ) (c : Child T) (cs : List (Child T)) → AreLarge level (Inner (c ∷ cs)) → 8 ^ level ≤ c.count
  large_head level c cs h = All-head (λ (c : Child T). 8 ^ level ≤ c.count) c cs h

  pub large_tail : (level : ℕ) (c : Child T) (cs : List (Child T)) → AreLarge level (Inner (c ∷ cs)) → AreLarge level (Inner cs)
  large_tail level c cs h = All-tail (λ (c : Child T). 8 ^ level ≤ c.count) c cs h

  pub large_front : (level : ℕ) (cs ds : List (Child T)) → AreLarge level (Inner (cs ++ ds)) → AreLarge level (Inner cs)
  large_front level [] ds h = large_none level
  large_front level (c ∷ cs) ds h = All-cons (λ (c : Child T). 8 ^ level ≤ c.count) c cs (large_head level c (cs ++ ds) h) (large_front level cs ds (large_tail level c (cs ++ ds) h))

  pub large_back : (level : ℕ) (cs ds : List (Child T)) → AreLarge level (Inner (cs ++ ds)) → AreLarge level (Inner ds)
  large_back level [] ds h = h
  large_back level (c ∷ cs) ds h = large_back level cs ds (large_tail level c (cs ++ ds) h)

  large_sum : (level : ℕ) (cs : List (Child T)) → AreLarge level (Inner cs) → length cs * 8 ^ level ≤ item_count (Inner cs)
  large_sum level [] h = omega arith
  large_sum level (c ∷ cs) h = omega (arith, large_head level c cs h, large_sum level cs (large_tail level c cs h), count_cons c cs)

  -- so many entries stand for so many items
  pub many_items : (level n : ℕ) (node : Node T) → IsAtLevel level node → AreLarge level node → n ≤ entries node → n * 8 ^ level ≤ item_count node
  many_items zero n (Leaf xs) kind h some = omega (arith, some)
  many_items zero n (Inner cs) kind h some = absurd (cc)
  many_items (suc level) n (Leaf xs) kind h some = absurd (grind (arith, nat_tests))
  many_items (suc level) n (Inner cs) kind h some =
      let least = 8 ^ suc level in
      omega (arith, large_sum (suc level) cs h, mul-le-mul_right {m = n} {n = length cs} least some)

  -- so few items that a level is too high for one entry
  pub level_below : (level top : ℕ) (node : Node T) → IsAtLevel level node → AreLarge level node → 0 < entries node → item_count node < 8 ^ top → level < top
  level_below level top node kind large some few =
      let many = many_items level 1 node kind large some in
      let least : 8 ^ level ≤ item_count node = omega (arith, many) in
      let f : top ≤ level → 8 ^ top ≤ 8 ^ level = λ e. pow-le-pow_right (omega arith) e in
      grind (arith, f, least, few)

  pub filled_large : (level : ℕ) (node : Node T) → IsAtLevel level node → AreLarge level node → 8 ≤ entries node → 8 ^ (level + 1) ≤ item_count node
  filled_large level node kind h some = omega (arith, many_items level 8 node kind h some, pow-succ' 8 level, ap (λ n. 8 ^ n) (let up : level + 1 ≡ suc level = omega arith in up))

  pub split_count : (node left right : Node T) → IsSplit node left right → item_count node ≡ item_count left + item_count right
  split_count (Leaf xs) (Leaf ys) (Leaf zs) s = ap length s ∙ length-append ys zs
  split_count (Inner xs) (Inner ys) (Inner zs) s = ap (λ cs. item_count (Inner cs)) s ∙ count_append ys zs
  split_count (Leaf xs) (Leaf ys) (Inner zs) s = absurd s
  split_count (Leaf xs) (Inner ys) right s = absurd s
  split_count (Inner xs) (Leaf ys) right s = absurd s
  split_count (Inner xs) (Inner ys) (Leaf zs) s = absurd s

  pub split_large : (level : ℕ) (node left right : Node T) → IsSplit node left right → AreLarge level node → AreLarge level left × AreLarge level right
  split_large level (Leaf xs) (Leaf ys) (Leaf zs) s h = (tt, tt)
  split_large level (Inner xs) (Inner ys) (Inner zs) s h = let k = subst (λ cs. AreLarge level (Inner cs)) s h in (large_front level ys zs k, large_back level ys zs k)
  split_large level (Leaf xs) (Leaf ys) (Inner zs) s h = absurd s
  split_large level (Leaf xs) (Inner ys) right s h = absurd s
  split_large level (Inner xs) (Leaf ys) right s h = absurd s
  split_large level (Inner xs) (Inner ys) (Leaf zs) s h = absurd s

  pub joined_large : (level : ℕ) (node left right : Node T) → IsSplit node left right → AreLarge level left → AreLarge level right → AreLarge level node
  joined_large level (Leaf xs) left right s h k = tt
  joined_large level (Inner xs) (Inner ys) (Inner zs) s h k = subst (λ cs. AreLarge level (Inner cs)) (sym s) (large_append level ys zs h k)
  joined_large level (Inner xs) (Leaf ys) right s h k = absurd s
  joined_large level (Inner xs) (Inner ys) (Leaf zs) s h k = absurd s

  pub split_kind : (level : ℕ) (node left right : Node T) → IsSplit node left right → IsAtLevel level node → IsAtLevel level left × IsAtLevel level right
  split_kind level (Leaf xs) (Leaf ys) (Leaf zs) s h = (h, h)
  split_kind level (Inner xs) (Inner ys) (Inner zs) s h = (h, h)
  split_kind level (Leaf xs) (Leaf ys) (Inner zs) s h = absurd s
  split_kind level (Leaf xs) (Inner ys) right s h = absurd s
  split_kind level (Inner xs) (Leaf ys) right s h = absurd s
  split_kind level (Inner xs) (Inner ys) (Leaf zs) s h = absurd s

  pub none_counted : (node : Node T) → entries node ≡ 0 → item_count node ≡ 0
  none_counted (Leaf []) e = refl
  none_counted (Leaf (x ∷ xs)) e = absurd (omega arith)
  none_counted (Inner []) e = refl
  none_counted (Inner (c ∷ cs)) e = absurd (omega arith)

-- ---- tests

pub level_above : (level : ℕ) → false ≡ (level == 0) → level ≡ suc (level - 1)
level_above zero e = absurd (cc)
level_above (suc level) e = omega arith

pub none_from_test : (n : ℕ) (b : Bool) → b ≡ (n == 0) → b ≡ true → n ≡ 0
none_from_test n b e h = grind (arith, nat_tests)

pub some_from_test : (n : ℕ) (b : Bool) → b ≡ (n == 0) → 0 < n → b ≡ false
some_from_test n b e h = grind (arith, nat_tests)

pub empty_at_level : {T : Type 0} (level : ℕ) (node : Node T) → level ≡ 0 → node ≡ Leaf [] → is_leaf node ≡ (level == 0)
empty_at_level level node l v = rw (l, v) refl

pub above_at_level : {T : Type 0} (level : ℕ) (cs : List (Child T)) → IsAtLevel (level + 1) (Inner cs)
above_at_level level cs = grind (arith, nat_tests)

rooted : {T : Type 0} (node : Node T) → IsFilled Below node → IsFilled Root node
rooted (Leaf xs) f = record { least = let l = f.least in omega (arith, l); most = f.most }
rooted (Inner cs) f = record { least = let l = f.least in omega (arith, l); most = f.most }

-- ---- what nodes have

module _ {T M Sum Fault : Type 0} (i : Items T) (m : Summers M T Sum Fault) (first : M) (there : Places) where
  pub has_counts : (level : ℕ) (node : Node T) (items : List T) → Has i m first there level node items → item_count node ≡ length items
  has_counts zero (Leaf xs) items h = ap length (sym h)
  has_counts zero (Inner cs) items h = absurd h
  has_counts (suc level) (Leaf xs) items h = absurd h
  has_counts (suc level) (Inner cs) items h = counts_add i m first (Stands i m first there level) cs items h

  pub has_split : (level : ℕ) (node left right : Node T) (xs : List T) → IsSplit node left right → Has i m first there level node xs → Joins (Has i m first there level left) (Has i m first there level right) xs
  has_split zero (Leaf us) (Leaf vs) (Leaf ws) xs s h = record { front = vs; back = ws; whole = h ∙ s; at_front = refl; at_back = refl }
  has_split (suc level) (Inner us) (Inner vs) (Inner ws) xs s h = children_split i m first (Stands i m first there level) vs ws xs (rw s at h)
  has_split zero (Inner us) left right xs s h = absurd h
  has_split (suc level) (Leaf us) left right xs s h = absurd h
  has_split zero (Leaf us) (Inner vs) right xs s h = absurd s
  has_split zero (Leaf us) (Leaf vs) (Inner ws) xs s h = absurd s
  has_split (suc level) (Inner us) (Leaf vs) right xs s h = absurd s
  has_split (suc level) (Inner us) (Inner vs) (Leaf ws) xs s h = absurd s

  pub has_join : (level : ℕ) (node left right : Node T) (xs ys : List T) → IsSplit node left right → Has i m first there level left xs → Has i m first there level right ys → Has i m first there level node (xs ++ ys)
  has_join zero (Leaf us) (Leaf vs) (Leaf ws) xs ys s h k = rw (h, k) (sym s)
  has_join (suc level) (Inner us) (Inner vs) (Inner ws) xs ys s h k = rw s (children_append i m first (Stands i m first there level) vs ws xs ys h k)
  has_join (suc level) node (Leaf vs) right xs ys s h k = absurd h
  has_join (suc level) node (Inner vs) (Leaf ws) xs ys s h k = absurd k
  has_join (suc level) (Leaf us) (Inner vs) (Inner ws) xs ys s h k = absurd s
  has_join zero node (Inner vs) right xs ys s h k = absurd h
  has_join zero node (Leaf vs) (Inner ws) xs ys s h k = absurd k
  has_join zero (Inner us) (Leaf vs) (Leaf ws) xs ys s h k = absurd s

  pub has_leaf : (level : ℕ) (xs items : List T) → Has i m first there level (Leaf xs) items → items ≡ xs
  has_leaf zero xs items h = h
  has_leaf (suc level) xs items h = absurd h

  pub has_inner : (level : ℕ) (cs : List (Child T)) (items : List T) → Has i m first there level (Inner cs) items → (below : ℕ) × (level ≡ suc below) × AreChildren i m first (Stands i m first there below) cs items
  has_inner zero cs items h = absurd h
  has_inner (suc level) cs items h = (level, refl, h)

  pub has_none : (level : ℕ) (node : Node T) (xs : List T) → entries node ≡ 0 → Has i m first there level node xs → xs ≡ []
  has_none zero (Leaf []) xs e h = h
  has_none zero (Leaf (y ∷ ys)) xs e h = absurd (omega arith)
  has_none (suc level) (Inner []) xs e h = h
  has_none (suc level) (Inner (c ∷ cs)) xs e h = absurd (omega arith)
  has_none zero (Inner cs) xs e h = absurd h
  has_none (suc level) (Leaf ys) xs e h = absurd h

  -- children make an inner node of the level above
  pub has_children : (low : ℕ) (cs : List (Child T)) (xs : List T) → AreChildren i m first (Stands i m first there low) cs xs → Has i m first there (low + 1) (Inner cs) xs
  has_children low cs xs h = let up : suc low ≡ low + 1 = omega arith in subst (λ l. Has i m first there l (Inner cs) xs) up h

  -- an inner node has its children
  pub children_of : (level : ℕ) (cs : List (Child T)) (xs : List T) → level ≡ suc (level - 1) → Has i m first there level (Inner cs) xs → AreChildren i m first (Stands i m first there (level - 1)) cs xs
  children_of level cs xs e h = subst (λ l. Has i m first there l (Inner cs) xs) e h

  children_once : (P : ℕ → List T → Type 0) → ((at : ℕ) (xs ys : List T) → P at xs → P at ys → xs ≡ ys) → (cs : List (Child T)) (xs ys : List T) → AreChildren i m first P cs xs → AreChildren i m first P cs ys → xs ≡ ys
  children_once P f [] xs ys h k = h ∙ sym k
  children_once P f (c ∷ cs) xs ys h k =
      let front : h.front ≡ k.front = f c.at h.front k.front h.at_front.stands k.at_front.stands in
      let back : h.back ≡ k.back = children_once P f cs h.back k.back h.at_back k.at_back in
      h.whole ∙ ap (λ t. t ++ h.back) front ∙ ap (λ t. k.front ++ t) back ∙ sym k.whole

  -- a node has its items alone
  pub has_once : IsSpelledOnce i.fits i.spelled → (level : ℕ) (node : Node T) (xs ys : List T) → Has i m first there level node xs → Has i m first there level node ys → xs ≡ ys
  has_once once zero (Leaf own) xs ys h k = h ∙ sym k
  has_once once zero (Inner cs) xs ys h k = absurd h
  has_once once (suc level) (Leaf own) xs ys h k = absurd h
  has_once once (suc level) (Inner cs) xs ys h k =
      children_once (Stands i m first there level) (λ at us vs a b. has_once once level a.node us vs a.has (same_node i m first there once (Has i m first there level) Below at vs a.node a.fits a.bytes b)) cs xs ys h k

  pub child_of : (level : ℕ) (at count : ℕ) (last : T) (sum : List ℕ) (child : Child T) (items : List T) → child ≡ record { at = at; count = count; last = last; sum = sum } → Stands i m first there level at items → Tells i m first count last sum items → IsChild i m first (Stands i m first there level) child items
  child_of level at count last sum child items e h k = subst (λ c. IsChild i m first (Stands i m first there level) c items) (sym e) (record { stands = h; count = k.counted; front = k.front; last = k.ended; sum = k.summed })

  -- the last child ends with the last item
  pub children_last : (P : ℕ → List T → Type 0) (cs : List (Child T)) (n : ℕ) (d : Child T) (xs : List T) → suc n ≡ length cs → AreChildren i m first P cs xs → (front : List T) × (xs ≡ front ++ (get_or cs n d).last ∷ [])
  children_last P [] n d xs e h = absurd (omega arith)
  children_last P (c ∷ []) zero d xs e h = (h.at_front.front, h.whole ∙ ap (λ t. h.front ++ t) h.at_back ∙ append-nil h.front ∙ h.at_front.last)
  children_last P (c ∷ []) (suc n) d xs e h = absurd (omega arith)
  children_last P (c ∷ b ∷ cs) zero d xs e h = absurd (omega arith)
  children_last P (c ∷ b ∷ cs) (suc n) d xs e h =
      let k = children_last P (b ∷ cs) n d h.back (omega arith) h.at_back in
      (h.front ++ k.0, h.whole ∙ ap (λ t. h.front ++ t) k.1 ∙ sym (append_assoc h.front k.0 ((get_or (b ∷ cs) n d).last ∷ [])))

  -- ---- roots

  pub root_at : (level at : ℕ) (items : List T) → IsAt i m first there (Has i m first there level) Root at items → HasRoot i m first there at (level + 1) items
  root_at level at items h = let up : suc level ≡ level + 1 = omega arith in subst (λ n. HasRoot i m first there at n items) up h

  pub lone_root : (level : ℕ) (node : Node T) (p : ℕ × ℕ) (items : List T) → Some p ≡ lone node → Has i m first there level node items → HasRoot i m first there p.0 level items
  lone_root level (Leaf xs) p items e h = absurd (cc)
  lone_root level (Inner []) p items e h = absurd (cc)
  lone_root level (Inner (c ∷ d ∷ cs)) p items e h = absurd (cc)
  lone_root zero (Inner (c ∷ [])) p items e h = absurd h
  lone_root (suc level) (Inner (c ∷ [])) p items e h =
      let e1 : p ≡ (c.at, c.count) = cc in
      let e2 : p.0 ≡ c.at = ap (λ (q : ℕ × ℕ). q.0) e1 in
      let whole : items ≡ h.front = h.whole ∙ ap (λ t. h.front ++ t) h.at_back ∙ append-nil h.front in
      let st : Stands i m first there level c.at h.front = h.at_front.stands in
      let up : IsFilled Root st.node = rooted st.node st.filled in
      rw (e2, whole) (record { node = st.node; fits = st.fits; bytes = st.bytes; filled = up; has = st.has })

-- ---- the sizes of trees

pos_of : (n : ℕ) → (n ≡ 0 → ⊥) → 1 ≤ n
pos_of zero f = absurd (f refl)
pos_of (suc n) f = omega arith

pub rooted_some : {T : Type 0} (node : Node T) → IsFilled Root node → 0 < entries node
rooted_some (Leaf xs) f = let l = f.least in omega (arith, l)
rooted_some (Inner cs) f = let l = f.least in omega (arith, l)

pub root_fill : {T : Type 0} (node : Node T) → (entries node ≡ 0 → ⊥) → None ≡ lone node → entries node ≤ 32 → IsFilled Root node
root_fill (Leaf []) e l h = absurd (e refl)
root_fill (Leaf (x ∷ xs)) e l h = record { least = omega arith; most = h }
root_fill (Inner []) e l h = absurd (e refl)
root_fill (Inner (c ∷ [])) e l h = absurd (cc)
root_fill (Inner (c ∷ d ∷ cs)) e l h = record { least = omega arith; most = h }

pub lone_count : {T : Type 0} (node : Node T) (p : ℕ × ℕ) → Some p ≡ lone node → p.1 ≡ item_count node
lone_count (Leaf xs) p e = absurd (cc)
lone_count (Inner []) p e = absurd (cc)
lone_count (Inner (c ∷ d ∷ cs)) p e = absurd (cc)
lone_count (Inner (c ∷ [])) p e =
    let e1 : p ≡ (c.at, c.count) = cc in
    ap (λ (q : ℕ × ℕ). q.1) e1 ∙ sym (count_one c)

pub lone_size : {T : Type 0} (level : ℕ) (node : Node T) (p : ℕ × ℕ) → Some p ≡ lone node → IsAtLevel level node → AreLarge level node → item_count node ≤ 2 ^ 40 → IsTreeSize (record { root = p.0; height = level; count = p.1 })
lone_size level (Leaf xs) p e k l few = absurd (cc)
lone_size level (Inner []) p e k l few = absurd (cc)
lone_size level (Inner (c ∷ d ∷ cs)) p e k l few = absurd (cc)
lone_size level (Inner (c ∷ [])) p e k l few =
    let count = lone_count (Inner (c ∷ [])) p e in
    let own = count_one c in
    let large = large_head level c [] l in
    let up : level ≡ suc (level - 1) = level_above level k in
    let power : 8 ^ level ≡ 8 * 8 ^ (level - 1) = ap (λ n. 8 ^ n) up ∙ pow-succ' 8 (level - 1) in
    let some = power_some (level - 1) in
    record {
      most = omega (arith, count, few);
      empty = (λ z. absurd (omega (arith, up, z)), λ z. absurd (omega (arith, z, count, own, large, power, some)));
      least = λ s. omega (arith, count, own, large, power);
    }

pub root_size : {T : Type 0} (level : ℕ) (node : Node T) (at count : ℕ) → (entries node ≡ 0 → ⊥) → IsAtLevel level node → AreLarge level node → item_count node ≤ 2 ^ 40 → count ≡ item_count node → IsTreeSize (record { root = at; height = level + 1; count = count })
root_size level node at count some k l few e =
    let one : 1 ≤ entries node = pos_of (entries node) some in
    let many = many_items level 1 node k l one in
    let power = power_some level in
    let down : (level + 1) - 1 ≡ level = omega arith in
    record {
      most = omega (arith, e, few);
      empty = (λ z. absurd (omega (arith, z)), λ z. absurd (omega (arith, z, e, many, power)));
      least = λ s. subst (λ n. 8 ^ n ≤ count) (sym down) (omega (arith, e, many));
    }

pub height_small : (tree : Tree) → IsTreeSize tree → tree.height - 1 < 2 ^ 31
height_small tree size =
    let f : 0 < tree.height → tree.height - 1 < 14 = λ s. level_small (tree.height - 1) tree.count (size.least s) size.most in
    grind (arith, f)
