-- How rows of entries go together, and the walk over the children of a node.
use Rattle.std.proofs.Common.{◌≡◌, ◌≢◌, ℕ, zero, suc, List, [], ◌∷◌, ◌++◌, All, length, ◌<◌, ◌≤◌, refl, sym, ap, ◌∙◌, append_assoc, subst, arith}
use Rattle.std.proofs.lemmas.List.{append-nil}
use Rattle.std.specs.Cmp.{IsTotalOrder}
use Rattle.std.specs.List.Sorted.{IsStrictlySortedBy}
use Rattle.std.specs.declared.cmp.Ordering.TheVariants.{Less, Greater}
use Rattle.std.proofs.lemmas.List.Elements.{All-cons, All-nil, All-append, All-weaker}
use Rattle.tree_laws.specs.declared.item.Item.{Ghosts as Items}
use Rattle.tree_laws.specs.declared.summer.Summer.{Ghosts as Summers}
use Rattle.tree_laws.specs.declared.node.Child.{Child}
use Rattle.tree_laws.specs.declared.node.Node.{Node}
use Rattle.tree_laws.specs.declared.node.Node.TheVariants.{Leaf}
use Rattle.tree_laws.specs.Nodes.{entries}
use Rattle.tree_laws.specs.Stores.{Extends, Places}
use Rattle.tree_laws.specs.SummerTrees.{AreChildren, Has, IsChild, Joins, Stands}
use Rattle.tree_laws.proofs.SummerTrees.{children_append, children_split, children_one}
use Rattle.tree_laws.proofs.SummerTrees.{child_stays, children_stay, has_stays, stands_stays}
use Rattle.reduce_tree.specs.declared.edit.Edit.{Edit}
use Rattle.reduce_tree.specs.Applied.{applied, edit_key}
use Rattle.reduce_tree.specs.Rows.{Carries}
use Rattle.reduce_tree.proofs.Order.{sorted_front, sorted_back, sorted_across, sorted_upto, all_above, all_below}
use Rattle.reduce_tree.proofs.Applied.{applied_append}
use Rattle.reduce_tree.proofs.Nodes.{has_none}

pub extends_trans : (a b c : Places) → Extends a b → Extends b c → Extends a c
extends_trans a b c p q at bytes h = q at bytes (p at bytes h)

module _ {T M Sum Fault : Type 0} (i : Items T) (m : Summers M T Sum Fault) (first : M) where
  -- where the walk over the children is: the items done and carried, and those of the children left with the edits below them
  pub record Held (there : Places) (low : ℕ) (done : List (Child T)) (level : ℕ) (node : Node T) (rest : List (Child T)) (left : List (Edit T)) (whole : List T) : Type 0 where
    pub front : List T
    pub back : List T
    pub at_front : Carries i m first there low done level node front
    pub at_back : AreChildren i m first (Stands i m first there low) rest back
    pub sorted : IsStrictlySortedBy i.order back
    pub all : front ++ applied i.order left back ≡ whole

  -- the first of the children left, and the edits below it
  pub record Next (P : ℕ → List T → Type 0) (c : Child T) (rest : List (Child T)) (own others : List (Edit T)) (back : List T) : Type 0 where
    pub mid : List T
    pub later : List T
    pub whole : back ≡ mid ++ later
    pub at_mid : IsChild i m first P c mid
    pub at_later : AreChildren i m first P rest later
    pub sorted_mid : IsStrictlySortedBy i.order mid
    pub sorted_later : IsStrictlySortedBy i.order later
    pub edit : applied i.order (own ++ others) back ≡ applied i.order own mid ++ applied i.order others later

  module _ (o : IsTotalOrder i.order) (P : ℕ → List T → Type 0) where
    later_above : (c : Child T) (mid later : List T) (key : T) → IsChild i m first P c mid → IsStrictlySortedBy i.order (mid ++ later) → i.order c.last key ≢ Less → All (λ y. i.order y key ≡ Greater) later
    later_above c mid later key h s n =
        let e : mid ++ later ≡ h.front ++ (c.last ∷ later) = ap (λ t. t ++ later) h.last ∙ append_assoc h.front (c.last ∷ []) later in
        let s' : IsStrictlySortedBy i.order (h.front ++ (c.last ∷ later)) = rw (← e) s in
        all_above i.order o key c.last later n (sorted_across i.order h.front c.last later s')

    mid_below : (c : Child T) (mid : List T) (key : T) → IsChild i m first P c mid → IsStrictlySortedBy i.order mid → i.order c.last key ≡ Less → All (λ x. i.order x key ≡ Less) mid
    mid_below c mid key h s l =
        let lt : T → Type 0 = λ x. i.order x key ≡ Less in
        let s' : IsStrictlySortedBy i.order (h.front ++ (c.last ∷ [])) = rw (← h.last) s in
        let fs : All lt h.front = all_below i.order o key c.last h.front l (sorted_upto i.order h.front c.last [] s') in
        rw h.last (All-append lt h.front (c.last ∷ []) fs (All-cons lt c.last [] l (All-nil lt)))

    all_later : (c : Child T) (mid later : List T) (own : List (Edit T)) → IsChild i m first P c mid → IsStrictlySortedBy i.order (mid ++ later)
        → All (λ e. i.order c.last (edit_key e) ≢ Less) own → All (λ e. All (λ y. i.order y (edit_key e) ≡ Greater) later) own
    all_later c mid later own h s = All-weaker (λ e. i.order c.last (edit_key e) ≢ Less) (λ e. All (λ y. i.order y (edit_key e) ≡ Greater) later) (λ e n. later_above c mid later (edit_key e) h s n) own

    none_later : (own : List (Edit T)) → All (λ e. All (λ y. i.order y (edit_key e) ≡ Greater) []) own
    none_later [] = All-nil (λ e. All (λ y. i.order y (edit_key e) ≡ Greater) [])
    none_later (e ∷ es) = All-cons (λ d. All (λ y. i.order y (edit_key d) ≡ Greater) []) e es (All-nil (λ y. i.order y (edit_key e) ≡ Greater)) (none_later es)

    own_above : (c : Child T) (rest : List (Child T)) (mid later : List T) (own : List (Edit T)) → IsChild i m first P c mid → AreChildren i m first P rest later → IsStrictlySortedBy i.order (mid ++ later)
        → (0 < length rest → All (λ e. i.order c.last (edit_key e) ≢ Less) own) → All (λ e. All (λ y. i.order y (edit_key e) ≡ Greater) later) own
    own_above c [] mid later own h k s n = rw k (none_later own)
    own_above c (d ∷ rest) mid later own h k s n = all_later c mid later own h s (n (omega arith))

    pub next_child : (c : Child T) (rest : List (Child T)) (own others : List (Edit T)) (back : List T) → AreChildren i m first P (c ∷ rest) back → IsStrictlySortedBy i.order back
        → (0 < length rest → All (λ e. i.order c.last (edit_key e) ≢ Less) own)
        → ((f : Edit T) (gs : List (Edit T)) → others ≡ f ∷ gs → i.order c.last (edit_key f) ≡ Less)
        → Next P c rest own others back
    next_child c rest own others back h s below above =
        let s1 : IsStrictlySortedBy i.order (h.front ++ h.back) = rw (← h.whole) s in
        let sm = sorted_front i.order h.front h.back s1 in
        record {
          mid = h.front;
          later = h.back;
          whole = h.whole;
          at_mid = h.at_front;
          at_later = h.at_back;
          sorted_mid = sm;
          sorted_later = sorted_back i.order h.front h.back s1;
          edit = ap (λ t. applied i.order (own ++ others) t) h.whole
              ∙ applied_append i.order own others h.front h.back (own_above c rest h.front h.back own h.at_front h.at_back s1 below) (λ f gs e. mid_below c h.front (edit_key f) h.at_front sm (above f gs e));
        }

  module _ (there : Places) where
    pub settled_none : (low level : ℕ) (done : List (Child T)) (node : Node T) (items : List T) → entries node ≡ 0 → Carries i m first there low done level node items → AreChildren i m first (Stands i m first there low) done items
    settled_none low level done node items e h =
        let none = has_none i m first there level node h.back e h.at_back in
        let whole : items ≡ h.front = h.whole ∙ ap (λ t. h.front ++ t) none ∙ append-nil h.front in
        rw whole h.at_front

    -- where nothing changed up to the end
    pub held_end : (low level : ℕ) (done rest : List (Child T)) (node : Node T) (left : List (Edit T)) (all : List T)
        → length rest ≡ 0 → length left ≡ 0 → Held there low done level node rest left all → Carries i m first there low done level node all
    held_end low level done (c ∷ rest) node left all r l h = absurd (omega arith)
    held_end low level done [] node (e ∷ es) all r l h = absurd (omega arith)
    held_end low level done [] node [] all r l h =
        let whole : h.front ≡ all = sym (append-nil h.front) ∙ ap (λ t. h.front ++ t) (sym h.at_back) ∙ h.all in
        subst (λ t. Carries i m first there low done level node t) whole h.at_front

    pub held_start : (low level : ℕ) (done rest : List (Child T)) (node : Node T) (left : List (Edit T)) (items : List T)
        → done ≡ [] → level ≡ 0 → node ≡ Leaf [] → AreChildren i m first (Stands i m first there low) rest items → IsStrictlySortedBy i.order items → Held there low done level node rest left (applied i.order left items)
    held_start low level done rest node left items d l v h s = record {
      front = [];
      back = items;
      at_front = record { front = []; back = []; whole = refl; at_front = rw d refl; at_back = rw (l, v) refl };
      at_back = h;
      sorted = s;
      all = refl;
    }

  module _ (n0 n1 : Places) (e01 : Extends n0 n1) where
    pub settled : (low level : ℕ) (done placed : List (Child T)) (node : Node T) (items : List T) → level ≡ low → Carries i m first n0 low done level node items
        → ((l : ℕ) (zs : List T) → Has i m first n0 l node zs → AreChildren i m first (Stands i m first n1 l) placed zs)
        → AreChildren i m first (Stands i m first n1 low) (done ++ placed) items
    settled low level done placed node items same h put =
        let has = subst (λ l. Has i m first n0 l node h.back) same h.at_back in
        let front = children_stay i m first (Stands i m first n0 low) (Stands i m first n1 low) (stands_stays i m first n0 n1 e01 low) done h.front h.at_front in
        rw h.whole (children_append i m first (Stands i m first n1 low) done placed h.front h.back front (put low h.back has))

    pub kept_child : (low level : ℕ) (c : Child T) (done now : List (Child T)) (node : Node T) (items mid : List T)
        → AreChildren i m first (Stands i m first n1 low) done items → IsChild i m first (Stands i m first n0 low) c mid → now ≡ done ++ c ∷ [] → level ≡ 0 → node ≡ Leaf []
        → Carries i m first n1 low now level node (items ++ mid)
    kept_child low level c done now node items mid h k n l v =
        let child = child_stays i m first (Stands i m first n0 low) (Stands i m first n1 low) (stands_stays i m first n0 n1 e01 low) c mid k in
        let all = children_append i m first (Stands i m first n1 low) done (c ∷ []) items mid h (children_one i m first (Stands i m first n1 low) c mid child) in
        record {
          front = items ++ mid;
          back = [];
          whole = sym (append-nil (items ++ mid));
          at_front = rw n all;
          at_back = rw (l, v) refl;
        }

    pub carries_stays : (low level : ℕ) (done : List (Child T)) (node : Node T) (items : List T) → Carries i m first n0 low done level node items → Carries i m first n1 low done level node items
    carries_stays low level done node items h = record {
      front = h.front;
      back = h.back;
      whole = h.whole;
      at_front = children_stay i m first (Stands i m first n0 low) (Stands i m first n1 low) (stands_stays i m first n0 n1 e01 low) done h.front h.at_front;
      at_back = has_stays i m first n0 n1 e01 level node h.back h.at_back;
    }

    pub held_step : (o : IsTotalOrder i.order) (low : ℕ) (c : Child T) (rest0 rest : List (Child T)) (left own others : List (Edit T)) (done now : List (Child T)) (level level' : ℕ) (node node' : Node T) (all : List T)
        → rest0 ≡ c ∷ rest → left ≡ own ++ others
        → (0 < length rest → All (λ e. i.order c.last (edit_key e) ≢ Less) own)
        → ((f : Edit T) (gs : List (Edit T)) → others ≡ f ∷ gs → i.order c.last (edit_key f) ≡ Less)
        → ((items mid : List T) → IsStrictlySortedBy i.order mid → Carries i m first n0 low done level node items → IsChild i m first (Stands i m first n0 low) c mid → Carries i m first n1 low now level' node' (items ++ applied i.order own mid))
        → Held n0 low done level node rest0 left all → Held n1 low now level' node' rest others all
    held_step o low c rest0 rest left own others done now level level' node node' all er el below above says h =
        let P = Stands i m first n0 low in
        let cs : AreChildren i m first P (c ∷ rest) h.back = subst (λ ds. AreChildren i m first P ds h.back) er h.at_back in
        let nx = next_child o P c rest own others h.back cs h.sorted below above in
        record {
          front = h.front ++ applied i.order own nx.mid;
          back = nx.later;
          at_front = says h.front nx.mid nx.sorted_mid h.at_front nx.at_mid;
          at_back = children_stay i m first (Stands i m first n0 low) (Stands i m first n1 low) (stands_stays i m first n0 n1 e01 low) rest nx.later nx.at_later;
          sorted = nx.sorted_later;
          all = append_assoc h.front (applied i.order own nx.mid) (applied i.order others nx.later) ∙ ap (λ t. h.front ++ t) (sym nx.edit) ∙ ap (λ es. h.front ++ applied i.order es h.back) (sym el) ∙ h.all;
        }

  -- n0, n1 and n2 are the nodes before, after a child was edited, and after its row was joined
  module _ (n0 n1 n2 : Places) (e01 : Extends n0 n1) (e12 : Extends n1 n2) where
    pub rest_stays : (low : ℕ) (cs : List (Child T)) (xs : List T) → AreChildren i m first (Stands i m first n0 low) cs xs → AreChildren i m first (Stands i m first n2 low) cs xs
    rest_stays low cs xs h = children_stay i m first (Stands i m first n0 low) (Stands i m first n2 low) (stands_stays i m first n0 n2 (extends_trans n0 n1 n2 e01 e12) low) cs xs h

    pub graft_front : (low : ℕ) (c : Child T) (after placed : List (Child T)) (below joined : Node T) (xs ys : List T)
        → AreChildren i m first (Stands i m first n0 low) (c ∷ after) ys
        → ((mid : List T) → Stands i m first n0 low c.at mid → Has i m first n0 low below mid)
        → ((mid : List T) → Has i m first n0 low below mid → Has i m first n1 low joined (xs ++ mid))
        → ((zs : List T) → Has i m first n1 low joined zs → AreChildren i m first (Stands i m first n2 low) placed zs)
        → AreChildren i m first (Stands i m first n2 low) (placed ++ after) (xs ++ ys)
    graft_front low c after placed below joined xs ys h got taken put =
        let now = taken h.front (got h.front h.at_front.stands) in
        let done = put (xs ++ h.front) now in
        let rest = rest_stays low after h.back h.at_back in
        let whole : (xs ++ h.front) ++ h.back ≡ xs ++ ys = append_assoc xs h.front h.back ∙ ap (λ t. xs ++ t) (sym h.whole) in
        subst (λ zs. AreChildren i m first (Stands i m first n2 low) (placed ++ after) zs) whole (children_append i m first (Stands i m first n2 low) placed after (xs ++ h.front) h.back done rest)

    pub graft_back : (low : ℕ) (c : Child T) (before placed : List (Child T)) (below joined : Node T) (xs ys : List T)
        → AreChildren i m first (Stands i m first n0 low) (before ++ c ∷ []) xs
        → ((mid : List T) → Stands i m first n0 low c.at mid → Has i m first n0 low below mid)
        → ((mid : List T) → Has i m first n0 low below mid → Has i m first n1 low joined (mid ++ ys))
        → ((zs : List T) → Has i m first n1 low joined zs → AreChildren i m first (Stands i m first n2 low) placed zs)
        → AreChildren i m first (Stands i m first n2 low) (before ++ placed) (xs ++ ys)
    graft_back low c before placed below joined xs ys h got taken put =
        let P = Stands i m first n0 low in
        let j = children_split i m first P before (c ∷ []) xs h in
        let k : Joins (IsChild i m first P c) (AreChildren i m first P []) j.back = j.at_back in
        let one : j.back ≡ k.front = k.whole ∙ ap (λ t. k.front ++ t) k.at_back ∙ append-nil k.front in
        let now = taken k.front (got k.front k.at_front.stands) in
        let done = put (k.front ++ ys) now in
        let rest = rest_stays low before j.front j.at_front in
        let whole : j.front ++ (k.front ++ ys) ≡ xs ++ ys = sym (append_assoc j.front k.front ys) ∙ ap (λ t. t ++ ys) (sym (j.whole ∙ ap (λ t. j.front ++ t) one)) in
        subst (λ zs. AreChildren i m first (Stands i m first n2 low) (before ++ placed) zs) whole (children_append i m first (Stands i m first n2 low) before placed j.front (k.front ++ ys) rest done)

    pub touched_child : (low level rl jl : ℕ) (c : Child T) (done : List (Child T)) (node got rn jn : Node T) (edits : List (Edit T)) (items mid : List T)
        → IsStrictlySortedBy i.order mid
        → Carries i m first n0 low done level node items → IsChild i m first (Stands i m first n0 low) c mid
        → ((xs : List T) → Stands i m first n0 low c.at xs → Has i m first n0 low got xs)
        → ((xs : List T) → IsStrictlySortedBy i.order xs → Has i m first n0 low got xs → Has i m first n1 rl rn (applied i.order edits xs))
        → ((xs ys : List T) → Has i m first n1 level node xs → Has i m first n1 rl rn ys → Has i m first n2 jl jn (xs ++ ys))
        → Carries i m first n2 low done jl jn (items ++ applied i.order edits mid)
    touched_child low level rl jl c done node got rn jn edits items mid s h k fetched edit join =
        let row = edit mid s (fetched mid k.stands) in
        let back = has_stays i m first n0 n1 e01 level node h.back h.at_back in
        let both = join h.back (applied i.order edits mid) back row in
        record {
          front = h.front;
          back = h.back ++ applied i.order edits mid;
          whole = ap (λ t. t ++ applied i.order edits mid) h.whole ∙ append_assoc h.front h.back (applied i.order edits mid);
          at_front = rest_stays low done h.front h.at_front;
          at_back = both;
        }

pub none_below : (n : ℕ) → (0 < n → 8 ≤ n) → n < 8 → n ≡ 0
none_below zero h k = refl
none_below (suc n) h k = absurd (omega (arith, h (omega arith)))
