-- The cuts of a tree in the making.
use Rattle.std.proofs.Common.{◌≡◌, ◌⊎◌, inl, inr, ℕ, zero, suc, ◌+◌, ◌<◌, ◌≤◌, List, [], ◌∷◌, ◌++◌, length, refl, sym, ap, subst, ◌∙◌, append_assoc, length-append, arith}
use Rattle.std.proofs.lemmas.List.{append-nil}
use Rattle.std.proofs.lemmas.Grind.{flat_map-append}
use Rattle.tree_laws.specs.declared.item.Item.{Ghosts as Items}
use Rattle.tree_laws.specs.declared.node.Child.{Child}
use Rattle.tree_laws.specs.declared.node.Node.{Node}
use Rattle.tree_laws.specs.declared.node.Node.TheVariants.{Leaf, Inner}
use Rattle.tree_laws.specs.declared.tree.Tree.{Tree}
use Rattle.tree_laws.specs.Meaning.{joined}
use Rattle.tree_laws.specs.Nodes.{spelled_node}
use Rattle.tree_laws.specs.Stores.{Extends, Places, pieces_size}
use Rattle.reduce_tree.specs.declared.builder.Builder.{Builder}
use Rattle.reduce_tree.specs.Built.{HoldsNothing, IsCutting, IsPopped, pushed}
use Rattle.tree_laws.specs.Packing.{IsPacked}
use Rattle.reduce_tree.specs.Packed.{nodes_size, Grown, StandsAt, AreNodes, AreFull, IsCut, Climbs, Packs, PacksAt, IsPackedTree}
use Rattle.reduce_tree.proofs.Fills.{is_packed_more, sizes_append}
use Rattle.reduce_tree.proofs.Stacks.{none_row}

full_append : {X : Type 0} (ps : List (List X)) (xs : List X) → AreFull ps → length xs ≡ 32 → AreFull (ps ++ (xs ∷ []))
full_append [] xs h e = (e, tt)
full_append (p ∷ ps) xs h e = (h.0, full_append ps xs h.1 e)

pub stand_stays : {T : Type 0} (i : Items T) (n0 n1 : Places) → Extends n0 n1 → (at : ℕ) (node : Node T) → StandsAt i n0 at node → StandsAt i n1 at node
stand_stays i n0 n1 e at node h = record { fits = h.fits; bytes = e at _ h.bytes }

-- one node was put, and then those above it: old, mid and new are the sizes
pub grew_on : (old mid new before own more one up : ℕ) → before ≡ own + more → mid ≡ old + one → new + more ≡ mid + up → new + before ≡ old + ((own + one) + up)
grew_on old mid new before own more one up e f h = omega (arith, e, f, h)

-- those of a row were put, and then those above it
pub grew_up : (old mid new own more low high row up : ℕ) → more ≡ low + high → mid + 0 ≡ old + row → new + (low + high) ≡ mid + up → new + (own + more) ≡ old + ((own + row) + up)
grew_up old mid new own more low high row up e f h = omega (arith, e, f, h)

module _ {T X : Type 0} (i : Items T) (make : List X → Node T) where
  nodes_append : (there : Places) (cs : List (Child T)) (ps : List (List X)) (c : Child T) (xs : List X) → AreNodes i there make cs ps → StandsAt i there c.at (make xs) → AreNodes i there make (cs ++ (c ∷ [])) (ps ++ (xs ∷ []))
  nodes_append there [] [] c xs h e = (e, tt)
  nodes_append there [] (p ∷ ps) c xs h e = absurd h
  nodes_append there (d ∷ cs) [] c xs h e = absurd h
  nodes_append there (d ∷ cs) (p ∷ ps) c xs h e = (h.0, nodes_append there cs ps c xs h.1 e)

  pub nodes_stay : (n0 n1 : Places) → Extends n0 n1 → (cs : List (Child T)) (ps : List (List X)) → AreNodes i n0 make cs ps → AreNodes i n1 make cs ps
  nodes_stay n0 n1 e [] [] h = tt
  nodes_stay n0 n1 e [] (p ∷ ps) h = absurd h
  nodes_stay n0 n1 e (d ∷ cs) [] h = absurd h
  nodes_stay n0 n1 e (d ∷ cs) (p ∷ ps) h = (stand_stays i n0 n1 e d.at (make p) h.0, nodes_stay n0 n1 e cs ps h.1)

  pub cut_stays : (n0 n1 : Places) → Extends n0 n1 → (given waiting : List X) (above : List (Child T)) (taken : ℕ) → IsCut i n0 make given waiting above taken → IsCut i n1 make given waiting above taken
  cut_stays n0 n1 e given waiting above taken h = record { pieces = h.pieces; whole = h.whole; full = h.full; stand = nodes_stay n0 n1 e above h.pieces h.stand; least = h.least; takes = h.takes }

  pub cut_none : (there : Places) → IsCut i there make [] [] [] 0
  cut_none there = record { pieces = []; whole = refl; full = tt; stand = tt; least = λ s. absurd (omega (arith, s)); takes = refl }

  -- one entry more waits
  pub cut_wait : (there : Places) (given waiting : List X) (above : List (Child T)) (taken : ℕ) (x : X) → IsCut i there make given waiting above taken → IsCut i there make (given ++ (x ∷ [])) (waiting ++ (x ∷ [])) above taken
  cut_wait there given waiting above taken x h = record {
    pieces = h.pieces;
    whole = ap (λ t. t ++ (x ∷ [])) h.whole ∙ append_assoc (joined h.pieces) waiting (x ∷ []);
    full = h.full;
    stand = h.stand;
    least = λ s. omega (arith, h.least s, length-append waiting (x ∷ []));
    takes = h.takes;
  }

  -- the first 32 that wait are put
  pub cut_put : (there : Places) (given waiting first rest : List X) (above : List (Child T)) (taken : ℕ) (c : Child T) → IsCut i there make given waiting above taken → waiting ≡ first ++ rest → length first ≡ 32 → 8 ≤ length rest → StandsAt i there c.at (make first)
      → IsCut i there make given rest (above ++ (c ∷ [])) (taken + pieces_size (spelled_node i.spelled (make first) ∷ []))
  cut_put there given waiting first rest above taken c h e k l n = record {
    pieces = h.pieces ++ (first ∷ []);
    whole = h.whole ∙ ap (λ t. joined h.pieces ++ t) e ∙ sym (append_assoc (joined h.pieces) first rest) ∙ ap (λ t. t ++ rest) (ap (λ t. joined h.pieces ++ t) (sym (append-nil first)) ∙ sym (flat_map-append (λ p. p) h.pieces (first ∷ [])));
    full = full_append h.pieces first h.full k;
    stand = nodes_append there above h.pieces c first h.stand n;
    least = λ s. l;
    takes = ap (λ t. t + pieces_size (spelled_node i.spelled (make first) ∷ [])) h.takes ∙ sym (sizes_append i make h.pieces (first ∷ []));
  }

module _ {T : Type 0} (i : Items T) where
  -- the last row of rows, and those above it
  pub record IsLowest (there : Places) (rows : List (List (Child T))) (row above below : List (Child T)) (taken : ℕ) : Type 0 where
    pub given : List (Child T)
    pub own : ℕ
    pub more : ℕ
    pub cut : IsCut i there Inner below row given own
    pub climbs : Climbs i there rows above given more
    pub sum : taken ≡ own + more

  pub climbs_stay : (n0 n1 : Places) → Extends n0 n1 → (rows : List (List (Child T))) (above below : List (Child T)) (taken : ℕ) → Climbs i n0 rows above below taken → Climbs i n1 rows above below taken
  climbs_stay n0 n1 e [] above below taken h = h
  climbs_stay n0 n1 e (r ∷ rows) above below taken h = (h.0, h.1, h.2, cut_stays i Inner n0 n1 e h.0 r above h.1 h.3, climbs_stay n0 n1 e rows h.0 below h.2 h.4, h.5, h.6)

  pub climbs_push : (there : Places) (rows : List (List (Child T))) (row above given below : List (Child T)) (own more : ℕ) → Climbs i there rows above given more → IsCut i there Inner below row given own → 0 < length below → Climbs i there (rows ++ (row ∷ [])) above below (own + more)
  climbs_push there [] row above given below own more h k n = (below, own, 0, subst (λ g. IsCut i there Inner below row g own) (sym h.0) k, (refl, refl), n, ap (λ t. own + t) h.1)
  climbs_push there (r ∷ rows) row above given below own more h k n = (h.0, h.1, own + h.2, h.3, climbs_push there rows row h.0 given below own h.2 h.4 k n, h.5, omega (arith, h.6))

  pub climbs_pop : (there : Places) (rows : List (List (Child T))) (row above below : List (Child T)) (taken : ℕ) → Climbs i there (rows ++ (row ∷ [])) above below taken → IsLowest there rows row above below taken
  climbs_pop there [] row above below taken h =
      let none = h.4 in
      record { given = above; own = h.1; more = 0; cut = subst (λ g. IsCut i there Inner g row above h.1) none.0 h.3; climbs = (refl, refl); sum = h.6 ∙ ap (λ t. h.1 + t) none.1 }
  climbs_pop there (r ∷ rows) row above below taken h =
      let k = climbs_pop there rows row h.0 below h.2 h.4 in
      record { given = k.given; own = k.own; more = h.1 + k.more; cut = k.cut; climbs = (h.0, h.1, k.more, h.3, k.climbs, h.5, refl); sum = omega (arith, h.6, k.sum) }

  pub climbs_popped : (there : Places) (old new : List (List (Child T))) (row below : List (Child T)) (taken : ℕ) → IsPopped old new row → Climbs i there old [] below taken → IsLowest there new row [] below taken
  climbs_popped there old new row below taken p h = elim p [
    | inl e ↦ climbs_pop there new row [] below taken (subst (λ rs. Climbs i there rs [] below taken) e h)
    | inr e ↦
        let none : ([] ≡ below) × (taken ≡ 0) = subst (λ rs. Climbs i there rs [] below taken) e.0 h in
        let cut = subst (λ r. IsCut i there Inner below r [] 0) (sym e.2) (subst (λ b. IsCut i there Inner b [] [] 0) none.0 (cut_none i Inner there)) in
        record { given = []; own = 0; more = 0; cut = cut; climbs = subst (λ rs. Climbs i there rs [] [] 0) (sym e.1) (refl, refl); sum = none.1 }
  ]

  pub climbs_some : (there : Places) (rows : List (List (Child T))) (above below : List (Child T)) (taken : ℕ) → 0 < length rows → Climbs i there rows above below taken → 0 < length below
  climbs_some there [] above below taken s h = absurd (omega (arith, s))
  climbs_some there (r ∷ []) above below taken s h = let none = h.4 in subst (λ g. 0 < length g) none.0 h.5
  climbs_some there (r ∷ q ∷ rows) above below taken s h = climbs_some there (q ∷ rows) h.0 below h.2 (omega arith) h.4

  -- where there are no rows nothing was put above
  pub climbs_none : (there : Places) (rows : List (List (Child T))) (above below : List (Child T)) (taken : ℕ) → rows ≡ [] → Climbs i there rows above below taken → (above ≡ below) × (taken ≡ 0)
  climbs_none there rows above below taken e h = subst (λ rs. Climbs i there rs above below taken) e h

  pub cut_waits : (there : Places) (below row given more : List (Child T)) (taken : ℕ) → IsCut i there Inner below row given taken → IsCut i there Inner (below ++ more) (row ++ more) given taken
  cut_waits there below row given more taken h = record {
    pieces = h.pieces;
    whole = ap (λ t. t ++ more) h.whole ∙ append_assoc (joined h.pieces) row more;
    full = h.full;
    stand = h.stand;
    least = λ s. omega (arith, h.least s, length-append row more);
    takes = h.takes;
  }

packed_join : {X : Type 0} (ps qs : List (List X)) (ws : List X) → AreFull ps → 8 ≤ length ws → IsPacked qs ws → IsPacked (ps ++ qs) (joined ps ++ ws)
packed_join [] qs ws f n h = h
packed_join (p ∷ ps) qs ws f n h =
    let rest = joined ps ++ ws in
    let long : 8 ≤ length rest = omega (arith, n, length-append (joined ps) ws) in
    let k = is_packed_more p rest (ps ++ qs) (inr (f.0, long)) (packed_join ps qs ws f.1 n h) in
    subst (λ xs. IsPacked (p ∷ (ps ++ qs)) xs) (sym (append_assoc p (joined ps) ws)) k

module _ {T X : Type 0} (i : Items T) (make : List X → Node T) (there : Places) where
  nodes_join : (cs ds : List (Child T)) (ps qs : List (List X)) → AreNodes i there make cs ps → AreNodes i there make ds qs → AreNodes i there make (cs ++ ds) (ps ++ qs)
  nodes_join [] ds [] qs h k = k
  nodes_join [] ds (p ∷ ps) qs h k = absurd h
  nodes_join (c ∷ cs) ds [] qs h k = absurd h
  nodes_join (c ∷ cs) ds (p ∷ ps) qs h k = (h.0, nodes_join cs ds ps qs h.1 k)

  full_long : (cs : List (Child T)) (ps : List (List X)) → 0 < length cs → AreNodes i there make cs ps → AreFull ps → 32 ≤ length (joined ps)
  full_long [] ps s h f = absurd (omega (arith, s))
  full_long (c ∷ cs) [] s h f = absurd h
  full_long (c ∷ cs) (p ∷ ps) s h f = omega (arith, f.0, length-append p (joined ps))

  none_above : (ps : List (List X)) → AreNodes i there make [] ps → ps ≡ []
  none_above [] h = refl
  none_above (p ∷ ps) h = absurd h

  -- nothing was put at this level yet: all that was given waits
  pub cut_root : (given ws : List X) (above : List (Child T)) (taken : ℕ) → IsCut i there make given ws above taken → above ≡ [] → (given ≡ ws) × (taken ≡ 0)
  cut_root given ws above taken h z =
      let none : h.pieces ≡ [] = none_above h.pieces (subst (λ cs. AreNodes i there make cs h.pieces) z h.stand) in
      (h.whole ∙ ap (λ ps. joined ps ++ ws) none, h.takes ∙ ap (nodes_size i make) none)

  -- so what waits is the root
  pub packs_root : (level : ℕ) (tree : Tree) (given ws : List X) → given ≡ ws → StandsAt i there tree.root (make ws) → length ws ≤ 32 → tree.height ≡ level + 1 → PacksAt i there make level tree given (pieces_size (spelled_node i.spelled (make ws) ∷ []))
  packs_root level tree given ws all at few e =
      let size = pieces_size (spelled_node i.spelled (make ws) ∷ []) in
      (zero, e, subst (λ xs. Packs i there make tree.root zero xs size) (sym all) (at, few, refl))

  pub two_given : (given ws : List X) (above placed : List (Child T)) (taken : ℕ) → IsCut i there make given ws above taken → 8 ≤ length ws → 0 < length placed → (0 < length above) ⊎ ((32 < length ws) × (2 ≤ length placed)) → (32 < length given) × (2 ≤ length (above ++ placed))
  two_given given ws above placed taken h n s c = elim c [
    | inl a ↦ (omega (arith, full_long above h.pieces a h.stand h.full, n, ap length h.whole, length-append (joined h.pieces) ws), omega (arith, a, s, length-append above placed))
    | inr b ↦ (omega (arith, b.0, ap length h.whole, length-append (joined h.pieces) ws), omega (arith, b.1, length-append above placed))
  ]

  -- the level above has the nodes put before and those of what waited
  pub packs_up : (level : ℕ) (tree : Tree) (given ws : List X) (above placed : List (Child T)) (qs : List (List X)) (own size up : ℕ) → IsCut i there make given ws above own → 8 ≤ length ws → IsPacked qs ws → AreNodes i there make placed qs → size ≡ nodes_size i make qs → 32 < length given
      → PacksAt i there Inner (level + 1) tree (above ++ placed) up → PacksAt i there make level tree given ((own + size) + up)
  packs_up level tree given ws above placed qs own size up h n q k is many high =
      let whole = subst (λ xs. IsPacked (h.pieces ++ qs) xs) (sym h.whole) (packed_join h.pieces qs ws h.full n q) in
      let sum : (own + size) + up ≡ nodes_size i make (h.pieces ++ qs) + up = omega (arith, h.takes, is, sizes_append i make h.pieces qs) in
      (suc high.0, omega (arith, high.1), (many, h.pieces ++ qs, above ++ placed, up, whole, nodes_join above placed h.pieces qs h.stand k, high.2, sum))

module _ {T : Type 0} (i : Items T) where
  packs_stay : {X : Type 0} (n0 n1 : Places) → Extends n0 n1 → (make : List X → Node T) (root k : ℕ) (xs : List X) (size : ℕ) → Packs i n0 make root k xs size → Packs i n1 make root k xs size
  packs_stay {X = X} n0 n1 e make root zero xs size h = (stand_stays i n0 n1 e root (make xs) h.0, h.1, h.2)
  packs_stay {X = X} n0 n1 e make root (suc k) xs size h = (h.0, h.1, h.2, h.3, h.4, nodes_stay i make n0 n1 e h.2 h.1 h.5, packs_stay {X = Child T} n0 n1 e Inner root k h.2 h.3 h.6, h.7)

  pub packed_tree_stays : (n0 n1 : Places) → Extends n0 n1 → (tree : Tree) (items : List T) (size : ℕ) → IsPackedTree i n0 tree items size → IsPackedTree i n1 tree items size
  packed_tree_stays n0 n1 e tree [] size h = h
  packed_tree_stays n0 n1 e tree (x ∷ xs) size h = (h.0, h.1, packs_stay n0 n1 e Leaf tree.root h.0 (x ∷ xs) size h.2)

  -- ---- builders

  pub cutting_new : (there : Places) (b : Builder T) → HoldsNothing b → IsCutting i there b [] 0
  cutting_new there b h = ([], 0, 0, subst (λ ws. IsCut i there Leaf [] ws [] 0) (sym h.leaf) (cut_none i Leaf there), subst (λ rs. Climbs i there rs [] [] 0) (sym h.rows) (refl, refl), refl)

  pub cutting_stays : (n0 n1 : Places) → Extends n0 n1 → (b : Builder T) (items : List T) (taken : ℕ) → IsCutting i n0 b items taken → IsCutting i n1 b items taken
  cutting_stays n0 n1 e b items taken h = (h.0, h.1, h.2, cut_stays i Leaf n0 n1 e items b.leaf.items h.0 h.1 h.3, climbs_stay i n0 n1 e b.rows.items [] h.0 h.2 h.4, h.5)

  zero_of : (n : ℕ) → (0 < n → ⊥) → n ≡ 0
  zero_of zero f = refl
  zero_of (suc n) f = absurd (f (omega arith))

  none_of : {X : Type 0} (xs : List X) → length xs ≡ 0 → xs ≡ []
  none_of [] e = refl
  none_of (x ∷ xs) e = absurd (omega arith)

  -- where no items were pushed nothing waits, and nothing was put
  pub cutting_none : (there : Places) (b : Builder T) (taken : ℕ) → IsCutting i there b [] taken → (length b.leaf.items ≡ 0) × (b.rows.items ≡ []) × (taken ≡ 0)
  cutting_none there b taken h =
      let cut = h.3 in
      let all = ap length cut.whole in
      let split = length-append (joined cut.pieces) b.leaf.items in
      let none : length h.0 ≡ 0 = zero_of (length h.0) (λ s. let long = full_long i Leaf there h.0 cut.pieces s cut.stand cut.full in absurd (omega (arith, all, split, long))) in
      let rows : b.rows.items ≡ [] = none_of b.rows.items (zero_of (length b.rows.items) (λ s. let some = climbs_some i there b.rows.items [] h.0 h.2 s h.4 in absurd (omega (arith, some, none)))) in
      let own = cut_root i Leaf there [] b.leaf.items h.0 h.1 cut (none_of h.0 none) in
      let more = climbs_none i there b.rows.items [] h.0 h.2 rows h.4 in
      (omega (arith, all, split), rows, omega (arith, h.5, own.1, more.1))

  -- a builder's tree: of no items it is empty, and of others packed
  pub packed_of : (n0 n1 : Places) (b : Builder T) (tree : Tree) (items : List T) (old new taken : ℕ) → IsCutting i n0 b items taken → (pushed b ≡ 0 → tree.height ≡ 0) → (length b.rows.items ≡ 0 → length b.leaf.items ≡ 0 → new ≡ old)
      → (0 < length items → Grown old new taken (PacksAt i n1 Leaf 0 tree items)) → Grown old new taken (IsPackedTree i n1 tree items)
  packed_of n0 n1 b tree [] old new taken h none same some =
      let z = cutting_none n0 b taken h in
      let rows : length b.rows.items ≡ 0 = ap length z.1 in
      (0, omega (arith, z.2, same rows z.0), (none (omega (arith, z.0, none_row b.rows.items rows)), refl))
  packed_of n0 n1 b tree (x ∷ xs) old new taken h none same some = some (omega arith)
