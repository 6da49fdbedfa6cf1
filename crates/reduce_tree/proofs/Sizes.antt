-- Packed trees take the packed length of their items.
use Rattle.std.proofs.Common.{◌≡◌, ℕ, zero, suc, ◌+◌, ◌<◌, ◌≤◌, nat_le, false, if◌then◌else◌, List, [], ◌∷◌, ◌++◌, length, map, take, drop, refl, sym, ap, subst, ◌∙◌, length-append, take-append-drop, arith}
use Rattle.std.specs.List.{flat_map, sum_by}
use Rattle.std.proofs.Math.Seq.{take-append_seam, take-length, drop-append_seam}
use Rattle.std.proofs.lemmas.Bool.Decides.{nat_tests}
use Rattle.std.proofs.lemmas.Grind.{flat_map-append}
use Rattle.std.proofs.lemmas.List.{length-map}
use Rattle.std.proofs.lemmas.List.Sums.{sum_by-cons}
use Rattle.tree_laws.specs.declared.item.Item.{Ghosts as Items}
use Rattle.tree_laws.specs.declared.summer.Summer.{Ghosts as Summers}
use Rattle.tree_laws.specs.declared.node.Child.{Child}
use Rattle.tree_laws.specs.declared.node.Node.{Node}
use Rattle.tree_laws.specs.declared.node.Node.TheVariants.{Leaf, Inner}
use Rattle.tree_laws.specs.declared.tree.Fill.TheVariants.{Root, Below}
use Rattle.tree_laws.specs.declared.tree.Tree.{Tree}
use Rattle.tree_laws.specs.Meaning.{Meaning, joined}
use Rattle.tree_laws.specs.Nodes.{child_entry, item_entry, number_bytes, sized, spelled_node}
use Rattle.tree_laws.specs.Packing.{cut_in, fills, inner_entry, last_size, leaf_entry, levels_take, node_takes, packed_size}
use Rattle.tree_laws.specs.Spelled.{IsSpelledOnce}
use Rattle.tree_laws.specs.Stores.{Places}
use Rattle.tree_laws.specs.SummerTrees.{AreChildren, Has, HasRoot, IsAt, IsChild, IsTree, Stands}
use Rattle.tree_laws.proofs.Prefixes.{number_long}
use Rattle.tree_laws.proofs.SummerTrees.{children_append, counts_add, same_node}
use Rattle.reduce_tree.specs.Packed.{nodes_size, AreNodes, IsPackedTree, Packs}
use Rattle.reduce_tree.proofs.Fills.{fills_few, fills_fewer, sizes_cons}

-- ---- lists

-- as many as those beside them, and each is so to the one beside it
abbrev Beside : {X Y : Type 0} → (X → Y → Type 0) → List X → List Y → Type 0
Beside R [] [] = Unit {0}
Beside R [] (y ∷ ys) = ⊥
Beside R (x ∷ xs) [] = ⊥
Beside R (x ∷ xs) (y ∷ ys) = R x y × Beside R xs ys

same_front : {X : Type 0} (a b more rest : List X) → length a ≡ length b → a ++ more ≡ b ++ rest → (a ≡ b) × (more ≡ rest)
same_front a b more rest long same =
    (sym (take-append_seam a more) ∙ (λ i. take (long i) (same i)) ∙ take-append_seam b rest, sym (drop-append_seam a more) ∙ (λ i. drop (long i) (same i)) ∙ drop-append_seam b rest)

joined_twice : {X : Type 0} (nodes : List (List (List X))) → joined (map joined nodes) ≡ joined (joined nodes)
joined_twice [] = refl
joined_twice (parts ∷ nodes) = ap (λ t. joined parts ++ t) (joined_twice nodes) ∙ sym (flat_map-append (λ part. part) parts (joined nodes))

module _ {X Y : Type 0} (R : X → Y → Type 0) where
  beside_long : (xs : List X) (ys : List Y) → Beside R xs ys → length xs ≡ length ys
  beside_long [] [] b = refl
  beside_long [] (y ∷ ys) b = absurd b
  beside_long (x ∷ xs) [] b = absurd b
  beside_long (x ∷ xs) (y ∷ ys) b = ap suc (beside_long xs ys b.1)

  beside_split : (p xs : List X) (ys : List Y) → Beside R (p ++ xs) ys → Beside R p (take (length p) ys) × Beside R xs (drop (length p) ys)
  beside_split [] xs ys b = (tt, b)
  beside_split (x ∷ p) xs [] b = absurd b
  beside_split (x ∷ p) xs (y ∷ ys) b =
      let k = beside_split p xs ys b.1 in
      ((b.0, k.0), k.1)

  -- what is cut as pieces are stands beside them
  beside_cut : (pieces : List (List X)) (ys : List Y) → Beside R (joined pieces) ys → Beside (λ p q. Beside R p q) pieces (cut_in (map length pieces) ys)
  beside_cut [] ys b = tt
  beside_cut (p ∷ pieces) ys b =
      let k = beside_split p (joined pieces) ys b in
      (k.0, beside_cut pieces (drop (length p) ys) k.1)

  -- and it is cut whole
  cut_whole : (pieces : List (List X)) (ys : List Y) → Beside R (joined pieces) ys → joined (cut_in (map length pieces) ys) ≡ ys
  cut_whole [] [] b = refl
  cut_whole [] (y ∷ ys) b = absurd b
  cut_whole (p ∷ pieces) ys b =
      let k = beside_split p (joined pieces) ys b in
      ap (λ t. take (length p) ys ++ t) (cut_whole pieces (drop (length p) ys) k.1) ∙ take-append-drop (length p) ys

  rows_take : (bytes : X → List ℕ) (takes : Y → ℕ) → ((x : X) (y : Y) → R x y → length (bytes x) ≡ takes y) → (xs : List X) (ys : List Y) → Beside R xs ys → length (flat_map bytes xs) ≡ sum_by takes ys
  rows_take bytes takes one [] [] b = refl
  rows_take bytes takes one [] (y ∷ ys) b = absurd b
  rows_take bytes takes one (x ∷ xs) [] b = absurd b
  rows_take bytes takes one (x ∷ xs) (y ∷ ys) b = omega (arith, length-append (bytes x) (flat_map bytes xs), sum_by-cons takes y ys, one x y b.0, rows_take bytes takes one xs ys b.1)

-- the part of an item is that item
module _ {T : Type 0} where
  lone_beside : (xs : List T) → Beside (λ (x : T) (part : List T). part ≡ x ∷ []) xs (map (λ x. x ∷ []) xs)
  lone_beside [] = tt
  lone_beside (x ∷ xs) = (refl, lone_beside xs)

  lone_whole : (xs : List T) → joined (map (λ x. x ∷ []) xs) ≡ xs
  lone_whole [] = refl
  lone_whole (x ∷ xs) = ap (λ t. x ∷ t) (lone_whole xs)

  lone_long : (xs : List T) (parts : List (List T)) → Beside (λ (x : T) (part : List T). part ≡ x ∷ []) xs parts → length xs ≡ length (joined parts)
  lone_long [] [] b = refl
  lone_long [] (part ∷ parts) b = absurd b
  lone_long (x ∷ xs) [] b = absurd b
  lone_long (x ∷ xs) (part ∷ parts) b = omega (arith, length-append part (joined parts), ap length b.0, lone_long xs parts b.1)

-- ---- what entries and levels take

sized_long : (bytes : List ℕ) → length (sized bytes) ≡ 8 + length bytes
sized_long bytes = omega (arith, length-append (number_bytes (length bytes)) bytes, number_long (length bytes))

module _ {T S : Type 0} (spelled : T → List ℕ) (meaning : Meaning T S) where
  last_long : (front : List T) (x : T) → last_size spelled meaning (front ++ x ∷ []) ≡ 8 + length (spelled x)
  last_long [] x = refl
  last_long (y ∷ []) x = refl
  last_long (y ∷ z ∷ front) x = last_long (z ∷ front) x

  -- what the nodes of a level take, and those above them
  abbrev from_level : (List T → ℕ) → ℕ → List (List (List T)) → ℕ
  from_level entry most nodes =
      sum_by (node_takes spelled meaning entry) nodes + (if nat_le (length nodes) 1 then 0 else levels_take spelled meaning (inner_entry spelled meaning) most (map joined nodes))

  one_level : (entry : List T → ℕ) (most : ℕ) (parts : List (List T)) → length parts ≤ 32 → levels_take spelled meaning entry (suc most) parts ≡ sum_by (node_takes spelled meaning entry) (parts ∷ [])
  one_level entry most parts few =
      let cut : cut_in (fills (length parts)) parts ≡ parts ∷ [] = ap (λ ns. cut_in ns parts) (fills_few (length parts) few) ∙ ap (λ t. t ∷ []) (take-length parts) in
      let none : from_level entry most (parts ∷ []) ≡ sum_by (node_takes spelled meaning entry) (parts ∷ []) = omega arith in
      ap (from_level entry most) cut ∙ none

  more_levels : (entry : List T → ℕ) (most : ℕ) (parts : List (List T)) (nodes : List (List (List T))) → cut_in (fills (length parts)) parts ≡ nodes → 1 < length nodes
      → levels_take spelled meaning entry (suc most) parts ≡ sum_by (node_takes spelled meaning entry) nodes + levels_take spelled meaning (inner_entry spelled meaning) most (map joined nodes)
  more_levels entry most parts nodes cut many =
      let test : nat_le (length nodes) 1 ≡ false = grind (arith, nat_tests) in
      ap (from_level entry most) cut
      ∙ ap (λ b. sum_by (node_takes spelled meaning entry) nodes + (if b then 0 else levels_take spelled meaning (inner_entry spelled meaning) most (map joined nodes))) test

-- ---- nodes of one kind, of a level

module _ {T M Sum Fault : Type 0} (i : Items T) (m : Summers M T Sum Fault) (first : M) where
  -- an entry for a child of these items, whose summary is spelled from their value
  record IsEntry (c : Child T) (part : List T) : Type 0 where
    count : c.count ≡ length part
    front : List T
    last : part ≡ front ++ c.last ∷ []
    sum : c.sum ≡ (m.meaning first).spelled ((m.meaning first).value part)

  -- what is needed of the nodes that are made of a level's entries, each of which stands so beside its items, and takes so many bytes
  record IsKind {X : Type 0} (make : List X → Node T) (level : ℕ) (R : X → List T → Type 0) (entry : List T → ℕ) : Type 0 where
    none : (there : Places) → Has i m first there level (make []) []
    join : (there : Places) (xs ys : List X) (us vs : List T) → Has i m first there level (make xs) us → Has i m first there level (make ys) vs → Has i m first there level (make (xs ++ ys)) (us ++ vs)
    long : (there : Places) (xs : List X) (parts : List (List T)) (us : List T) → Beside R xs parts → Has i m first there level (make xs) us → length us ≡ length (joined parts)
    size : (xs : List X) (parts : List (List T)) → Beside R xs parts → length (spelled_node i.spelled (make xs)) ≡ 2 + sum_by entry parts

  item_takes : (x : T) (part : List T) → part ≡ x ∷ [] → length (item_entry i.spelled x) ≡ leaf_entry i.spelled (m.meaning first) part
  item_takes x part e = sized_long (i.spelled x) ∙ ap (last_size i.spelled (m.meaning first)) (sym e)

  child_takes : (c : Child T) (part : List T) → IsEntry c part → length (child_entry i.spelled c) ≡ inner_entry i.spelled (m.meaning first) part
  child_takes c part h =
      let last : last_size i.spelled (m.meaning first) part ≡ 8 + length (i.spelled c.last) = ap (last_size i.spelled (m.meaning first)) h.last ∙ last_long i.spelled (m.meaning first) h.front c.last in
      let sum : length c.sum ≡ length ((m.meaning first).spelled ((m.meaning first).value part)) = ap length h.sum in
      omega (
        arith,
        length-append (number_bytes c.at) (number_bytes c.count ++ (item_entry i.spelled c.last ++ sized c.sum)),
        length-append (number_bytes c.count) (item_entry i.spelled c.last ++ sized c.sum),
        length-append (item_entry i.spelled c.last) (sized c.sum),
        number_long c.at,
        number_long c.count,
        sized_long (i.spelled c.last),
        sized_long c.sum,
        last,
        sum,
      )

  entries_long : (cs : List (Child T)) (parts : List (List T)) → Beside IsEntry cs parts → sum_by (λ c. c.count) cs ≡ length (joined parts)
  entries_long [] [] b = refl
  entries_long [] (part ∷ parts) b = absurd b
  entries_long (c ∷ cs) [] b = absurd b
  entries_long (c ∷ cs) (part ∷ parts) b =
      let one : c.count ≡ length part = let e = b.0 in e.count in
      omega (arith, sum_by-cons (λ (x : Child T). x.count) c cs, length-append part (joined parts), one, entries_long cs parts b.1)

  leaves : IsKind Leaf zero (λ (x : T) (part : List T). part ≡ x ∷ []) (leaf_entry i.spelled (m.meaning first))
  leaves = record {
    none = λ there. refl;
    join = λ there xs ys us vs h k. (λ j. h j ++ k j);
    long = λ there xs parts us b h. ap length h ∙ lone_long xs parts b;
    size = λ xs parts b. omega (arith, rows_take (λ (x : T) (part : List T). part ≡ x ∷ []) (item_entry i.spelled) (leaf_entry i.spelled (m.meaning first)) item_takes xs parts b);
  }

  inner : (level : ℕ) → IsKind Inner (suc level) IsEntry (inner_entry i.spelled (m.meaning first))
  inner level = record {
    none = λ there. refl;
    join = λ there xs ys us vs h k. children_append i m first (Stands i m first there level) xs ys us vs h k;
    long = λ there xs parts us b h. sym (counts_add i m first (Stands i m first there level) xs us h) ∙ entries_long xs parts b;
    size = λ xs parts b. omega (arith, rows_take IsEntry (child_entry i.spelled) (inner_entry i.spelled (m.meaning first)) child_takes xs parts b);
  }

  nodes_take : {X : Type 0} (make : List X → Node T) (level : ℕ) (R : X → List T → Type 0) (entry : List T → ℕ) → IsKind make level R entry → (pieces : List (List X)) (nodes : List (List (List T)))
      → Beside (λ p q. Beside R p q) pieces nodes → nodes_size i make pieces ≡ sum_by (node_takes i.spelled (m.meaning first) entry) nodes
  nodes_take make level R entry kind [] [] b = refl
  nodes_take make level R entry kind [] (q ∷ nodes) b = absurd b
  nodes_take make level R entry kind (p ∷ pieces) [] b = absurd b
  nodes_take make level R entry kind (p ∷ pieces) (q ∷ nodes) b =
      omega (arith, sizes_cons i make p pieces, sum_by-cons (node_takes i.spelled (m.meaning first) entry) q nodes, kind.size p q b.0, nodes_take make level R entry kind pieces nodes b.1)

  module _ (once : IsSpelledOnce i.fits i.spelled) where
    -- the entries below children have their items
    has_joined : {X : Type 0} (make : List X → Node T) (level : ℕ) (R : X → List T → Type 0) (entry : List T → ℕ) → IsKind make level R entry → (there : Places) (cs : List (Child T)) (ps : List (List X)) (items : List T) → AreNodes i there make cs ps
        → AreChildren i m first (Stands i m first there level) cs items → Has i m first there level (make (joined ps)) items
    has_joined make level R entry kind there [] [] items h k = subst (λ us. Has i m first there level (make []) us) (sym k) (kind.none there)
    has_joined make level R entry kind there [] (p ∷ ps) items h k = absurd h
    has_joined make level R entry kind there (c ∷ cs) [] items h k = absurd h
    has_joined make level R entry kind there (c ∷ cs) (p ∷ ps) items h k =
        let node = h.0 in
        let child = k.at_front in
        let own = same_node i m first there once (Has i m first there level) Below c.at k.front (make p) node.fits node.bytes child.stands in
        subst (λ us. Has i m first there level (make (p ++ joined ps)) us) (sym k.whole) (kind.join there p (joined ps) k.front k.back own (has_joined make level R entry kind there cs ps k.back h.1 k.at_back))

    -- the root's items are those of each level
    packs_have : {X : Type 0} (make : List X → Node T) (level : ℕ) (R : X → List T → Type 0) (entry : List T → ℕ) → IsKind make level R entry → (there : Places) (k root top : ℕ) (xs : List X) (size : ℕ) (items : List T) → Packs i there make root k xs size
        → top ≡ level + k → IsAt i m first there (Has i m first there top) Root root items → Has i m first there level (make xs) items
    packs_have {X = X} make level R entry kind there zero root top xs size items h e at =
        let l : top ≡ level = omega (arith, e) in
        let node = h.0 in
        subst (λ n. Has i m first there n (make xs) items) l (same_node i m first there once (Has i m first there top) Root root items (make xs) node.fits node.bytes at)
    packs_have {X = X} make level R entry kind there (suc k) root top xs size items h e at =
        let up = packs_have {X = Child T} Inner (suc level) IsEntry (inner_entry i.spelled (m.meaning first)) (inner level) there k root top h.2 h.3 items h.6 (omega (arith, e)) at in
        let packed = h.4 in
        subst (λ us. Has i m first there level (make us) items) (sym packed.whole) (has_joined make level R entry kind there h.2 h.1 items h.5 up)

    module _ (lawful : m.lawful first) where
      entry_of : (P : ℕ → List T → Type 0) (c : Child T) (us : List T) → IsChild i m first P c us → IsEntry c us
      entry_of P c us h =
          let s = h.sum in
          record {
            count = h.count;
            front = h.front;
            last = h.last;
            sum = s.bytes_are ∙ ap (m.meaning first).spelled (s.value lawful);
          }

      -- the children of nodes stand beside the items that are cut as these nodes' entries are
      children_beside : {X : Type 0} (make : List X → Node T) (level : ℕ) (R : X → List T → Type 0) (entry : List T → ℕ) → IsKind make level R entry → (there : Places) (ps : List (List X)) (nodes : List (List (List T))) (cs : List (Child T)) (us : List T)
          → Beside (λ p q. Beside R p q) ps nodes → AreNodes i there make cs ps → AreChildren i m first (Stands i m first there level) cs us → us ≡ joined (map joined nodes) → Beside IsEntry cs (map joined nodes)
      children_beside make level R entry kind there [] [] [] us b h x e = tt
      children_beside make level R entry kind there [] [] (c ∷ cs) us b h x e = absurd h
      children_beside make level R entry kind there [] (q ∷ nodes) cs us b h x e = absurd b
      children_beside make level R entry kind there (p ∷ ps) [] cs us b h x e = absurd b
      children_beside make level R entry kind there (p ∷ ps) (q ∷ nodes) [] us b h x e = absurd h
      children_beside make level R entry kind there (p ∷ ps) (q ∷ nodes) (c ∷ cs) us b h x e =
          let node = h.0 in
          let child = x.at_front in
          let own = same_node i m first there once (Has i m first there level) Below c.at x.front (make p) node.fits node.bytes child.stands in
          let both = same_front x.front (joined q) x.back (joined (map joined nodes)) (kind.long there p q x.front b.0 own) (sym x.whole ∙ e) in
          (subst (λ part. IsEntry c part) both.0 (entry_of (Stands i m first there level) c x.front child), children_beside make level R entry kind there ps nodes cs x.back b.1 h.1 x.at_back both.1)

      -- the nodes of each level, and of those above it, take so many
      levels_size : {X : Type 0} (make : List X → Node T) (level : ℕ) (R : X → List T → Type 0) (entry : List T → ℕ) → IsKind make level R entry → (there : Places) (k root top most : ℕ) (xs : List X) (parts : List (List T)) (size : ℕ) (items : List T)
          → Packs i there make root k xs size → Beside R xs parts → items ≡ joined parts → 0 < length parts → length parts ≤ most → top ≡ level + k → IsAt i m first there (Has i m first there top) Root root items
          → size ≡ levels_take i.spelled (m.meaning first) entry most parts
      levels_size make level R entry kind there k root top zero xs parts size items h b whole some few e at = absurd (omega (arith, some, few))
      levels_size {X = X} make level R entry kind there zero root top (suc most) xs parts size items h b whole some few e at =
          let least : length parts ≤ 32 = omega (arith, beside_long R xs parts b, h.1) in
          h.2 ∙ nodes_take make level R entry kind (xs ∷ []) (parts ∷ []) (b, tt) ∙ sym (one_level i.spelled (m.meaning first) entry most parts least)
      levels_size {X = X} make level R entry kind there (suc k) root top (suc most) xs parts size items h b whole some few e at =
          let packed = h.4 in
          let long = beside_long R xs parts b in
          let nodes = cut_in (map length h.1) parts in
          let pieces : Beside R (joined h.1) parts = subst (λ us. Beside R us parts) packed.whole b in
          let cut = beside_cut R h.1 parts pieces in
          let same : cut_in (fills (length parts)) parts ≡ nodes = ap (λ ns. cut_in ns parts) (ap fills (sym long) ∙ sym packed.cut) in
          let count : length nodes ≡ length (fills (length xs)) = sym (beside_long (λ p q. Beside R p q) h.1 nodes cut) ∙ sym (length-map h.1 length) ∙ ap length packed.cut in
          let above : length (map joined nodes) ≡ length nodes = length-map nodes joined in
          let fewer = fills_fewer (length xs) h.0 in
          let many : 1 < length nodes = omega (arith, count, fewer.0) in
          let whole_above : items ≡ joined (map joined nodes) = whole ∙ ap joined (sym (cut_whole R h.1 parts pieces)) ∙ sym (joined_twice nodes) in
          let top_above : top ≡ suc level + k = omega (arith, e) in
          let up = packs_have {X = Child T} Inner (suc level) IsEntry (inner_entry i.spelled (m.meaning first)) (inner level) there k root top h.2 h.3 items h.6 top_above at in
          let next = children_beside make level R entry kind there h.1 nodes h.2 items cut h.5 up whole_above in
          let some_above : 0 < length (map joined nodes) = omega (arith, above, many) in
          let few_above : length (map joined nodes) ≤ most = omega (arith, above, count, fewer.1, long, few) in
          let more = levels_size {X = Child T} Inner (suc level) IsEntry (inner_entry i.spelled (m.meaning first)) (inner level) there k root top most h.2 (map joined nodes) h.3 items h.6 next whole_above some_above few_above top_above at in
          let own = nodes_take make level R entry kind h.1 nodes cut in
          h.7 ∙ (λ j. own j + more j) ∙ sym (more_levels i.spelled (m.meaning first) entry most parts nodes same many)

      pub has_size : (there : Places) (tree : Tree) (items : List T) (size : ℕ) → IsTree i m first there tree items → IsPackedTree i there tree items size → size ≡ packed_size i.spelled (m.meaning first) items
      has_size there tree [] size t h = h.1
      has_size there tree (x ∷ xs) size t h =
          let parts = map (λ (y : T). y ∷ []) (x ∷ xs) in
          let long : length parts ≡ length (x ∷ xs) = length-map (x ∷ xs) (λ y. y ∷ []) in
          let height : tree.height ≡ suc h.0 = omega (arith, h.1) in
          let at = subst (λ n. HasRoot i m first there tree.root n (x ∷ xs)) height t.root in
          let some : 0 < length parts = omega arith in
          let few : length parts ≤ length (x ∷ xs) = omega (arith, long) in
          levels_size {X = T} Leaf zero (λ (y : T) (part : List T). part ≡ y ∷ []) (leaf_entry i.spelled (m.meaning first)) leaves there h.0 tree.root h.0 (length (x ∷ xs)) (x ∷ xs) parts size (x ∷ xs) h.2 (lone_beside (x ∷ xs)) (sym (lone_whole (x ∷ xs))) some few (omega arith) at
