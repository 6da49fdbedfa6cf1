-- How many bytes a store grows by.
use Rattle.std.proofs.Common.{◌≡◌, ℕ, zero, suc, List, [], ◌∷◌, ◌++◌, All, Contains, Result, Ok, Err, MatchResult, length, ◌+◌, ◌-◌, ◌*◌, ◌≤◌, sym, ap, ◌∙◌, subst, length-append, arith}
use Rattle.std.proofs.lemmas.List.Elements.{All-contains, All-cons, All-head, All-nil, All-tail, All-weaker}
use Rattle.std.proofs.lemmas.List.Sums.{sum_by-append, sum_by-cons}
use Rattle.std.specs.List.{flat_map}
use Rattle.tree_laws.specs.declared.item.Item.{Ghosts as Items}
use Rattle.tree_laws.specs.declared.store.NodeSource.{Ghosts as Sources}
use Rattle.tree_laws.specs.declared.summer.Summer.{Ghosts as Summers}
use Rattle.tree_laws.specs.declared.node.Child.{Child}
use Rattle.tree_laws.specs.declared.node.Node.{Node}
use Rattle.tree_laws.specs.declared.node.Node.TheVariants.{Leaf, Inner}
use Rattle.tree_laws.specs.declared.tree.Fill.{Fill}
use Rattle.tree_laws.specs.declared.tree.Fill.TheVariants.{Root, Below}
use Rattle.tree_laws.specs.declared.tree.TreeFault.{TreeFault}
use Rattle.tree_laws.specs.declared.tree.TreeFault.TheVariants as tree_fault
use Rattle.tree_laws.specs.Meaning.{sum_limit}
use Rattle.tree_laws.specs.Nodes.{child_entry, entries, item_entry, number_bytes, sized, spelled_node}
use Rattle.tree_laws.specs.Stores.{EachSince, Growing, Places, pieces_size}
use Rattle.tree_laws.specs.SummerTrees.{AreChildren, Has}
use Rattle.tree_laws.proofs.Prefixes.{number_long}
use Rattle.reduce_tree.specs.Calls.{places, Ran}
use Rattle.reduce_tree.specs.Counts.{node_size}
use Rattle.reduce_tree.specs.Halted.{WerePieces}
use Rattle.reduce_tree.specs.Pieces.{AreAmong, AreTreePieces, IsPiece, IsTried}
use Rattle.reduce_tree.proofs.Quiet.{all_back, all_front}
use Rattle.reduce_tree.proofs.Since.{since_both, since_weaker}

product_most : (k a b : ℕ) → a ≤ b → k * a ≤ k * b
product_most k a b h =
    let d = b - a in
    let e : b ≡ a + d = omega (arith, h) in
    let p : k * b ≡ k * a + k * d = ap (λ x. k * x) e ∙ omega arith in
    omega (arith, p)

-- entries of so many bytes at most
entries_size : {X : Type 0} (f : X → List ℕ) (k : ℕ) (xs : List X) → All (λ x. length (f x) ≤ k) xs → length (flat_map f xs) ≤ k * length xs
entries_size f k [] h = omega arith
entries_size {X} f k (x ∷ xs) h =
    let P : X → Type 0 = λ y. length (f y) ≤ k in
    let one : length (f x) ≤ k = All-head P x xs h in
    let rest = entries_size f k xs (All-tail P x xs h) in
    let out : k * suc (length xs) ≡ k * length xs + k = omega arith in
    omega (arith, one, rest, out, length-append (f x) (flat_map f xs))

-- pieces of so many bytes at most, with the 8 for each
pieces_most : (k : ℕ) (ps : List (List ℕ)) → All (λ p. length p + 8 ≤ k) ps → pieces_size ps ≤ k * length ps
pieces_most k [] h = omega arith
pieces_most k (p ∷ ps) h =
    let P : List ℕ → Type 0 = λ q. length q + 8 ≤ k in
    let one : length p + 8 ≤ k = All-head P p ps h in
    let rest = pieces_most k ps (All-tail P p ps h) in
    let out : k * suc (length ps) ≡ k * length ps + k = omega arith in
    omega (arith, one, rest, out, sum_by-cons (λ (q : List ℕ). length q + 8) p ps)

-- so many bytes come where so many pieces were put at most
pub grown_by : (k most a b : ℕ) (old new : List (List ℕ)) → Growing old new a b → EachSince (λ p. length p + 8 ≤ k) old new → length new ≤ length old + most → b ≤ a + most * k
grown_by k most a b old new g since few =
    let more = since.0 in
    let sum : pieces_size new ≡ pieces_size more + pieces_size old = ap pieces_size since.1 ∙ sum_by-append (λ (q : List ℕ). length q + 8) more old in
    let count : length new ≡ length more + length old = ap length since.1 ∙ length-append more old in
    let own = pieces_most k more since.2 in
    let all = product_most k (length more) most (omega (arith, count, few)) in
    let turn : most * k ≡ k * most = omega arith in
    omega (arith, g, sum, own, all, turn)

module _ {T M Sum Fault : Type 0} (i : Items T) (m : Summers M T Sum Fault) (first : M) (short : (sum : Sum) → m.fits first sum → length ((m.meaning first).spelled sum) ≤ sum_limit) (longest : ℕ) where
  abbrev pub Small : T → Type 0
  Small x = length (i.spelled x) ≤ longest

  sized_long : (bytes : List ℕ) → length (sized bytes) ≡ 8 + length bytes
  sized_long bytes = omega (arith, length-append (number_bytes (length bytes)) bytes, number_long (length bytes))

  item_size : (x : T) → Small x → length (item_entry i.spelled x) ≤ longest + 8
  item_size x h = omega (arith, h, sized_long (i.spelled x))

  child_size : (c : Child T) → Small c.last → length c.sum ≤ sum_limit → length (child_entry i.spelled c) ≤ longest + (sum_limit + 32)
  child_size c h k =
      let last = item_entry i.spelled c.last in
      let sum = sized c.sum in
      let at = number_bytes c.at in
      let count = number_bytes c.count in
      omega (arith, k, item_size c.last h, sized_long c.sum, number_long c.at, number_long c.count, length-append last sum, length-append count (last ++ sum), length-append at (count ++ (last ++ sum)))

  children_size : (P : ℕ → List T → Type 0) (cs : List (Child T)) (own : List T) → AreChildren i m first P cs own → All Small own → All (λ c. length (child_entry i.spelled c) ≤ longest + (sum_limit + 32)) cs
  children_size P [] own h small = All-nil (λ (c : Child T). length (child_entry i.spelled c) ≤ longest + (sum_limit + 32))
  children_size P (c ∷ cs) own h small =
      let parts = subst (All Small) h.whole small in
      let one = h.at_front in
      let last : Small c.last = All-head Small c.last [] (all_back Small one.front (c.last ∷ []) (subst (All Small) one.last (all_front Small h.front h.back parts))) in
      let s = one.sum in
      let spelled : c.sum ≡ (m.meaning first).spelled s.sum = s.bytes_are in
      let most : length ((m.meaning first).spelled s.sum) ≤ sum_limit = short s.sum s.fits in
      let sum : length c.sum ≤ sum_limit = omega (arith, ap length spelled, most) in
      All-cons (λ (d : Child T). length (child_entry i.spelled d) ≤ longest + (sum_limit + 32)) c cs (child_size c last sum) (children_size P cs h.back h.at_back (all_back Small h.front h.back parts))

  most_size : (each n : ℕ) → each ≤ longest + (sum_limit + 32) → n ≤ 32 → 2 + each * n + 8 ≤ node_size longest
  most_size each n h few =
      let a = product_most each n 32 few in
      omega (arith, a, h)

  node_small : (there : Places) (level : ℕ) (node : Node T) (own : List T) → Has i m first there level node own → All Small own → entries node ≤ 32 → length (spelled_node i.spelled node) + 8 ≤ node_size longest
  node_small there zero (Leaf xs) own h small few =
      let each = All-weaker Small (λ (x : T). length (item_entry i.spelled x) ≤ longest + 8) item_size xs (subst (All Small) h small) in
      omega (arith, entries_size (item_entry i.spelled) (longest + 8) xs each, most_size (longest + 8) (length xs) (omega arith) few)
  node_small there zero (Inner cs) own h small few = absurd h
  node_small there (suc level) (Leaf xs) own h small few = absurd h
  node_small there (suc level) (Inner cs) own h small few =
      let each = children_size (Rattle.tree_laws.specs.SummerTrees.Stands i m first there level) cs own h small in
      omega (arith, entries_size (child_entry i.spelled) (longest + (sum_limit + 32)) cs each, most_size (longest + (sum_limit + 32)) (length cs) (omega arith) few)

  module _ (among : List T) (all : All Small among) where
    abbrev pub IsSmall : List ℕ → Type 0
    IsSmall bytes = length bytes + 8 ≤ node_size longest

    own_small : (own : List T) → AreAmong among own → All Small own
    own_small own h = All-weaker (Contains among) Small (λ x c. All-contains Small among x all c) own h

    piece_small : (there : Places) (fill : Fill) (bytes : List ℕ) → IsPiece i m first among there fill bytes → IsSmall bytes
    piece_small there fill bytes h =
        let n = h.node in
        let same : bytes ≡ spelled_node i.spelled n.node = let a = h.stand in let b = n.bytes in cc in
        let filled = n.filled in
        subst IsSmall (sym same) (node_small there h.level n.node h.own n.has (own_small h.own h.items) filled.most)

    tried_small : (there : Places) (bytes : List ℕ) → IsTried i m first among there bytes → IsSmall bytes
    tried_small there bytes h =
        let filled = h.filled in
        subst IsSmall (sym h.bytes_are) (node_small there h.level h.node h.own h.has (own_small h.own h.items) filled.most)

    module _ {S F : Type 0} (s : Sources S F) where
      were_small : (a b : S) (fault : TreeFault F Fault) → WerePieces i s m first among a b fault → EachSince IsSmall (s.puts a) (s.puts b)
      were_small a b (tree_fault.Store fault) h =
          let t = h.stood in
          let there = places (s.nodes h.fails.mid) in
          since_both (IsPiece i m first among there Below) (IsTried i m first among there) IsSmall (piece_small there Below) (tried_small there) (s.puts a) t.until (s.puts b) t.pieces t.last
      were_small a b (tree_fault.BadNode at) h = since_weaker (IsPiece i m first among (places (s.nodes b)) Below) IsSmall (piece_small (places (s.nodes b)) Below) (s.puts a) (s.puts b) h
      were_small a b (tree_fault.Summer fault) h = since_weaker (IsPiece i m first among (places (s.nodes b)) Below) IsSmall (piece_small (places (s.nodes b)) Below) (s.puts a) (s.puts b) h
      were_small a b tree_fault.NoMemory h = since_weaker (IsPiece i m first among (places (s.nodes b)) Below) IsSmall (piece_small (places (s.nodes b)) Below) (s.puts a) (s.puts b) h

      pub pieces_small : {X : Type 0} (now : Places) (a b : S) (q : Result X (TreeFault F Fault))
          → MatchResult q (λ _. AreTreePieces i m first among now (s.puts a) (s.puts b)) (λ fault. WerePieces i s m first among a b fault) → EachSince IsSmall (s.puts a) (s.puts b)
      pieces_small now a b (Ok value) h = since_both (IsPiece i m first among now Below) (IsPiece i m first among now Root) IsSmall (piece_small now Below) (piece_small now Root) (s.puts a) h.mid (s.puts b) h.below h.root
      pieces_small now a b (Err fault) h = were_small a b fault h

      pub grown : {X : Type 0} (now : Places) (a b : S) (q : Result X (TreeFault F Fault)) (most : ℕ) → Growing (s.puts a) (s.puts b) (s.size a) (s.size b)
          → MatchResult q (λ _. AreTreePieces i m first among now (s.puts a) (s.puts b)) (λ fault. WerePieces i s m first among a b fault)
          → length (s.puts b) ≤ length (s.puts a) + most → s.size b ≤ s.size a + most * node_size longest
      grown now a b q most g h few = grown_by (node_size longest) most (s.size a) (s.size b) (s.puts a) (s.puts b) g (pieces_small now a b q h) few

-- whatever a call answered, no more bytes came than the pieces take
pub ran_growing : {X T S F M Sum G : Type 0} (i : Items T) (s : Sources S F) (m : Summers M T Sum G)
    → ((a b : S) → s.goes a b → Growing (s.puts a) (s.puts b) (s.size a) (s.size b)) → ((a b : S) (fault : F) → s.fails a b fault → Growing (s.puts a) (s.puts b) (s.size a) (s.size b))
    → (a b : S) (u v : M) (q : Result X (TreeFault F G)) → Ran i s m a b u v q → Growing (s.puts a) (s.puts b) (s.size a) (s.size b)
ran_growing i s m grows grew a b u v (Ok value) h = grows a b h.store
ran_growing i s m grows grew a b u v (Err (tree_fault.Store fault)) h =
    let k = h.store in
    let before = grows a k.mid k.went in
    let last = grew k.mid b fault k.failed in
    omega (arith, before, last)
ran_growing i s m grows grew a b u v (Err (tree_fault.BadNode at)) h = grows a b h.store
ran_growing i s m grows grew a b u v (Err (tree_fault.Summer fault)) h = grows a b h.store
ran_growing i s m grows grew a b u v (Err tree_fault.NoMemory) h = grows a b h.store
