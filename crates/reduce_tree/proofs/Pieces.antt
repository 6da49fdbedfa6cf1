-- What was put, over calls one after another.
use Rattle.std.proofs.Common.{Result, Err, MatchResult, ◌≡◌, inr, ℕ, List, [], ◌∷◌, ◌++◌, Contains, length, ◌+◌, arith, refl, ap, subst}
use Rattle.std.proofs.lemmas.List.Elements.{All-append, All-filter, All-head, All-tail}
use Rattle.std.specs.declared.cmp.Ordering.{Ordering}
use Rattle.std.specs.List.Sorted.{IsStrictlySortedBy}
use Rattle.std.specs.Ordering.{is_lt, is_gt}
use Rattle.tree_laws.specs.declared.item.Item.{Ghosts as Items}
use Rattle.tree_laws.specs.declared.store.NodeSource.{Ghosts as Sources}
use Rattle.tree_laws.specs.declared.summer.Summer.{Ghosts as Summers}
use Rattle.tree_laws.specs.declared.node.Child.{Child}
use Rattle.tree_laws.specs.declared.tree.Fill.{Fill}
use Rattle.tree_laws.specs.declared.tree.Fill.TheVariants.{Below}
use Rattle.tree_laws.specs.declared.tree.TreeFault.{TreeFault}
use Rattle.tree_laws.specs.declared.tree.TreeFault.TheVariants as tree_fault
use Rattle.tree_laws.specs.Stores.{Extends, Places}
use Rattle.reduce_tree.proofs.Since.{since_both, since_none, since_one}
use Rattle.tree_laws.specs.SummerTrees.{AreChildren, IsChild, Stands}
use Rattle.tree_laws.proofs.SummerTrees.{children_stay, has_stays, stands_stays}
use Rattle.reduce_tree.specs.declared.edit.Edit.{Edit}
use Rattle.reduce_tree.specs.Applied.{applied, edit_key, placed_of}
use Rattle.reduce_tree.proofs.Order.{sorted_back, sorted_front}
use Rattle.reduce_tree.proofs.Quiet.{all_back, all_front}
use Rattle.reduce_tree.specs.Calls.{places, Fails, GoOn}
use Rattle.reduce_tree.specs.Halted.{WerePieces}
use Rattle.reduce_tree.specs.Pieces.{AreAmong, ArePieces, InsertAmong, IsPiece, IsTried}
use Rattle.reduce_tree.proofs.Calls.{Laws, extends_places}

module _ {T : Type 0} (order : T → T → Ordering) (among : List T) where
  pub applied_among : (es : List (Edit T)) (xs : List T) → InsertAmong among es → AreAmong among xs → AreAmong among (applied order es xs)
  applied_among [] xs h a = a
  applied_among (e ∷ es) xs h a =
      let P : T → Type 0 = Contains among in
      let lt = λ (x : T). is_lt (order x (edit_key e)) in
      let gt = λ (x : T). is_gt (order x (edit_key e)) in
      let I : Edit T → Type 0 = λ d. AreAmong among (placed_of d) in
      All-append P _ _ (All-filter lt P xs a) (All-append P _ _ (All-head I e es h) (applied_among es _ (All-tail I e es h) (All-filter gt P xs a)))

module _ {T M Sum Fault : Type 0} (i : Items T) (m : Summers M T Sum Fault) (first : M) (among : List T) where
  module _ (n0 n1 : Places) (e01 : Extends n0 n1) where
    piece_stays : (fill : Fill) (bytes : List ℕ) → IsPiece i m first among n0 fill bytes → IsPiece i m first among n1 fill bytes
    piece_stays fill bytes h = record {
      level = h.level;
      at = h.at;
      own = h.own;
      node = let s = h.node in record { node = s.node; fits = s.fits; bytes = e01 h.at _ s.bytes; filled = s.filled; has = has_stays i m first n0 n1 e01 h.level s.node h.own s.has };
      stand = e01 h.at bytes h.stand;
      items = h.items;
    }

    -- a is before, b between, where n0 stands, and c after, where n1 does
    pub pieces_on : (fill : Fill) (a b c : List (List ℕ)) → ArePieces i m first among n0 fill a b → ArePieces i m first among n1 fill b c → ArePieces i m first among n1 fill a c
    pieces_on fill a b c h k = since_both (IsPiece i m first among n0 fill) (IsPiece i m first among n1 fill) (IsPiece i m first among n1 fill) (λ bytes p. piece_stays fill bytes p) (λ bytes p. p) a b c h k

  module _ (there : Places) where
    pub pieces_none : (fill : Fill) (old new : List (List ℕ)) → new ≡ old → ArePieces i m first among there fill old new
    pieces_none fill old new e = since_none (IsPiece i m first among there fill) old new e

    pub pieces_one : (fill : Fill) (piece : List ℕ) (old new : List (List ℕ)) → new ≡ piece ∷ old → IsPiece i m first among there fill piece → ArePieces i m first among there fill old new
    pieces_one fill piece old new e p = since_one (IsPiece i m first among there fill) piece old new e p

  -- the items of the children left, which rise, and those that the edits left insert
  pub record Left (there : Places) (low : ℕ) (rest : List (Child T)) (left : List (Edit T)) : Type 0 where
    pub back : List T
    pub at_back : AreChildren i m first (Stands i m first there low) rest back
    pub sorted : IsStrictlySortedBy i.order back
    pub known : AreAmong among back
    pub inserts : InsertAmong among left

  -- of the first child, and of those after it
  pub record Taken (there now : Places) (low : ℕ) (c : Child T) (rest : List (Child T)) (own others : List (Edit T)) : Type 0 where
    pub mid : List T
    pub child : IsChild i m first (Stands i m first there low) c mid
    pub sorted : IsStrictlySortedBy i.order mid
    pub known : AreAmong among mid
    pub inserts : InsertAmong among own
    pub later : Left now low rest others

  pub left_step : (n0 n1 : Places) → Extends n0 n1 → (low : ℕ) (c : Child T) (rest0 rest : List (Child T)) (left own others : List (Edit T)) → rest0 ≡ c ∷ rest → left ≡ own ++ others
      → Left n0 low rest0 left → Taken n0 n1 low c rest own others
  left_step n0 n1 e01 low c rest0 rest left own others er el k =
      let P = Stands i m first n0 low in
      let I : Edit T → Type 0 = λ d. AreAmong among (placed_of d) in
      let cs : AreChildren i m first P (c ∷ rest) k.back = subst (λ ds. AreChildren i m first P ds k.back) er k.at_back in
      let sorted = subst (IsStrictlySortedBy i.order) cs.whole k.sorted in
      let all = subst (AreAmong among) cs.whole k.known in
      let es = subst (InsertAmong among) el k.inserts in
      record {
        mid = cs.front;
        child = cs.at_front;
        sorted = sorted_front i.order cs.front cs.back sorted;
        known = all_front (Contains among) cs.front cs.back all;
        inserts = all_front I own others es;
        later = record {
          back = cs.back;
          at_back = children_stay i m first P (Stands i m first n1 low) (stands_stays i m first n0 n1 e01 low) rest cs.back cs.at_back;
          sorted = sorted_back i.order cs.front cs.back sorted;
          known = all_back (Contains among) cs.front cs.back all;
          inserts = all_back I own others es;
        };
      }

module _ {T S F M Sum G : Type 0} (i : Items T) (s : Sources S F) (m : Summers M T Sum G) (laws : Laws s m) (first : M) (among : List T) where
  -- a call gave up that put nothing
  pub were_none : (a b : S) (u v : M) (fault : TreeFault F G) → Fails i s m a b u v fault → s.puts b ≡ s.puts a → WerePieces i s m first among a b fault
  were_none a b u v (tree_fault.Store fault) ran e =
      let k = ran.store in
      let there = places (s.nodes k.mid) in
      record {
        fails = k;
        stood = record { until = s.puts b; pieces = pieces_none i m first among there Below (s.puts a) (s.puts b) e; last = since_none (IsTried i m first among there) (s.puts b) (s.puts b) refl; one = omega arith };
      }
  were_none a b u v (tree_fault.BadNode at) ran e = pieces_none i m first among (places (s.nodes b)) Below (s.puts a) (s.puts b) e
  were_none a b u v (tree_fault.Summer fault) ran e = pieces_none i m first among (places (s.nodes b)) Below (s.puts a) (s.puts b) e
  were_none a b u v tree_fault.NoMemory ran e = pieces_none i m first among (places (s.nodes b)) Below (s.puts a) (s.puts b) e

  -- a put failed
  pub were_tried : (a b : S) (fault : F) (piece : List ℕ) → s.fails a b fault → s.puts b ≡ piece ∷ s.puts a → s.gets b ≡ s.gets a → IsTried i m first among (places (s.nodes a)) piece → WerePieces i s m first among a b (tree_fault.Store fault)
  were_tried a b fault piece failed e f h =
      let there = places (s.nodes a) in
      record {
        fails = record { mid = a; went = laws.store_steps.none a; failed = failed; call = inr (piece, e, f) };
        stood = record {
          until = s.puts a;
          pieces = pieces_none i m first among there Below (s.puts a) (s.puts a) refl;
          last = since_one (IsTried i m first among there) piece (s.puts a) (s.puts b) e h;
          one = omega (arith, ap length e);
        };
      }

  -- pieces were put from a to b, and a call gave up later, at c
  module _ (a b c : S) (u v w : M) (g : GoOn i s m a b u v) (h : ArePieces i m first among (places (s.nodes b)) Below (s.puts a) (s.puts b)) where
    were_later : s.goes b c → ArePieces i m first among (places (s.nodes c)) Below (s.puts b) (s.puts c) → ArePieces i m first among (places (s.nodes c)) Below (s.puts a) (s.puts c)
    were_later went k = pieces_on i m first among (places (s.nodes b)) (places (s.nodes c)) (extends_places (s.nodes b) (s.nodes c) (laws.store_keeps b c went)) Below (s.puts a) (s.puts b) (s.puts c) h k

    pub were_on : (fault : TreeFault F G) → Fails i s m b c v w fault → WerePieces i s m first among b c fault → WerePieces i s m first among a c fault
    were_on (tree_fault.Store fault) ran k =
        let t = k.stood in
        let n1 = places (s.nodes b) in
        let d = k.fails in
        let n2 = places (s.nodes d.mid) in
        let stays = extends_places (s.nodes b) (s.nodes d.mid) (laws.store_keeps b d.mid d.went) in
        record {
          fails = record { mid = d.mid; went = laws.store_steps.both a b d.mid g.store d.went; failed = d.failed; call = d.call };
          stood = record { until = t.until; pieces = pieces_on i m first among n1 n2 stays Below (s.puts a) (s.puts b) t.until h t.pieces; last = t.last; one = t.one };
        }
    were_on (tree_fault.BadNode at) ran k = were_later ran.store k
    were_on (tree_fault.Summer fault) ran k = were_later ran.store k
    were_on tree_fault.NoMemory ran k = were_later ran.store k

-- what the exit of a `?` returns
pub on_match : {X E : Type 0} (q : Result X E) (P : X → Type 0) (Q : E → Type 0) (fault y : E) → y ≡ fault → q ≡ Err y → Q fault → MatchResult q P Q
on_match q P Q fault y e is h = rw is (rw e h)
