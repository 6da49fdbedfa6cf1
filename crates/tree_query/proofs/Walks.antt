-- The rows of a walk.
use Rattle.std.proofs.Common.{◌≡◌, ℕ, zero, suc, Bool, true, false, Option, Some, None, List, [], ◌∷◌, ◌++◌, All, length, reverse, min, ◌+◌, ◌-◌, ◌<◌, ◌≤◌, take, drop, refl, sym, ap, subst, ◌∙◌, append_assoc, length-append, take-append-drop, arith, if◌then◌else◌}
use Rattle.std.proofs.lemmas.List.{append-nil, reverse-append, reverse-reverse, length-reverse, length-take-le, length-drop, take_all}
use Rattle.std.proofs.Math.Seq.{drop-append-add, take-append_seam, drop-append_seam}
use Rattle.std.specs.List.{sum_by}
use Rattle.std.proofs.lemmas.List.Elements.{All-append, All-cons, All-head, All-nil, All-tail, All-weaker}
use Rattle.std.proofs.lemmas.List.Sums.{sum_by-append, sum_by-cons}
use Rattle.tree_laws.specs.declared.item.Item.{Ghosts as Items}
use Rattle.tree_laws.specs.declared.node.Child.{Child}
use Rattle.tree_laws.specs.declared.tree.Fill.TheVariants.{Below}
use Rattle.tree_laws.specs.declared.tree.Tree.{Tree}
use Rattle.tree_laws.specs.Stores.{Extends, Places}
use Rattle.tree_laws.specs.Trees.{AreChildren, IsChild, Joins}
use Rattle.tree_laws.specs.Values.{no_values}
use Rattle.tree_laws.proofs.Structure.{child_passes, same_sums, stands_passes}
use Rattle.tree_query.specs.declared.walk.NextChild.{NextChild}
use Rattle.tree_query.specs.declared.walk.WalkRow.{WalkRow}
use Rattle.tree_query.specs.declared.walk.Walk.{Walk}
use Rattle.tree_query.specs.Bare.{StandItems}
use Rattle.tree_query.specs.Ranges.{numbered}
use Rattle.tree_laws.specs.Reaching.{Reaches, below, root}
use Rattle.tree_query.specs.Reaching.{AreReached}
use Rattle.tree_query.specs.Walking.{Ahead, AreOver, AreTurned, Finds, FindsReached, IsAt, IsOver, IsRest, turned}

pub turned_twice : {X : Type 0} (flag : Bool) (xs : List X) → turned flag (turned flag xs) ≡ xs
turned_twice false xs = refl
turned_twice true xs = reverse-reverse xs

pub turned_length : {X : Type 0} (flag : Bool) (xs : List X) → length (turned flag xs) ≡ length xs
turned_length false xs = refl
turned_length true xs = length-reverse xs

module _ {T : Type 0} (flag : Bool) (P : ℕ → List T → Type 0) where
  pub turned_append : (cs ds : List (Child T)) (xs ys : List T) → AreTurned flag P cs xs → AreTurned flag P ds ys → AreTurned flag P (cs ++ ds) (xs ++ ys)
  turned_append [] ds xs ys h k = rw h k
  turned_append (c ∷ cs) ds xs ys h k = record {
    front = h.front;
    back = h.back ++ ys;
    whole = ap (λ t. t ++ ys) h.whole ∙ append_assoc h.front h.back ys;
    at_front = h.at_front;
    at_back = turned_append cs ds h.back ys h.at_back k;
  }

  pub turned_split : (cs ds : List (Child T)) (xs : List T) → AreTurned flag P (cs ++ ds) xs → Joins (AreTurned flag P cs) (AreTurned flag P ds) xs
  turned_split [] ds xs h = record { front = []; back = xs; whole = refl; at_front = refl; at_back = h }
  turned_split (c ∷ cs) ds xs h =
      let k = turned_split cs ds h.back h.at_back in
      record {
        front = h.front ++ k.front;
        back = k.back;
        whole = h.whole ∙ ap (λ t. h.front ++ t) k.whole ∙ sym (append_assoc h.front k.front k.back);
        at_front = record { front = h.front; back = k.front; whole = refl; at_front = h.at_front; at_back = k.at_front };
        at_back = k.at_back;
      }

  pub turned_count : (cs : List (Child T)) (xs : List T) → AreTurned flag P cs xs → sum_by (λ c. c.count) cs ≡ length xs
  turned_count [] xs h = sym (ap length h)
  turned_count (c ∷ cs) xs h =
      omega (arith, sum_by-cons (λ (d : Child T). d.count) c cs, turned_count cs h.back h.at_back, h.at_front.count, turned_length flag h.front, ap length h.whole, length-append h.front h.back)

module _ {T : Type 0} (P : ℕ → List T → Type 0) where
  as_they_are : (cs : List (Child T)) (xs : List T) → AreChildren no_values P cs xs → AreTurned false P cs xs
  as_they_are [] xs h = h
  as_they_are (c ∷ cs) xs h = record { front = h.front; back = h.back; whole = h.whole; at_front = h.at_front; at_back = as_they_are cs h.back h.at_back }

  reversed : (cs : List (Child T)) (xs : List T) → AreChildren no_values P cs xs → AreTurned true P (reverse cs) (reverse xs)
  reversed [] xs h = rw h refl
  reversed (c ∷ cs) xs h =
      let one : AreTurned true P (c ∷ []) (reverse h.front) = record {
        front = reverse h.front;
        back = [];
        whole = sym (append-nil (reverse h.front));
        at_front = subst (λ ys. IsChild no_values P c ys) (sym (reverse-reverse h.front)) h.at_front;
        at_back = refl;
      } in
      let all = turned_append true P (reverse cs) (c ∷ []) (reverse h.back) (reverse h.front) (reversed cs h.back h.at_back) one in
      let e1 : reverse (c ∷ cs) ≡ reverse cs ++ (c ∷ []) = reverse-append (c ∷ []) cs in
      let e2 : reverse xs ≡ reverse h.back ++ reverse h.front = ap reverse h.whole ∙ reverse-append h.front h.back in
      subst (λ ys. AreTurned true P (reverse (c ∷ cs)) ys) (sym e2) (subst (λ ds. AreTurned true P ds (reverse h.back ++ reverse h.front)) (sym e1) all)

  pub children_turned : (flag : Bool) (cs : List (Child T)) (xs : List T) → AreChildren no_values P cs (turned flag xs) → AreTurned flag P (turned flag cs) xs
  children_turned false cs xs h = as_they_are cs xs h
  children_turned true cs xs h = subst (λ ys. AreTurned true P (reverse cs) ys) (reverse-reverse xs) (reversed cs (reverse xs) h)

module _ {T : Type 0} (i : Items T) (flag : Bool) (there : Places) where
  pub ahead_push : (rows : List (WalkRow T)) (row : WalkRow T) (xs ys : List T) → AreTurned flag (StandItems i there row.level) row.children xs → Ahead i flag there rows ys → Ahead i flag there (rows ++ (row ∷ [])) (xs ++ ys)
  ahead_push [] row xs ys h k = record { front = []; back = xs; whole = ap (λ t. xs ++ t) k ∙ append-nil xs; at_front = refl; at_back = h }
  ahead_push (r ∷ rows) row xs ys h k = record {
    front = xs ++ k.front;
    back = k.back;
    whole = ap (λ t. xs ++ t) k.whole ∙ sym (append_assoc xs k.front k.back);
    at_front = ahead_push rows row xs k.front h k.at_front;
    at_back = k.at_back;
  }

  pub ahead_append : (rows fresh : List (WalkRow T)) (xs ys : List T) → Ahead i flag there fresh xs → Ahead i flag there rows ys → Ahead i flag there (rows ++ fresh) (xs ++ ys)
  ahead_append [] fresh xs ys h k = subst (Ahead i flag there fresh) (sym (ap (λ t. xs ++ t) k ∙ append-nil xs)) h
  ahead_append (r ∷ rows) fresh xs ys h k = record {
    front = xs ++ k.front;
    back = k.back;
    whole = ap (λ t. xs ++ t) k.whole ∙ sym (append_assoc xs k.front k.back);
    at_front = ahead_append rows fresh xs k.front h k.at_front;
    at_back = k.at_back;
  }

  pub ahead_pop : (rows : List (WalkRow T)) (row : WalkRow T) (xs : List T) → Ahead i flag there (rows ++ (row ∷ [])) xs → Joins (AreTurned flag (StandItems i there row.level) row.children) (Ahead i flag there rows) xs
  ahead_pop [] row xs h = record { front = h.back; back = []; whole = h.whole ∙ ap (λ t. t ++ h.back) h.at_front ∙ sym (append-nil h.back); at_front = h.at_back; at_back = refl }
  ahead_pop (r ∷ rows) row xs h =
      let k = ahead_pop rows row h.front h.at_front in
      record {
        front = k.front;
        back = k.back ++ h.back;
        whole = h.whole ∙ ap (λ t. t ++ h.back) k.whole ∙ append_assoc k.front k.back h.back;
        at_front = k.at_front;
        at_back = record { front = k.back; back = h.back; whole = refl; at_front = k.at_back; at_back = h.at_back };
      }

pub drop_least : {X : Type 0} (n : ℕ) (xs : List X) → drop (min n (length xs)) xs ≡ drop n xs
drop_least zero xs = ap (λ k. drop k xs) (let e : min zero (length xs) ≡ zero = omega arith in e)
drop_least (suc n) [] = ap (λ k. drop k []) (let e : min (suc n) 0 ≡ zero = omega arith in e)
drop_least (suc n) (x ∷ xs) =
    let e : min (suc n) (suc (length xs)) ≡ suc (min n (length xs)) = omega arith in
    ap (λ k. drop k (x ∷ xs)) e ∙ drop_least n xs

range_swap : {X : Type 0} (from to : ℕ) (xs : List X) → from ≤ to → numbered from to xs ≡ take (to - from) (drop from xs)
range_swap zero to xs h = ap (λ n. take n xs) (let e : to ≡ to - zero = omega arith in e)
range_swap (suc from) zero xs h = absurd (omega arith)
range_swap (suc from) (suc to) [] h = sym (take_all (suc to - suc from) [] (omega arith))
range_swap (suc from) (suc to) (x ∷ xs) h = range_swap from to xs (omega arith) ∙ ap (λ n. take n (drop from xs)) (let e : to - from ≡ suc to - suc from = omega arith in e)

range_back : {X : Type 0} (from to : ℕ) (xs : List X) → from ≤ to → to ≤ length xs → reverse (numbered from to xs) ≡ take (to - from) (drop (length xs - to) (reverse xs))
range_back from to xs h k =
    let a = take from (take to xs) in
    let b = numbered from to xs in
    let c = drop to xs in
    let e1 : take to xs ≡ a ++ b = sym (take-append-drop from (take to xs)) in
    let e2 : xs ≡ take to xs ++ c = sym (take-append-drop to xs) in
    let e3 : reverse xs ≡ reverse c ++ (reverse b ++ reverse a) = ap reverse e2 ∙ reverse-append (take to xs) c ∙ ap (λ t. reverse c ++ t) (ap reverse e1 ∙ reverse-append a b) in
    let l1 : length xs - to ≡ length (reverse c) = sym (length-reverse c ∙ length-drop to xs) in
    let l2 : to - from ≡ length (reverse b) = sym (length-reverse b ∙ length-drop from (take to xs) ∙ ap (λ n. n - from) (length-take-le to xs k)) in
    let d : drop (length xs - to) (reverse xs) ≡ reverse b ++ reverse a = ap (drop (length xs - to)) e3 ∙ ap (λ n. drop n (reverse c ++ (reverse b ++ reverse a))) l1 ∙ drop-append_seam (reverse c) (reverse b ++ reverse a) in
    sym (ap (take (to - from)) d ∙ ap (λ n. take n (reverse b ++ reverse a)) l2 ∙ take-append_seam (reverse b) (reverse a))

-- a range in the order of the walk, by the items that it passes over first
pub range_turned : {X : Type 0} (flag : Bool) (from to skip : ℕ) (xs : List X) → from ≤ to → to ≤ length xs → skip ≡ (if flag then length xs - to else from) → turned flag (numbered from to xs) ≡ take (to - from) (drop skip (turned flag xs))
range_turned false from to skip xs h k e = rw e (range_swap from to xs h)
range_turned true from to skip xs h k e = rw e (range_back from to xs h k)

-- the rest of a row after the first items
pub record Reached {T : Type 0} (flag : Bool) (P : ℕ → List T → Type 0) (rest : List (Child T)) (skip offset : ℕ) (items : List T) : Type 0 where
  pub back : List T
  pub at_back : AreTurned flag P rest back
  pub dropped : drop skip items ≡ drop offset back
  pub long : length items + offset ≡ skip + length back

module _ {T : Type 0} (flag : Bool) (P : ℕ → List T → Type 0) where
  pub reached : (list rest : List (Child T)) (skip offset : ℕ) (items : List T) → AreTurned flag P list items → IsRest list skip rest offset → Reached flag P rest skip offset items
  reached list rest skip offset items h r =
      let j = turned_split flag P r.front rest items (subst (λ ds. AreTurned flag P ds items) r.whole h) in
      let n = turned_count flag P r.front j.front j.at_front in
      let e : skip ≡ length j.front + offset = omega (arith, n, r.count) in
      record {
        back = j.back;
        at_back = j.at_back;
        dropped = ap (drop skip) j.whole ∙ ap (λ k. drop k (j.front ++ j.back)) e ∙ drop-append-add j.front j.back offset;
        long = omega (arith, e, ap length j.whole, length-append j.front j.back);
      }

  pub turned_none : (cs : List (Child T)) (xs : List T) → AreTurned flag P cs xs → cs ≡ [] → xs ≡ []
  turned_none [] xs h e = h
  turned_none (c ∷ cs) xs h e = absurd (cc)

-- one item taken
pub taken_first : {X : Type 0} (left : ℕ) (x y : X) (xs rest ahead all : List X) (fresh : List X) → x ∷ xs ≡ take left all → left ≡ length (x ∷ xs) → all ≡ fresh ++ ahead → fresh ≡ y ∷ rest → (y ≡ x) × (xs ≡ take (left - 1) (rest ++ ahead))
taken_first zero x y xs rest ahead all fresh e n w f = absurd (omega (arith, n))
taken_first (suc left) x y xs rest ahead all fresh e n w f =
    let a : all ≡ y ∷ (rest ++ ahead) = w ∙ ap (λ t. t ++ ahead) f in
    let e' : x ∷ xs ≡ y ∷ take left (rest ++ ahead) = e ∙ ap (take (suc left)) a in
    let n' : left ≡ suc left - 1 = omega arith in
    (let v : y ≡ x = cc in v, (let v : xs ≡ take left (rest ++ ahead) = cc in v) ∙ ap (λ k. take k (rest ++ ahead)) n')

pub skip_below : (flag : Bool) (count from to skip : ℕ) → skip ≡ (if flag then count - to else from) → from < to → to ≤ count → skip < count
skip_below false count from to skip e h k = omega (arith, e, h, k)
skip_below true count from to skip e h k = omega (arith, e, h, k)

pub turned_empty : {X : Type 0} (flag : Bool) → turned {X = X} flag [] ≡ []
turned_empty false = refl
turned_empty true = refl

-- ---- the numbers of children

counts_turned : {T : Type 0} (cs : List (Child T)) → sum_by (λ (c : Child T). c.count) (reverse cs) ≡ sum_by (λ (c : Child T). c.count) cs
counts_turned [] = refl
counts_turned {T} (c ∷ cs) =
    let e : reverse (c ∷ cs) ≡ reverse cs ++ (c ∷ []) = reverse-append (c ∷ []) cs in
    omega (arith, ap (sum_by (λ (d : Child T). d.count)) e, sum_by-append (λ (d : Child T). d.count) (reverse cs) (c ∷ []), sum_by-cons (λ (d : Child T). d.count) c [], sum_by-cons (λ (d : Child T). d.count) c cs, counts_turned cs)

pub turned_counts : {T : Type 0} (flag : Bool) (cs : List (Child T)) → sum_by (λ (c : Child T). c.count) (turned flag cs) ≡ sum_by (λ (c : Child T). c.count) cs
turned_counts false cs = refl
turned_counts true cs = counts_turned cs

-- a row that has items left isn't empty
pub some_rest : {T : Type 0} (list : List (Child T)) (n : ℕ) (rest : List (Child T)) (offset : ℕ) → IsRest list n rest offset → n < sum_by (λ (c : Child T). c.count) list → 0 < length rest
some_rest {T} list n [] offset r less =
    let e = ap (sum_by (λ (c : Child T). c.count)) (r.whole ∙ append-nil r.front) in
    absurd (omega (arith, e, r.count, less))
some_rest list n (c ∷ cs) offset r less = omega arith

-- ---- places that are reached

all_turned : {X : Type 0} (P : X → Type 0) (xs : List X) → All P xs → All P (reverse xs)
all_turned P [] h = h
all_turned P (x ∷ xs) h = subst (All P) (sym (reverse-append (x ∷ []) xs)) (All-append P (reverse xs) (x ∷ []) (all_turned P xs (All-tail P x xs h)) (All-cons P x [] (All-head P x xs h) (All-nil P)))

pub turned_all : {X : Type 0} (P : X → Type 0) (flag : Bool) (xs : List X) → All P xs → All P (turned flag xs)
turned_all P false xs h = h
turned_all P true xs h = all_turned P xs h

pub all_back : {X : Type 0} (P : X → Type 0) (xs ys : List X) → All P (xs ++ ys) → All P ys
all_back P [] ys h = h
all_back P (x ∷ xs) ys h = all_back P xs ys (All-tail P x (xs ++ ys) h)

pub all_front : {X : Type 0} (P : X → Type 0) (xs ys : List X) → All P (xs ++ ys) → All P xs
all_front P [] ys h = All-nil P
all_front P (x ∷ xs) ys h = All-cons P x xs (All-head P x (xs ++ ys) h) (all_front P xs ys (All-tail P x (xs ++ ys) h))

-- ---- a store that was added to

module _ {T : Type 0} (i : Items T) (old new : Places) (e : Extends old new) where
  stand_items : (level at : ℕ) (items : List T) → StandItems i old level at items → StandItems i new level at items
  stand_items = stands_passes i no_values no_values (same_sums no_values) old new e Below

  turned_stay : (flag : Bool) (level : ℕ) (cs : List (Child T)) (xs : List T) → AreTurned flag (StandItems i old level) cs xs → AreTurned flag (StandItems i new level) cs xs
  turned_stay flag level [] xs h = h
  turned_stay flag level (c ∷ cs) xs h = record {
    front = h.front;
    back = h.back;
    whole = h.whole;
    at_front = child_passes no_values no_values (same_sums no_values) (StandItems i old level) (StandItems i new level) (stand_items level) c (turned flag h.front) h.at_front;
    at_back = turned_stay flag level cs h.back h.at_back;
  }

  ahead_stays : (flag : Bool) (rows : List (WalkRow T)) (xs : List T) → Ahead i flag old rows xs → Ahead i flag new rows xs
  ahead_stays flag [] xs h = h
  ahead_stays flag (row ∷ rows) xs h = record { front = h.front; back = h.back; whole = h.whole; at_front = ahead_stays flag rows h.front h.at_front; at_back = turned_stay flag row.level row.children h.back h.at_back }

  finds_stays : (flag : Bool) (next : Option (NextChild T)) (rows : List (WalkRow T)) (xs : List T) → Finds i flag old next rows xs → Finds i flag new next rows xs
  finds_stays flag None rows xs h = h
  finds_stays flag (Some next) rows xs h = record {
    front = h.front;
    back = h.back;
    whole = h.whole;
    at_front = child_passes no_values no_values (same_sums no_values) (StandItems i old next.level) (StandItems i new next.level) (stand_items next.level) next.child (turned flag h.front) h.at_front;
    at_back = ahead_stays flag rows h.back h.at_back;
  }

  pub walk_stays : (walk : Walk T) (items : List T) → IsAt i old walk items → IsAt i new walk items
  walk_stays walk items h = record {
    all = h.all;
    brings = record { front = h.brings.front; back = h.brings.back; whole = h.brings.whole; at_front = h.brings.at_front; at_back = finds_stays walk.descending walk.next walk.rows.items h.brings.back h.brings.at_back };
    whole = h.whole;
    count = h.count;
  }

  reaches_stays : (tree : Tree) (at level count : ℕ) (fill : _) → Reaches i old tree at level count fill → Reaches i new tree at level count fill
  reaches_stays tree at level count fill (root some) = root some
  reaches_stays tree at level count fill (below up low n place children child r s inside) =
      below up low n place children child (reaches_stays tree up (suc low) n place r) (record { fits = s.fits; bytes = e up _ s.bytes; place = s.place }) inside

  rows_stay : (tree : Tree) (rows : List (WalkRow T)) → AreOver i old tree rows → AreOver i new tree rows
  rows_stay tree rows h =
      All-weaker (λ (row : WalkRow T). AreReached i old tree row.level row.children) (λ (row : WalkRow T). AreReached i new tree row.level row.children)
      (λ row r. All-weaker (λ (c : Child T). Reaches i old tree c.at row.level c.count Below) (λ (c : Child T). Reaches i new tree c.at row.level c.count Below) (λ c h. reaches_stays tree c.at row.level c.count Below h) row.children r) rows h

  found_stays : (tree : Tree) (next : Option (NextChild T)) (rows : List (WalkRow T)) → FindsReached i old tree next rows → FindsReached i new tree next rows
  found_stays tree None rows h = rows_stay tree rows h
  found_stays tree (Some next) rows h = (reaches_stays tree next.child.at next.level next.child.count Below h.0, rows_stay tree rows h.1)

  pub over_stays : (tree : Tree) (walk : Walk T) → IsOver i old tree walk → IsOver i new tree walk
  over_stays tree walk h = found_stays tree walk.next walk.rows.items h
