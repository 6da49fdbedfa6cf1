-- The items of a range, and the values gathered for them.
use Rattle.std.proofs.Common.{◌≡◌, ◌≢◌, ℕ, zero, suc, List, [], ◌∷◌, ◌++◌, All, map, length, ◌+◌, ◌-◌, ◌<◌, ◌≤◌, ◌^◌, take, drop, refl, sym, ap, ◌∙◌, subst, length-append, arith}
use Rattle.std.proofs.lemmas.List.{append-nil, map-append, take-append-le, drop-append-le, drop_all, take_all, length-take-le, length-drop}
use Rattle.std.proofs.Math.Seq.{take-append-add, drop-append-add}
use Rattle.std.proofs.lemmas.Grind.{flat_map-append}
use Rattle.std.proofs.lemmas.List.Elements.{All-nil, All-cons, All-append, All-head, All-tail, All-weaker}
use Rattle.std.specs.List.{sum_by}
use Rattle.tree_laws.specs.declared.item.Item.{Ghosts as Items}
use Rattle.tree_laws.specs.declared.summer.Summer.{Ghosts as Summers}
use Rattle.tree_laws.specs.declared.node.Child.{Child}
use Rattle.tree_laws.specs.Meaning.{IsJoinValue, IsLeafValue, KeepsMeaning, Meaning, joined}
use Rattle.tree_laws.specs.Spelled.{IsSpelledOnce}
use Rattle.tree_laws.specs.SummerTrees.{AreChildren}
use Rattle.tree_laws.proofs.SummerTrees.{AreParts, children_split, parts_of}
use Rattle.tree_laws.proofs.SummerTrees.{counts_add}
use Rattle.tree_query.specs.Ranges.{Gathered, numbered}
use Rattle.tree_query.specs.Summaries.{BeginsInFirst}

pub numbered_none : {T : Type 0} (n : ℕ) (xs : List T) → numbered n n xs ≡ []
numbered_none zero xs = refl
numbered_none (suc n) [] = refl
numbered_none (suc n) (x ∷ xs) = numbered_none n xs

-- the items before a range fall away
pub numbered_cut : {T : Type 0} (xs ys : List T) (from to o end : ℕ) → length xs + o ≡ from → from ≤ to → end ≡ to - from + o → numbered from to (xs ++ ys) ≡ numbered o end ys
numbered_cut xs ys from to o end e h d =
    let e1 : to ≡ length xs + end = omega (arith, e, h, d) in
    ap (λ n. drop from (take n (xs ++ ys))) e1 ∙ ap (drop from) (take-append-add xs ys end) ∙ ap (λ n. drop n (xs ++ take end ys)) (sym e) ∙ drop-append-add xs (take end ys) o

-- a range that ends in the second of two lists
pub numbered_parted : {T : Type 0} (zs ws : List T) (o end left : ℕ) → length zs + left ≡ end → o ≤ length zs → numbered o end (zs ++ ws) ≡ drop o zs ++ take left ws
numbered_parted zs ws o end left e h = ap (λ n. drop o (take n (zs ++ ws))) (sym e) ∙ ap (drop o) (take-append-add zs ws left) ∙ drop-append-le o zs (take left ws) h

pub numbered_front : {T : Type 0} (zs ws : List T) (o end : ℕ) → end ≤ length zs → numbered o end (zs ++ ws) ≡ numbered o end zs
numbered_front zs ws o end h = ap (drop o) (take-append-le end zs ws h)

-- the items of a row cut at a number
pub record Cutting {T M Sum Fault : Type 0} (i : Items T) (m : Summers M T Sum Fault) (first : M) (P : ℕ → List T → Type 0) (front back : List (Child T)) (n offset : ℕ) (items : List T) : Type 0 where
  pub xs : List T
  pub ys : List T
  pub whole : items ≡ xs ++ ys
  pub at_front : AreChildren i m first P front xs
  pub at_back : AreChildren i m first P back ys
  pub number : length xs + offset ≡ n
  pub dropped : drop n items ≡ drop offset ys
  pub taken : take n items ≡ xs ++ take offset ys

module _ {T M Sum Fault : Type 0} (i : Items T) (m : Summers M T Sum Fault) (first : M) (P : ℕ → List T → Type 0) where
  pub cutting : (front back : List (Child T)) (n offset : ℕ) (items : List T) → AreChildren i m first P (front ++ back) items → sum_by (λ c. c.count) front + offset ≡ n → Cutting i m first P front back n offset items
  cutting front back n offset items h e =
      let j = children_split i m first P front back items h in
      let k = counts_add i m first P front j.front j.at_front in
      let n' : length j.front + offset ≡ n = omega (arith, k, e) in
      record {
        xs = j.front;
        ys = j.back;
        whole = j.whole;
        at_front = j.at_front;
        at_back = j.at_back;
        number = n';
        dropped = ap (drop n) j.whole ∙ ap (λ i. drop i (j.front ++ j.back)) (sym n') ∙ drop-append-add j.front j.back offset;
        taken = ap (take n) j.whole ∙ ap (λ i. take i (j.front ++ j.back)) (sym n') ∙ take-append-add j.front j.back offset;
      }

  pub first_long : (cs : List (Child T)) (zs : List T) (o : ℕ) → AreChildren i m first P cs zs → 0 < length cs → BeginsInFirst cs o → o ≤ length zs
  first_long [] zs o h some f = absurd (omega arith)
  first_long (c ∷ cs) zs o h some f = omega (arith, f c cs refl, h.at_front.count, ap length h.whole, length-append h.front h.back)

  pub none_below : (cs : List (Child T)) (zs : List T) → AreChildren i m first P cs zs → cs ≡ [] → zs ≡ []
  none_below [] zs h e = h
  none_below (c ∷ cs) zs h e = absurd (cc)

module _ {S : Type 0} (fits : S → Type 0) (spelled : S → List ℕ) (once : IsSpelledOnce fits spelled) where
  sums_once : (xs ys : List S) → All fits xs → All fits ys → map spelled xs ≡ map spelled ys → xs ≡ ys
  sums_once [] [] h k e = refl
  sums_once [] (y ∷ ys) h k e = absurd (cc)
  sums_once (x ∷ xs) [] h k e = absurd (cc)
  sums_once (x ∷ xs) (y ∷ ys) h k e =
      let one : spelled x ≡ spelled y = cc in
      let rest : map spelled xs ≡ map spelled ys = cc in
      let same : x ≡ y = once x y (All-head fits x xs h) (All-head fits y ys k) one in
      let others : xs ≡ ys = sums_once xs ys (All-tail fits x xs h) (All-tail fits y ys k) rest in
      ap (λ t. t ∷ xs) same ∙ ap (λ t. y ∷ t) others

parts_some : {T : Type 0} (parts : List (List T)) (items : List T) → items ≢ [] → items ≡ joined parts → parts ≢ []
parts_some [] items some e none = some e
parts_some (p ∷ ps) items some e none = absurd (cc)

module _ {T M Sum Fault : Type 0} (i : Items T) (m : Summers M T Sum Fault) (first : M) where
  pub gathered_none : Gathered m first [] []
  gathered_none = record { parts = []; whole = refl; some = All-nil (λ part. part ≢ []); values = λ lawful. refl }

  pub gathered_same : (sums : List Sum) (xs ys : List T) → xs ≡ ys → Gathered m first sums xs → Gathered m first sums ys
  gathered_same sums xs ys e h = subst (Gathered m first sums) e h

  gathered_add : (sums after : List Sum) (v : Sum) (xs ys : List T) → ys ≢ [] → (m.lawful first → v ≡ (m.meaning first).value ys) → after ≡ sums ++ v ∷ [] → Gathered m first sums xs → Gathered m first after (xs ++ ys)
  gathered_add sums after v xs ys some value e h = record {
    parts = h.parts ++ ys ∷ [];
    whole = ap (λ t. t ++ ys) h.whole ∙ ap (λ t. joined h.parts ++ t) (sym (append-nil ys)) ∙ sym (flat_map-append (λ part. part) h.parts (ys ∷ []));
    some = All-append (λ part. part ≢ []) h.parts (ys ∷ []) h.some (All-cons (λ part. part ≢ []) ys [] some (All-nil (λ part. part ≢ [])));
    values = λ lawful. e ∙ ap (λ t. t ++ v ∷ []) (h.values lawful) ∙ ap (λ w. map (m.meaning first).value h.parts ++ w ∷ []) (value lawful) ∙ sym (map-append (m.meaning first).value h.parts (ys ∷ []));
  }

  module _ (laws : KeepsMeaning m.goes m.meaning m.lawful m.usable m.fits) where
    -- the value of items that a summer was asked for
    pub gathered_leaf : (old : M) (sums after : List Sum) (v : Sum) (xs ys : List T) → m.goes first old → 0 < length ys → length ys ≤ 32 → IsLeafValue (m.lawful old) (m.meaning old) ys v → after ≡ sums ++ v ∷ [] → Gathered m first sums xs → Gathered m first after (xs ++ ys)
    gathered_leaf old sums after v xs ys g some few value e h =
        let full : ys ≢ [] = λ none. omega (arith, some, ap length none) in
        gathered_add sums after v xs ys full (λ lawful. value (laws.lawful first old g lawful) full (omega (arith, few)) ∙ ap (λ (x : Meaning T Sum). x.value ys) (laws.meaning first old g)) e h

    -- the values of whole children that were read
    pub gathered_all : IsSpelledOnce (m.fits first) (m.meaning first).spelled → (P : ℕ → List T → Type 0) (old : M) (cs : List (Child T)) (sums after more : List Sum) (xs ys : List T) → m.goes first old → AreChildren i m first P cs ys
        → map (λ c. c.sum) cs ≡ map (m.meaning old).spelled more → All (m.fits old) more → after ≡ sums ++ more → Gathered m first sums xs → Gathered m first after (xs ++ ys)
    gathered_all once P old cs sums after more xs ys g are spelled fits e h =
        let p : AreParts i m first P cs ys = parts_of i m first P cs ys are in
        let same : map (m.meaning first).spelled more ≡ map (m.meaning first).spelled p.sums = ap (λ (x : Meaning T Sum). map x.spelled more) (sym (laws.meaning first old g)) ∙ sym spelled ∙ p.spelled in
        let fits' : All (m.fits first) more = All-weaker (m.fits old) (m.fits first) (λ s f. (laws.fits first old s g).1 f) more fits in
        let equal : more ≡ p.sums = sums_once (m.fits first) (m.meaning first).spelled once more p.sums fits' p.fit same in
        record {
          parts = h.parts ++ p.parts;
          whole = ap (λ t. t ++ ys) h.whole ∙ ap (λ t. joined h.parts ++ t) p.whole ∙ sym (flat_map-append (λ part. part) h.parts p.parts);
          some = All-append (λ part. part ≢ []) h.parts p.parts h.some p.some;
          values = λ lawful. e ∙ ap (λ t. t ++ more) (h.values lawful) ∙ ap (λ t. map (m.meaning first).value h.parts ++ t) (equal ∙ p.values lawful) ∙ sym (map-append (m.meaning first).value h.parts p.parts);
        }

    -- the value of all parts that a summer was asked for
    pub gathered_value : (old : M) (sums : List Sum) (v : Sum) (items : List T) → m.goes first old → items ≢ [] → All i.fits items → length items ≤ 2 ^ 63 → IsJoinValue i.fits (m.lawful old) (m.meaning old) sums v → Gathered m first sums items → m.lawful first → v ≡ (m.meaning first).value items
    gathered_value old sums v items g some fit few value h lawful =
        let same = laws.meaning first old g in
        value (laws.lawful first old g lawful) h.parts (parts_some h.parts items some h.whole) h.some (subst (All i.fits) h.whole fit) (subst (λ xs. length xs ≤ 2 ^ 63) h.whole few)
        (h.values lawful ∙ ap (λ (x : Meaning T Sum). map x.value h.parts) (sym same)) ∙ ap (λ (x : Meaning T Sum). x.value (joined h.parts)) same ∙ ap (m.meaning first).value (sym h.whole)

pub numbered_empty : {T : Type 0} (o end : ℕ) → numbered {T = T} o end [] ≡ []
numbered_empty o end = ap (drop o) (take_all end [] (omega arith)) ∙ drop_all o [] (omega arith)

pub numbered_length : {T : Type 0} (from to : ℕ) (xs : List T) → to ≤ length xs → length (numbered from to xs) ≡ to - from
numbered_length from to xs h = length-drop from (take to xs) ∙ ap (λ n. n - from) (length-take-le to xs h)
