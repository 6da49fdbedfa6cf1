-- How many items are before a bound.
use Rattle.std.proofs.Common.{◌≡◌, ℕ, Bool, true, false, cond, List, [], ◌∷◌, ◌++◌, All, length, ◌+◌, ◌≤◌, take, drop, zero, suc, refl, sym, ap, ◌∙◌, append_assoc, length-append, take-append-drop, arith}
use Rattle.std.proofs.lemmas.List.{append-nil}
use Rattle.std.proofs.lemmas.List.Elements.{All-append, All-cons, All-head, All-nil, All-tail, All-weaker, filter-append}
use Rattle.std.specs.List.{filter, sum_by}
use Rattle.std.specs.List.Sorted.{IsStrictlySortedBy}
use Rattle.std.specs.declared.cmp.Ordering.{Ordering}
use Rattle.std.specs.declared.cmp.Ordering.TheVariants.{Less}
use Rattle.tree_laws.specs.declared.item.Item.{Ghosts as Items}
use Rattle.tree_laws.specs.declared.node.Child.{Child}
use Rattle.tree_laws.specs.Meaning.{Values}
use Rattle.tree_laws.specs.Trees.{AreChildren, IsChild, Joins}
use Rattle.tree_laws.proofs.Parts.{children_split}
use Rattle.tree_laws.proofs.Sizes.{counts_add}
use Rattle.tree_query.proofs.Lists.{false_unless}
use Rattle.tree_query.proofs.Order.{filter_all, filter_none, sorted_across, sorted_back, sorted_front, sorted_upto}

few : {T : Type 0} (b : Bool) (x : T) (xs ys : List T) → length ys ≤ length xs → length (cond b (x ∷ ys) ys) ≤ suc (length xs)
few true x xs ys h = omega (arith, h)
few false x xs ys h = omega (arith, h)

length_taken : {T : Type 0} (n : ℕ) (xs : List T) → n ≤ length xs → length (take n xs) ≡ n
length_taken zero xs h = refl
length_taken (suc n) [] h = absurd (omega arith)
length_taken (suc n) (x ∷ xs) h = omega (arith, length_taken n xs (omega arith))

pub filter_few : {T : Type 0} (p : T → Bool) (xs : List T) → length (filter p xs) ≤ length xs
filter_few p [] = omega arith
filter_few p (x ∷ xs) = few (p x) x xs (filter p xs) (filter_few p xs)

module _ {T : Type 0} (order : T → T → Ordering) (p : T → Bool) (law : (x y : T) → order x y ≡ Less → p y ≡ true → p x ≡ true) where
  pub all_taken : (xs : List T) (x : T) → IsStrictlySortedBy order (xs ++ (x ∷ [])) → p x ≡ true → All (λ y. p y ≡ true) (xs ++ (x ∷ []))
  all_taken xs x s e =
      All-append (λ y. p y ≡ true) xs (x ∷ []) (All-weaker (λ y. order y x ≡ Less) (λ y. p y ≡ true) (λ y l. law y x l e) xs (sorted_upto order xs x [] s)) (All-cons (λ y. p y ≡ true) x [] e (All-nil (λ y. p y ≡ true)))

  pub none_taken : (x : T) (ys : List T) → p x ≡ false → All (λ y. order x y ≡ Less) ys → All (λ y. p y ≡ false) ys
  none_taken x ys e = All-weaker (λ y. order x y ≡ Less) (λ y. p y ≡ false) (λ y l. false_unless (p y) (λ t. let b : false ≡ true = sym e ∙ law x y l t in absurd (cc))) ys

  back_none : (xs ys : List T) → IsStrictlySortedBy order (xs ++ ys) → ((x : T) (rest : List T) → ys ≡ x ∷ rest → p x ≡ false) → All (λ y. p y ≡ false) ys
  back_none xs [] s stops = All-nil (λ y. p y ≡ false)
  back_none xs (y ∷ ys) s stops = let n = stops y ys refl in All-cons (λ y. p y ≡ false) y ys n (none_taken y ys n (sorted_across order xs y ys s))

  -- the front that passes is what the test gives
  pub front_count : (xs : List T) (n : ℕ) → IsStrictlySortedBy order xs → n ≤ length xs → All (λ x. p x ≡ true) (take n xs) → ((x : T) (rest : List T) → drop n xs ≡ x ∷ rest → p x ≡ false) → n ≡ length (filter p xs)
  front_count xs n s h a stops =
      let e : take n xs ++ drop n xs ≡ xs = take-append-drop n xs in
      let back = back_none (take n xs) (drop n xs) (rw e s) stops in
      let f : filter p xs ≡ take n xs = ap (filter p) (sym e) ∙ filter-append p (take n xs) (drop n xs) ∙ ap (λ t. t ++ filter p (drop n xs)) (filter_all p (take n xs) a) ∙ ap (λ t. take n xs ++ t) (filter_none p (drop n xs) back) ∙ append-nil (take n xs) in
      omega (arith, ap length f, length_taken n xs h)

module _ {T S : Type 0} (i : Items T) (v : Values T S) (P : ℕ → List T → Type 0) (p : T → Bool) (law : (x y : T) → i.order x y ≡ Less → p y ≡ true → p x ≡ true) where
  pub passed_front : (cs : List (Child T)) (xs : List T) → AreChildren v P cs xs → IsStrictlySortedBy i.order xs → All (λ c. p c.last ≡ true) cs → All (λ y. p y ≡ true) xs
  passed_front [] xs h s a = rw h (All-nil (λ y. p y ≡ true))
  passed_front (c ∷ cs) xs h s a =
      let s1 : IsStrictlySortedBy i.order (h.front ++ h.back) = rw (← h.whole) s in
      let s2 : IsStrictlySortedBy i.order (h.at_front.front ++ (c.last ∷ [])) = rw (← h.at_front.last) (sorted_front i.order h.front h.back s1) in
      let one : All (λ y. p y ≡ true) h.front = rw h.at_front.last (all_taken i.order p law h.at_front.front c.last s2 (All-head (λ c. p c.last ≡ true) c cs a)) in
      let more = passed_front cs h.back h.at_back (sorted_back i.order h.front h.back s1) (All-tail (λ c. p c.last ≡ true) c cs a) in
      rw h.whole (All-append (λ y. p y ≡ true) h.front h.back one more)

  pub count_all : (cs rest : List (Child T)) (xs : List T) → rest ≡ [] → AreChildren v P (cs ++ rest) xs → IsStrictlySortedBy i.order xs → All (λ c. p c.last ≡ true) cs → (sum_by (λ c. c.count) cs ≡ length (filter p xs)) × (sum_by (λ c. c.count) cs ≡ length xs)
  count_all cs rest xs e h s a =
      let h' : AreChildren v P cs xs = rw (append-nil cs) at (rw e at h) in
      let f = ap length (filter_all p xs (passed_front cs xs h' s a)) in
      let k = counts_add i v P cs xs h' in
      (omega (arith, f, k), k)

  pub record Cut (cs : List (Child T)) (c : Child T) (xs : List T) : Type 0 where
    pub mid : List T
    pub at_mid : IsChild v P c mid
    pub sorted : IsStrictlySortedBy i.order mid
    pub few : sum_by (λ c. c.count) cs + length mid ≤ length xs
    pub count : length (filter p xs) ≡ sum_by (λ c. c.count) cs + length (filter p mid)

  pub count_cut : (cs : List (Child T)) (c : Child T) (rest : List (Child T)) (xs : List T) → AreChildren v P (cs ++ (c ∷ rest)) xs → IsStrictlySortedBy i.order xs → All (λ c. p c.last ≡ true) cs → p c.last ≡ false → Cut cs c xs
  count_cut cs c rest xs h s a n =
      let j = children_split i v P cs (c ∷ rest) xs h in
      let k : Joins (IsChild v P c) (AreChildren v P rest) j.back = j.at_back in
      let e : xs ≡ j.front ++ (k.front ++ k.back) = j.whole ∙ ap (λ t. j.front ++ t) k.whole in
      let s1 : IsStrictlySortedBy i.order (j.front ++ (k.front ++ k.back)) = rw (← e) s in
      let s2 = sorted_back i.order j.front (k.front ++ k.back) s1 in
      let e3 : k.front ++ k.back ≡ k.at_front.front ++ (c.last ∷ k.back) = ap (λ t. t ++ k.back) k.at_front.last ∙ append_assoc k.at_front.front (c.last ∷ []) k.back in
      let s3 : IsStrictlySortedBy i.order (k.at_front.front ++ (c.last ∷ k.back)) = rw (← e3) s2 in
      let none = filter_none p k.back (none_taken i.order p law c.last k.back n (sorted_across i.order k.at_front.front c.last k.back s3)) in
      let all = filter_all p j.front (passed_front cs j.front j.at_front (sorted_front i.order j.front (k.front ++ k.back) s1) a) in
      let f : filter p xs ≡ j.front ++ filter p k.front = ap (filter p) e ∙ filter-append p j.front (k.front ++ k.back) ∙ ap (λ t. t ++ filter p (k.front ++ k.back)) all
      ∙ ap (λ t. j.front ++ t) (filter-append p k.front k.back ∙ ap (λ t. filter p k.front ++ t) none ∙ append-nil (filter p k.front)) in
      let counts = counts_add i v P cs j.front j.at_front in
      record {
        mid = k.front;
        at_mid = k.at_front;
        sorted = sorted_front i.order k.front k.back s2;
        few = omega (arith, counts, ap length e, length-append j.front (k.front ++ k.back), length-append k.front k.back);
        count = omega (arith, counts, ap length f, length-append j.front (filter p k.front));
      }
