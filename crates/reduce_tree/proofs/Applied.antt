-- What a batch of edits leaves of a list.
use Rattle.std.proofs.Common.{◌≡◌, ◌≢◌, Bool, true, false, List, [], ◌∷◌, ◌++◌, All, length, ◌+◌, ◌≤◌, refl, sym, ap, ◌∙◌, append_assoc, length-append, arith}
use Rattle.std.proofs.lemmas.List.{append-nil}
use Rattle.std.specs.List.{filter, AllByRecursion}
use Rattle.std.specs.Cmp.{IsTotalOrder}
use Rattle.std.specs.List.Sorted.{IsStrictlySortedBy}
use Rattle.std.specs.Ordering.{is_lt, is_gt, ordering_reverse}
use Rattle.std.specs.declared.cmp.Ordering.{Ordering}
use Rattle.std.specs.declared.cmp.Ordering.TheVariants.{Less, Equal, Greater}
use Rattle.std.proofs.lemmas.List.Elements.{All-head, All-tail, All-cons, All-nil, All-weaker, All-filter, filter-append, filter_passes, recursion_from_All, All-from_recursion, All-append}
use Rattle.std.proofs.lemmas.List.Kept.{IsStrictlySortedBy-filter}
use Rattle.reduce_tree.specs.declared.edit.Edit.{Edit}
use Rattle.reduce_tree.specs.declared.edit.Edit.TheVariants.{Remove, Insert}
use Rattle.reduce_tree.specs.Applied.{IsWithoutEqual}
use Rattle.reduce_tree.specs.Applied.{applied, edit_key, placed_of, insertions, AreEdits}
use Rattle.reduce_tree.proofs.Order.{less, equal, greater, side, filter_all, filter_none, sorted_back, sorted_across, all_above}

module _ {T : Type 0} (order : T → T → Ordering) (key : T) where
  pub lt_all : (xs : List T) → All (λ x. order x key ≡ Less) xs → filter (λ x. is_lt (order x key)) xs ≡ xs
  lt_all xs f = filter_all (λ x. is_lt (order x key)) xs (All-weaker (λ x. order x key ≡ Less) (λ x. is_lt (order x key) ≡ true) (λ x e. ap is_lt e) xs f)

  pub gt_none : (xs : List T) → All (λ x. order x key ≡ Less) xs → filter (λ x. is_gt (order x key)) xs ≡ []
  gt_none xs f = filter_none (λ x. is_gt (order x key)) xs (All-weaker (λ x. order x key ≡ Less) (λ x. is_gt (order x key) ≡ false) (λ x e. ap is_gt e) xs f)

  pub lt_none : (ys : List T) → All (λ y. order y key ≡ Greater) ys → filter (λ x. is_lt (order x key)) ys ≡ []
  lt_none ys f = filter_none (λ x. is_lt (order x key)) ys (All-weaker (λ y. order y key ≡ Greater) (λ x. is_lt (order x key) ≡ false) (λ x e. ap is_lt e) ys f)

  pub gt_all : (ys : List T) → All (λ y. order y key ≡ Greater) ys → filter (λ x. is_gt (order x key)) ys ≡ ys
  gt_all ys f = filter_all (λ x. is_gt (order x key)) ys (All-weaker (λ y. order y key ≡ Greater) (λ x. is_gt (order x key) ≡ true) (λ x e. ap is_gt e) ys f)

module _ {T : Type 0} (order : T → T → Ordering) where
  -- edits of a front and of a back, each made on its own
  pub applied_append : (es fs : List (Edit T)) (xs ys : List T)
      → All (λ e. All (λ y. order y (edit_key e) ≡ Greater) ys) es
      → ((f : Edit T) (gs : List (Edit T)) → fs ≡ f ∷ gs → All (λ x. order x (edit_key f) ≡ Less) xs)
      → applied order (es ++ fs) (xs ++ ys) ≡ applied order es xs ++ applied order fs ys
  applied_append [] [] xs ys h k = refl
  applied_append [] (f ∷ gs) xs ys h k =
      let lt : T → Bool = λ x. is_lt (order x (edit_key f)) in
      let gt : T → Bool = λ x. is_gt (order x (edit_key f)) in
      let b : All (λ x. order x (edit_key f) ≡ Less) xs = k f gs refl in
      let l : filter lt (xs ++ ys) ≡ xs ++ filter lt ys = filter-append lt xs ys ∙ ap (λ t. t ++ filter lt ys) (lt_all order (edit_key f) xs b) in
      let r : filter gt (xs ++ ys) ≡ filter gt ys = filter-append gt xs ys ∙ ap (λ t. t ++ filter gt ys) (gt_none order (edit_key f) xs b) in
      ap (λ t. t ++ (placed_of f ++ applied order gs (filter gt (xs ++ ys)))) l
      ∙ ap (λ t. (xs ++ filter lt ys) ++ (placed_of f ++ applied order gs t)) r
      ∙ append_assoc xs (filter lt ys) (placed_of f ++ applied order gs (filter gt ys))
  applied_append (e ∷ es) fs xs ys h k =
      let lt : T → Bool = λ x. is_lt (order x (edit_key e)) in
      let gt : T → Bool = λ x. is_gt (order x (edit_key e)) in
      let A : Edit T → Type 0 = λ d. All (λ y. order y (edit_key d) ≡ Greater) ys in
      let b : All (λ y. order y (edit_key e) ≡ Greater) ys = All-head A e es h in
      let l : filter lt (xs ++ ys) ≡ filter lt xs = filter-append lt xs ys ∙ ap (λ t. filter lt xs ++ t) (lt_none order (edit_key e) ys b) ∙ append-nil (filter lt xs) in
      let r : filter gt (xs ++ ys) ≡ filter gt xs ++ ys = filter-append gt xs ys ∙ ap (λ t. filter gt xs ++ t) (gt_all order (edit_key e) ys b) in
      let ih = applied_append es fs (filter gt xs) ys (All-tail A e es h) (λ f gs q. All-filter gt (λ x. order x (edit_key f) ≡ Less) xs (k f gs q)) in
      ap (λ t. t ++ (placed_of e ++ applied order (es ++ fs) (filter gt (xs ++ ys)))) l
      ∙ ap (λ t. filter lt xs ++ (placed_of e ++ applied order (es ++ fs) t)) r
      ∙ ap (λ t. filter lt xs ++ (placed_of e ++ t)) ih
      ∙ ap (λ t. filter lt xs ++ t) (sym (append_assoc (placed_of e) (applied order es (filter gt xs)) (applied order fs ys)))
      ∙ sym (append_assoc (filter lt xs) (placed_of e ++ applied order es (filter gt xs)) (applied order fs ys))

  kept_length : (key : T) (xs : List T) → length (filter (λ x. is_lt (order x key)) xs) + length (filter (λ x. is_gt (order x key)) xs) ≤ length xs
  kept_length key [] = omega arith
  kept_length key (x ∷ xs) =
      let k = kept_length key xs in
      elim (side (order x key)) [
        | less e ↦ rw e (omega (arith, k))
        | equal e ↦ rw e (omega (arith, k))
        | greater e ↦ rw e (omega (arith, k))
      ]

  placed_few : (e : Edit T) → length (placed_of e) ≤ 1
  placed_few (Remove key) = omega arith
  placed_few (Insert key) = omega arith

  pub applied_length : (es : List (Edit T)) (xs : List T) → length (applied order es xs) ≤ length xs + length es
  applied_length [] xs = omega arith
  applied_length (e ∷ es) xs =
      let lt = filter (λ x. is_lt (order x (edit_key e))) xs in
      let gt = filter (λ x. is_gt (order x (edit_key e))) xs in
      omega (arith, kept_length (edit_key e) xs, applied_length es gt, placed_few e, length-append lt (placed_of e ++ applied order es gt), length-append (placed_of e) (applied order es gt))

  module _ (o : IsTotalOrder order) where
    rest_around : (key : T) (zs us : List T) → IsStrictlySortedBy order zs → ((x : T) (xs : List T) → zs ≡ x ∷ xs → order x key ≢ Less) → IsWithoutEqual order key zs us
        → (filter (λ x. is_lt (order x key)) zs ≡ []) × (filter (λ x. is_gt (order x key)) zs ≡ us)
    rest_around key [] us t m v = (refl, sym v)
    rest_around key (x ∷ xs) us t m v =
        let lt : T → Bool = λ y. is_lt (order y key) in
        let gt : T → Bool = λ y. is_gt (order y key) in
        let across : All (λ y. order y key ≡ Greater) xs = all_above order o key x xs (m x xs refl) (sorted_across order [] x xs t) in
        let none : filter lt xs ≡ [] = lt_none order key xs across in
        let rest : filter gt xs ≡ xs = gt_all order key xs across in
        elim (side (order x key)) [
          | less l ↦ absurd (m x xs refl l)
          | equal l ↦ let v' : us ≡ xs = rw l at v in (rw l none, rw l (rest ∙ sym v'))
          | greater l ↦ let v' : us ≡ x ∷ xs = rw l at v in (rw l none, rw l (ap (λ t. x ∷ t) rest ∙ sym v'))
        ]

    -- the first edit of a leaf
    pub applied_first : (e : Edit T) (es : List (Edit T)) (front rest after : List T) → IsStrictlySortedBy order (front ++ rest) → All (λ x. order x (edit_key e) ≡ Less) front
        → ((x : T) (xs : List T) → rest ≡ x ∷ xs → order x (edit_key e) ≢ Less) → IsWithoutEqual order (edit_key e) rest after
        → applied order (e ∷ es) (front ++ rest) ≡ front ++ (placed_of e ++ applied order es after)
    applied_first e es front rest after s f n w =
        let key = edit_key e in
        let lt : T → Bool = λ x. is_lt (order x key) in
        let gt : T → Bool = λ x. is_gt (order x key) in
        let low : (zs : List T) → filter lt zs ≡ [] → filter lt (front ++ zs) ≡ front = λ zs q. filter-append lt front zs ∙ ap (λ t. filter lt front ++ t) q ∙ append-nil (filter lt front) ∙ lt_all order key front f in
        let high : (zs us : List T) → filter gt zs ≡ us → filter gt (front ++ zs) ≡ us = λ zs us q. filter-append gt front zs ∙ ap (λ t. t ++ filter gt zs) (gt_none order key front f) ∙ q in
        let both = rest_around key rest after (sorted_back order front rest s) n w in
        ap (λ t. t ++ (placed_of e ++ applied order es (filter gt (front ++ rest)))) (low rest both.0) ∙ ap (λ t. front ++ (placed_of e ++ applied order es t)) (high rest after both.1)

module _ {T : Type 0} (P : T → Type 0) where
  each_append : (xs ys : List T) → AllByRecursion P xs → AllByRecursion P ys → AllByRecursion P (xs ++ ys)
  each_append [] ys h k = k
  each_append (x ∷ xs) ys h k = (h.0, each_append xs ys h.1 k)

pub greater_from_test : (r : Ordering) → is_gt r ≡ true → r ≡ Greater
greater_from_test Less e = absurd (cc)
greater_from_test Equal e = absurd (cc)
greater_from_test Greater e = refl

pub less_from_test : (r : Ordering) → is_lt r ≡ true → r ≡ Less
less_from_test Less e = refl
less_from_test Equal e = absurd (cc)
less_from_test Greater e = absurd (cc)

module _ {T : Type 0} (order : T → T → Ordering) (o : IsTotalOrder order) where
  placed_after : (k : T) (e : Edit T) → order k (edit_key e) ≡ Less → All (λ y. order k y ≡ Less) (placed_of e)
  placed_after k (Remove x) h = All-nil (λ y. order k y ≡ Less)
  placed_after k (Insert x) h = All-cons (λ y. order k y ≡ Less) x [] h (All-nil (λ y. order k y ≡ Less))

  -- what comes after a key stays after it
  all_after : (k : T) (es : List (Edit T)) (xs : List T) → All (λ e. order k (edit_key e) ≡ Less) es → All (λ y. order k y ≡ Less) xs → All (λ y. order k y ≡ Less) (applied order es xs)
  all_after k [] xs h a = a
  all_after k (e ∷ es) xs h a =
      let P : T → Type 0 = λ y. order k y ≡ Less in
      let lt : T → Bool = λ x. is_lt (order x (edit_key e)) in
      let gt : T → Bool = λ x. is_gt (order x (edit_key e)) in
      let here = All-head (λ e. order k (edit_key e) ≡ Less) e es h in
      let rest = all_after k es (filter gt xs) (All-tail (λ e. order k (edit_key e) ≡ Less) e es h) (All-filter gt P xs a) in
      All-append P (filter lt xs) (placed_of e ++ applied order es (filter gt xs)) (All-filter lt P xs a) (All-append P (placed_of e) (applied order es (filter gt xs)) (placed_after k e here) rest)

  around : (key : T) (ys : List T) → IsStrictlySortedBy order ys → ((x : T) → order x key ≡ Less → AllByRecursion (λ y. order x y ≡ Less) ys)
      → (xs : List T) → IsStrictlySortedBy order xs → All (λ x. order x key ≡ Less) xs → IsStrictlySortedBy order (xs ++ ys)
  unfolding IsStrictlySortedBy
  around key ys s f [] t b = s
  around key ys s f (x ∷ xs) t b = (
    each_append (λ y. order x y ≡ Less) xs ys t.0 (f x (All-head (λ z. order z key ≡ Less) x xs b)),
    around key ys s f xs t.1 (All-tail (λ z. order z key ≡ Less) x xs b),
  )

  one_sorted : (key : T) (ys : List T) → AllByRecursion (λ y. order key y ≡ Less) ys → IsStrictlySortedBy order ys → IsStrictlySortedBy order (key ∷ ys)
  unfolding IsStrictlySortedBy
  one_sorted key ys a s = (a, s)

  pub edits_head : (e : Edit T) (es : List (Edit T)) → AreEdits order (e ∷ es) → AllByRecursion (λ f. order (edit_key e) (edit_key f) ≡ Less) es
  unfolding IsStrictlySortedBy
  edits_head e es s = s.0

  pub edits_tail : (e : Edit T) (es : List (Edit T)) → AreEdits order (e ∷ es) → AreEdits order es
  unfolding IsStrictlySortedBy
  edits_tail e es s = s.1

  placed_sorted : (e : Edit T) (ys : List T) → AllByRecursion (λ y. order (edit_key e) y ≡ Less) ys → IsStrictlySortedBy order ys → IsStrictlySortedBy order (placed_of e ++ ys)
  placed_sorted (Remove key) ys a s = s
  placed_sorted (Insert key) ys a s = one_sorted key ys a s

  placed_past : (e : Edit T) (ys : List T) → AllByRecursion (λ y. order (edit_key e) y ≡ Less) ys → (x : T) → order x (edit_key e) ≡ Less → AllByRecursion (λ y. order x y ≡ Less) (placed_of e ++ ys)
  placed_past (Remove key) ys a x l = recursion_from_All (λ y. order x y ≡ Less) ys (All-weaker (λ y. order key y ≡ Less) (λ y. order x y ≡ Less) (λ y h. o.trans x key y l h) ys (All-from_recursion (λ y. order key y ≡ Less) ys a))
  placed_past (Insert key) ys a x l = (l, recursion_from_All (λ y. order x y ≡ Less) ys (All-weaker (λ y. order key y ≡ Less) (λ y. order x y ≡ Less) (λ y h. o.trans x key y l h) ys (All-from_recursion (λ y. order key y ≡ Less) ys a)))

  -- edits in order keep the order
  pub applied_sorted : (es : List (Edit T)) (xs : List T) → AreEdits order es → IsStrictlySortedBy order xs → IsStrictlySortedBy order (applied order es xs)
  applied_sorted [] xs a s = s
  applied_sorted (e ∷ es) xs a s =
      let key = edit_key e in
      let lt : T → Bool = λ x. is_lt (order x key) in
      let gt : T → Bool = λ x. is_gt (order x key) in
      let low : All (λ x. order x key ≡ Less) (filter lt xs) = All-weaker (λ x. lt x ≡ true) (λ x. order x key ≡ Less) (λ x q. less_from_test (order x key) q) (filter lt xs) (filter_passes lt xs) in
      let high : All (λ y. order key y ≡ Less) (filter gt xs) = All-weaker (λ x. gt x ≡ true) (λ y. order key y ≡ Less)
      (λ x q. o.antisymm key x ∙ ap ordering_reverse (greater_from_test (order x key) q)) (filter gt xs) (filter_passes gt xs) in
      let rest = applied order es (filter gt xs) in
      let later : AllByRecursion (λ y. order key y ≡ Less) rest = recursion_from_All (λ y. order key y ≡ Less) rest
      (all_after key es (filter gt xs) (All-from_recursion (λ f. order key (edit_key f) ≡ Less) es (edits_head e es a)) high) in
      let sorted : IsStrictlySortedBy order rest = applied_sorted es (filter gt xs) (edits_tail e es a) (IsStrictlySortedBy-filter order gt xs s) in
      around key (placed_of e ++ rest) (placed_sorted e rest later sorted) (placed_past e rest later) (filter lt xs) (IsStrictlySortedBy-filter order lt xs s) low

module _ {T : Type 0} (order : T → T → Ordering) where
  sorted_rest : (x : T) (xs : List T) → IsStrictlySortedBy order (x ∷ xs) → IsStrictlySortedBy order xs
  unfolding IsStrictlySortedBy
  sorted_rest x xs s = s.1

  sorted_none : IsStrictlySortedBy order []
  unfolding IsStrictlySortedBy
  sorted_none = tt

  pub without_sorted : (key : T) (zs us : List T) → IsStrictlySortedBy order zs → IsWithoutEqual order key zs us → IsStrictlySortedBy order us
  without_sorted key [] us s w = rw w sorted_none
  without_sorted key (x ∷ xs) us s w =
      elim (side (order x key)) [
        | less l ↦ let w' : us ≡ x ∷ xs = rw l at w in rw w' s
        | equal l ↦ let w' : us ≡ xs = rw l at w in rw w' (sorted_rest x xs s)
        | greater l ↦ let w' : us ≡ x ∷ xs = rw l at w in rw w' s
      ]

-- ---- how many items edits place

pub insertions_append : {T : Type 0} (es fs : List (Edit T)) → insertions (es ++ fs) ≡ insertions es + insertions fs
insertions_append [] fs = omega arith
insertions_append (e ∷ es) fs = omega (arith, insertions_append es fs)

pub none_given : {T : Type 0} (order : T → T → Ordering) (es : List (Edit T)) (xs : List T) → length es ≡ 0 → applied order es xs ≡ xs
none_given order [] xs e = refl
none_given order (d ∷ es) xs e = absurd (omega arith)

placed_few_of : {T : Type 0} (e : Edit T) → length (placed_of e) ≤ 1
placed_few_of (Remove key) = omega arith
placed_few_of (Insert key) = omega arith

pub insertions_most : {T : Type 0} (es : List (Edit T)) → insertions es ≤ length es
insertions_most [] = omega arith
insertions_most (e ∷ es) = omega (arith, insertions_most es, placed_few_of e)
