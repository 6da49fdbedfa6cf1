-- Where no edit changes anything.
use Rattle.std.proofs.Common.{◌≡◌, ◌≢◌, ℕ, List, [], ◌∷◌, ◌++◌, All, drop, length, take, true, Bool, refl, sym, subst}
use Rattle.std.proofs.lemmas.List.{take-append-drop}
use Rattle.std.proofs.lemmas.List.Elements.{All-cons, All-head, All-nil, All-tail, All-weaker}
use Rattle.std.specs.declared.cmp.Ordering.{Ordering}
use Rattle.std.specs.declared.cmp.Ordering.TheVariants.{Equal}
use Rattle.tree_laws.specs.declared.item.Item.{Ghosts as Items}
use Rattle.tree_laws.specs.declared.summer.Summer.{Ghosts as Summers}
use Rattle.tree_laws.specs.declared.node.Child.{Child}
use Rattle.tree_laws.specs.Stores.{Extends, Places}
use Rattle.tree_laws.specs.SummerTrees.{AreChildren, IsChild, Stands}
use Rattle.tree_laws.proofs.SummerTrees.{children_stay, stands_stays}
use Rattle.reduce_tree.specs.declared.edit.Edit.{Edit}
use Rattle.reduce_tree.specs.declared.edit.Edit.TheVariants.{Remove, Insert}
use Rattle.reduce_tree.specs.Applied.{edit_key, placed_of, RemoveNone, RemovesNone}

module _ {T : Type 0} where
  pub all_front : (P : T → Type 0) (xs ys : List T) → All P (xs ++ ys) → All P xs
  all_front P [] ys h = All-nil P
  all_front P (x ∷ xs) ys h = All-cons P x xs (All-head P x (xs ++ ys) h) (all_front P xs ys (All-tail P x (xs ++ ys) h))

  pub all_back : (P : T → Type 0) (xs ys : List T) → All P (xs ++ ys) → All P ys
  all_back P [] ys h = h
  all_back P (x ∷ xs) ys h = all_back P xs ys (All-tail P x (xs ++ ys) h)

module _ {T : Type 0} (order : T → T → Ordering) where
  pub names_none : (e : Edit T) (xs : List T) → RemovesNone order xs e → All (λ x. order x (edit_key e) ≢ Equal) xs
  names_none (Remove key) xs h = h
  names_none (Insert key) xs h = absurd h

  pub places_none : (e : Edit T) (xs : List T) → RemovesNone order xs e → length (placed_of e) ≡ 0
  places_none (Remove key) xs h = refl
  places_none (Insert key) xs h = absurd h

  removes_front : (xs ys : List T) (e : Edit T) → RemovesNone order (xs ++ ys) e → RemovesNone order xs e
  removes_front xs ys (Remove key) h = all_front (λ x. order x key ≢ Equal) xs ys h
  removes_front xs ys (Insert key) h = absurd h

  removes_back : (xs ys : List T) (e : Edit T) → RemovesNone order (xs ++ ys) e → RemovesNone order ys e
  removes_back xs ys (Remove key) h = all_back (λ x. order x key ≢ Equal) xs ys h
  removes_back xs ys (Insert key) h = absurd h

  pub none_at_front : (xs ys : List T) (es : List (Edit T)) → RemoveNone order es (xs ++ ys) → RemoveNone order es xs
  none_at_front xs ys es h = All-weaker (RemovesNone order (xs ++ ys)) (RemovesNone order xs) (λ e k. removes_front xs ys e k) es h

  pub none_at_back : (xs ys : List T) (es : List (Edit T)) → RemoveNone order es (xs ++ ys) → RemoveNone order es ys
  none_at_back xs ys es h = All-weaker (RemovesNone order (xs ++ ys)) (RemovesNone order ys) (λ e k. removes_back xs ys e k) es h

  pub none_dropped : (n : ℕ) (xs : List T) (es : List (Edit T)) → RemoveNone order es xs → RemoveNone order es (drop n xs)
  none_dropped n xs es h = none_at_back (take n xs) (drop n xs) es (subst (λ ys. RemoveNone order es ys) (sym (take-append-drop n xs)) h)

  pub none_of_first : (e : Edit T) (es : List (Edit T)) (xs : List T) → RemoveNone order (e ∷ es) xs → RemovesNone order xs e
  none_of_first e es xs h = All-head (RemovesNone order xs) e es h

  pub none_of_others : (e : Edit T) (es : List (Edit T)) (xs : List T) → RemoveNone order (e ∷ es) xs → RemoveNone order es xs
  none_of_others e es xs h = All-tail (RemovesNone order xs) e es h

module _ {T M Sum Fault : Type 0} (i : Items T) (m : Summers M T Sum Fault) (first : M) where
  -- the items of the children left, of which the edits left remove none
  pub record Still (there : Places) (low : ℕ) (rest : List (Child T)) (left : List (Edit T)) : Type 0 where
    pub back : List T
    pub at_back : AreChildren i m first (Stands i m first there low) rest back
    pub none : RemoveNone i.order left back

  pub still_step : (n0 n1 : Places) → Extends n0 n1 → (low : ℕ) (c : Child T) (rest0 rest : List (Child T)) (left own others : List (Edit T)) (was is : Bool)
      → rest0 ≡ c ∷ rest → left ≡ own ++ others
      → ((mid : List T) → IsChild i m first (Stands i m first n0 low) c mid → RemoveNone i.order own mid → was ≡ true → is ≡ true)
      → (was ≡ true) × Still n0 low rest0 left → (is ≡ true) × Still n1 low rest others
  still_step n0 n1 e01 low c rest0 rest left own others was is er el says h =
      let P = Stands i m first n0 low in
      let k = h.1 in
      let cs : AreChildren i m first P (c ∷ rest) k.back = subst (λ ds. AreChildren i m first P ds k.back) er k.at_back in
      let none : RemoveNone i.order (own ++ others) (cs.front ++ cs.back) = subst (λ xs. RemoveNone i.order (own ++ others) xs) cs.whole (subst (λ es. RemoveNone i.order es k.back) el k.none) in
      let mine = all_front (RemovesNone i.order (cs.front ++ cs.back)) own others none in
      let theirs = all_back (RemovesNone i.order (cs.front ++ cs.back)) own others none in (
        says cs.front cs.at_front (none_at_front i.order cs.front cs.back own mine) h.0,
        record {
          back = cs.back;
          at_back = children_stay i m first P (Stands i m first n1 low) (stands_stays i m first n0 n1 e01 low) rest cs.back cs.at_back;
          none = none_at_back i.order cs.front cs.back others theirs;
        },
      )
