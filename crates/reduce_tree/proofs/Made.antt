-- The law of a batch: which items it leaves.
use Rattle.std.proofs.Common.{◌≡◌, ◌≢◌, ◌⊎◌, inl, inr, ℕ, zero, suc, Bool, true, List, [], ◌∷◌, ◌++◌, All, Contains, ◌<◌, refl, sym, ap, ◌∙◌, subst, arith, get_or}
use Rattle.std.specs.List.{filter}
use Rattle.std.specs.Cmp.{IsTotalOrder}
use Rattle.std.specs.List.Sorted.{IsStrictlySortedBy}
use Rattle.std.specs.Ordering.{is_lt, is_gt}
use Rattle.std.specs.declared.cmp.Ordering.{Ordering}
use Rattle.std.specs.declared.cmp.Ordering.TheVariants.{Less, Equal, Greater}
use Rattle.std.proofs.lemmas.List.Elements.{All-head, All-tail, All-cons, All-nil, All-weaker, All-filter, All-contains, All-contains_itself, All-from_recursion, filter_passes, Contains-append_left, Contains-append_right, Contains-append_cases}
use Rattle.reduce_tree.specs.declared.edit.Edit.{Edit}
use Rattle.reduce_tree.specs.declared.edit.Edit.TheVariants.{Remove, Insert}
use Rattle.reduce_tree.specs.Applied.{applied, edit_key, placed_of, AreEdits, IsUnnamed, IsEdited}
use Rattle.reduce_tree.proofs.Order.{less, equal, greater, side}
use Rattle.reduce_tree.proofs.Charge.{yes, no, told}
use Rattle.reduce_tree.proofs.Applied.{applied_sorted, edits_head, edits_tail, less_from_test, greater_from_test}

module _ {X : Type 0} where
  found_one : (y x : X) (k : ℕ) → k < 1 → get_or (y ∷ []) k x ≡ x → y ≡ x
  found_one y x zero h e = e
  found_one y x (suc k) h e = absurd (omega arith)

  contains_one : (y x : X) → Contains (y ∷ []) x → y ≡ x
  contains_one y x c = found_one y x c.0 c.1 c.2

  contains_none : (x : X) → Contains [] x → ⊥
  contains_none x c = omega (arith, c.1)

  contains_here : (x : X) (xs : List X) → Contains (x ∷ xs) x
  contains_here x xs = Contains-append_left (x ∷ []) xs x (0, omega arith, refl)

  contains_later : (y : X) (xs : List X) (x : X) → Contains xs x → Contains (y ∷ xs) x
  contains_later y xs x c = Contains-append_right (y ∷ []) xs x c

  contains_filter : (p : X → Bool) (xs : List X) (x : X) → Contains xs x → p x ≡ true → Contains (filter p xs) x
  contains_filter p [] x c e = absurd (contains_none x c)
  contains_filter p (y ∷ xs) x c e = elim (Contains-append_cases (y ∷ []) xs x c) [
    | inl one ↦ let q : y ≡ x = contains_one y x one in let t : p y ≡ true = ap p q ∙ e in rw t (subst (λ z. Contains (z ∷ filter p xs) x) (sym q) (contains_here x (filter p xs)))
    | inr later ↦
        let k = contains_filter p xs x later e in
        elim (told (p y)) [
          | yes t ↦ rw t (contains_later y (filter p xs) x k)
          | no f ↦ rw f k
        ]
  ]

  filter_contains : (p : X → Bool) (xs : List X) (x : X) → Contains (filter p xs) x → Contains xs x × (p x ≡ true)
  filter_contains p xs x c = (
    All-contains (Contains xs) (filter p xs) x (All-filter p (Contains xs) xs (All-contains_itself xs)) c,
    All-contains (λ z. p z ≡ true) (filter p xs) x (filter_passes p xs) c,
  )

module _ {T : Type 0} (order : T → T → Ordering) where
  made_stays : (es : List (Edit T)) (xs : List T) (x : T) → Contains xs x → IsUnnamed order es x → Contains (applied order es xs) x
  made_stays [] xs x c u = c
  made_stays (e ∷ es) xs x c u =
      let key = edit_key e in
      let lt : T → Bool = λ y. is_lt (order y key) in
      let gt : T → Bool = λ y. is_gt (order y key) in
      let P : Edit T → Type 0 = λ d. order x (edit_key d) ≢ Equal in
      elim (side (order x key)) [
        | less l ↦ Contains-append_left (filter lt xs) (placed_of e ++ applied order es (filter gt xs)) x (contains_filter lt xs x c (ap is_lt l))
        | equal l ↦ absurd (All-head P e es u l)
        | greater l ↦ Contains-append_right (filter lt xs) (placed_of e ++ applied order es (filter gt xs)) x
            (Contains-append_right (placed_of e) (applied order es (filter gt xs)) x (made_stays es (filter gt xs) x (contains_filter gt xs x c (ap is_gt l)) (All-tail P e es u)))
      ]

  placed_comes : (e : Edit T) (x : T) → e ≡ Insert x → Contains (placed_of e) x
  placed_comes e x q = subst (λ d. Contains (placed_of d) x) (sym q) (contains_here x [])

  made_comes : (es : List (Edit T)) (xs : List T) (x : T) → Contains es (Insert x) → Contains (applied order es xs) x
  made_comes [] xs x c = absurd (contains_none (Insert x) c)
  made_comes (e ∷ es) xs x c =
      let key = edit_key e in
      let lt : T → Bool = λ y. is_lt (order y key) in
      let gt : T → Bool = λ y. is_gt (order y key) in
      Contains-append_right (filter lt xs) (placed_of e ++ applied order es (filter gt xs)) x (elim (Contains-append_cases (e ∷ []) es (Insert x) c) [
        | inl one ↦ Contains-append_left (placed_of e) (applied order es (filter gt xs)) x (placed_comes e x (contains_one e (Insert x) one))
        | inr later ↦ Contains-append_right (placed_of e) (applied order es (filter gt xs)) x (made_comes es (filter gt xs) x later)
      ])

  placed_only : (e : Edit T) (x : T) → Contains (placed_of e) x → e ≡ Insert x
  placed_only (Remove y) x c = absurd (contains_none x c)
  placed_only (Insert y) x c = ap Insert (contains_one y x c)

  apart : (r : Ordering) (s : Ordering) → r ≡ s → (s ≡ Equal → ⊥) → r ≢ Equal
  apart r s e n q = n (sym e ∙ q)

  module _ (o : IsTotalOrder order) where
    made_only : (es : List (Edit T)) (xs : List T) (x : T) → AreEdits order es → Contains (applied order es xs) x → Contains es (Insert x) ⊎ (Contains xs x × IsUnnamed order es x)
    made_only [] xs x a c = inr (c, All-nil (λ e. order x (edit_key e) ≢ Equal))
    made_only (e ∷ es) xs x a c =
        let key = edit_key e in
        let lt : T → Bool = λ y. is_lt (order y key) in
        let gt : T → Bool = λ y. is_gt (order y key) in
        let P : Edit T → Type 0 = λ d. order x (edit_key d) ≢ Equal in
        let later : All (λ f. order key (edit_key f) ≡ Less) es = All-from_recursion (λ f. order key (edit_key f) ≡ Less) es (edits_head order o e es a) in
        elim (Contains-append_cases (filter lt xs) (placed_of e ++ applied order es (filter gt xs)) x c) [
          | inl low ↦
              let k = filter_contains lt xs x low in
              let l : order x key ≡ Less = less_from_test (order x key) k.1 in
              inr (k.0, All-cons P e es (λ q. cc (l, q)) (All-weaker (λ f. order key (edit_key f) ≡ Less) P (λ f h q. cc (o.trans x key (edit_key f) l h, q)) es later))
          | inr rest ↦ elim (Contains-append_cases (placed_of e) (applied order es (filter gt xs)) x rest) [
            | inl here ↦ inl (subst (λ d. Contains (d ∷ es) (Insert x)) (sym (placed_only e x here)) (contains_here (Insert x) es))
            | inr high ↦ elim (made_only es (filter gt xs) x (edits_tail order o e es a) high) [
              | inl comes ↦ inl (contains_later e es (Insert x) comes)
              | inr stays ↦
                  let k = filter_contains gt xs x stays.0 in
                  let l : order x key ≡ Greater = greater_from_test (order x key) k.1 in
                  inr (k.0, All-cons P e es (λ q. cc (l, q)) stays.1)
            ]
          ]
        ]

    pub made : (es : List (Edit T)) (xs : List T) → AreEdits order es → IsStrictlySortedBy order xs → IsEdited order es xs (applied order es xs)
    made es xs a s = record {
      comes = made_comes es xs;
      stays = made_stays es xs;
      only = λ x. made_only es xs x a;
      rises = applied_sorted order o es xs a s;
    }
