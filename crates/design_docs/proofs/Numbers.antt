-- The last writes of a history in the order of their numbers.
use Rattle.std.proofs.Common.{◌≡◌, ◌⊎◌, inl, inr, ℕ, suc, ◌<◌, ◌≤◌, List, [], ◌∷◌, ◌++◌, length, get_or, Some, refl, sym, ap, ◌∙◌, subst, arith}
use Rattle.std.specs.Prelude.{Bool, true, false, not, bytes_eq, cond, filter, nat_lt, All, AllPairs, Contains}
use Rattle.std.proofs.lemmas.Bool.Decides.{nat_tests}
use Rattle.std.proofs.lemmas.Bool.{lt-ltb, ltb-true}
use Rattle.std.proofs.lemmas.List.Elements.{All-contains, All-contains_itself, All-filter, All-head, All-nil, All-push, All-tail, Contains-append_left, Contains-push, All-cons, filter-append, filter_passes}
use Rattle.std.proofs.lemmas.List.Kept.{AllPairs-filter}
use Rattle.std.proofs.lemmas.List.Quantifiers.{all_pairs_push}
use Rattle.design_docs.specs.History.{Write, changes_after, last_seq, last_write, of_others}
use Rattle.design_docs.proofs.Ids.{bool_cases, bytes_eq-same, same_id}

-- a change has a number after `seq`
abbrev pub is_after : ℕ → ℕ × Write → Bool
is_after seq change = nat_lt seq change.0

-- the number and the write are those of the id's last write, after `seq`
pub record IsNumbered (history : List Write) (seq : ℕ) (change : ℕ × Write) : Type 0 where
  pub write : last_write history (change.1).id ≡ Some change.1
  pub number : last_seq history (change.1).id ≡ change.0
  pub after : seq < change.0

not_after : (a b : ℕ) → b ≤ a → nat_lt a b ≡ false
not_after a b le = grind (arith, nat_tests)

other_way : (a b : List ℕ) → bytes_eq a b ≡ false → bytes_eq b a ≡ false
other_way a b differs = elim (bool_cases (bytes_eq b a)) [
  | inl same ↦ absurd (let back : bytes_eq a b ≡ true = ap (bytes_eq a) (same_id b a same) ∙ bytes_eq-same a in let clash : ⊥ = cc in clash)
  | inr is ↦ is
]

-- ---- the number of the last write of an id

seq_within : (history : List Write) (id : List ℕ) → last_seq history id ≤ length history
seq_within [] id = omega arith
seq_within (write ∷ older) id = let rest = seq_within older id in elim (bytes_eq id write.id) as (λ b. cond b (length (write ∷ older)) (last_seq older id) ≤ length (write ∷ older)) [ true ↦ omega arith | false ↦ omega arith ]

-- ids whose last writes have the same number are the same
same_match : (write : Write) (older : List Write) (a b : List ℕ) → (bytes_eq a write.id ≡ true) ⊎ (bytes_eq a write.id ≡ false) → (bytes_eq b write.id ≡ true) ⊎ (bytes_eq b write.id ≡ false)
    → 0 < last_seq (write ∷ older) a → last_seq (write ∷ older) a ≡ last_seq (write ∷ older) b → (0 < last_seq older a → last_seq older a ≡ last_seq older b → a ≡ b) → a ≡ b
same_match write older a b (inl one) (inl two) some is rest = same_id a write.id one ∙ sym (same_id b write.id two)
same_match write older a b (inl one) (inr two) some is rest =
    let low = seq_within older b in
    let here : last_seq (write ∷ older) a ≡ length (write ∷ older) = rw one refl in
    let there : last_seq (write ∷ older) b ≡ last_seq older b = rw two refl in
    absurd (omega arith)
same_match write older a b (inr one) (inl two) some is rest =
    let low = seq_within older a in
    let here : last_seq (write ∷ older) b ≡ length (write ∷ older) = rw two refl in
    let there : last_seq (write ∷ older) a ≡ last_seq older a = rw one refl in
    absurd (omega arith)
same_match write older a b (inr one) (inr two) some is rest =
    let left : last_seq (write ∷ older) a ≡ last_seq older a = rw one refl in
    let right : last_seq (write ∷ older) b ≡ last_seq older b = rw two refl in
    rest (subst (λ n. 0 < n) left some) (sym left ∙ is ∙ right)

pub same_number : (history : List Write) (a b : List ℕ) → 0 < last_seq history a → last_seq history a ≡ last_seq history b → a ≡ b
same_number [] a b some is = absurd (omega arith)
same_number (write ∷ older) a b some is = same_match write older a b (bool_cases (bytes_eq a write.id)) (bool_cases (bytes_eq b write.id)) some is (same_number older a b)

-- ---- filters

filter_none : (k : ℕ) (changes : List (ℕ × Write)) → All (λ c. c.0 ≤ k) changes → filter (is_after k) changes ≡ []
filter_none k [] all = refl
filter_none k (c ∷ changes) all = rw (not_after k c.0 (All-head (λ c. c.0 ≤ k) c changes all)) (filter_none k changes (All-tail (λ c. c.0 ≤ k) c changes all))

filter_all : (k : ℕ) (changes : List (ℕ × Write)) → All (λ c. k < c.0) changes → filter (is_after k) changes ≡ changes
filter_all k [] all = refl
filter_all k (c ∷ changes) all = rw (lt-ltb k c.0 (All-head (λ c. k < c.0) c changes all)) (ap (λ rest. c ∷ rest) (filter_all k changes (All-tail (λ c. k < c.0) c changes all)))

filter_yes : {X : Type 0} (p : X → Bool) (x : X) (xs : List X) → p x ≡ true → filter p (x ∷ xs) ≡ x ∷ filter p xs
filter_yes p x xs is = rw is refl

filter_no : {X : Type 0} (p : X → Bool) (x : X) (xs : List X) → p x ≡ false → filter p (x ∷ xs) ≡ filter p xs
filter_no p x xs is = rw is refl

commute_match : {X : Type 0} (p q : X → Bool) (x : X) (xs : List X) → (p x ≡ true) ⊎ (p x ≡ false) → (q x ≡ true) ⊎ (q x ≡ false) → filter p (filter q xs) ≡ filter q (filter p xs)
    → filter p (filter q (x ∷ xs)) ≡ filter q (filter p (x ∷ xs))
commute_match p q x xs (inl one) (inl two) rest =
    ap (filter p) (filter_yes q x xs two) ∙ filter_yes p x (filter q xs) one ∙ ap (λ l. x ∷ l) rest ∙ sym (ap (filter q) (filter_yes p x xs one) ∙ filter_yes q x (filter p xs) two)
commute_match p q x xs (inl one) (inr two) rest = ap (filter p) (filter_no q x xs two) ∙ rest ∙ sym (ap (filter q) (filter_yes p x xs one) ∙ filter_no q x (filter p xs) two)
commute_match p q x xs (inr one) (inl two) rest = ap (filter p) (filter_yes q x xs two) ∙ filter_no p x (filter q xs) one ∙ rest ∙ sym (ap (filter q) (filter_no p x xs one))
commute_match p q x xs (inr one) (inr two) rest = ap (filter p) (filter_no q x xs two) ∙ rest ∙ sym (ap (filter q) (filter_no p x xs one))

filters_commute : {X : Type 0} (p q : X → Bool) (xs : List X) → filter p (filter q xs) ≡ filter q (filter p xs)
filters_commute p q [] = refl
filters_commute p q (x ∷ xs) = commute_match p q x xs (bool_cases (p x)) (bool_cases (q x)) (filters_commute p q xs)

-- what holds of what a filter keeps
unfiltered_match : {X : Type 0} (p : X → Bool) (P : X → Type 0) (x : X) (xs : List X) → (p x ≡ true) ⊎ (p x ≡ false) → (All P (filter p xs) → All (λ y. p y ≡ true → P y) xs) → All P (filter p (x ∷ xs))
    → All (λ y. p y ≡ true → P y) (x ∷ xs)
unfiltered_match p P x xs (inl is) rest all =
    let whole : All P (x ∷ filter p xs) = rw is at all in
    All-cons (λ y. p y ≡ true → P y) x xs (λ _. All-head P x (filter p xs) whole) (rest (All-tail P x (filter p xs) whole))
unfiltered_match p P x xs (inr is) rest all =
    let whole : All P (filter p xs) = rw is at all in
    All-cons (λ y. p y ≡ true → P y) x xs (λ passes. absurd (let clash : ⊥ = cc in clash)) (rest whole)

unfiltered : {X : Type 0} (p : X → Bool) (P : X → Type 0) (xs : List X) → All P (filter p xs) → All (λ y. p y ≡ true → P y) xs
unfiltered p P [] all = All-nil (λ y. p y ≡ true → P y)
unfiltered p P (x ∷ xs) all = unfiltered_match p P x xs (bool_cases (p x)) (unfiltered p P xs) all

contains_filter : {X : Type 0} (p : X → Bool) (xs : List X) (x : X) → Contains xs x → p x ≡ true → Contains (filter p xs) x
contains_filter p xs x in' is = All-contains (λ y. p y ≡ true → Contains (filter p xs) y) xs x (unfiltered p (Contains (filter p xs)) xs (All-contains_itself (filter p xs))) in' is

-- ---- each change is the last write of its id

numbered_there : (write : Write) (older : List Write) (seq : ℕ) (change : ℕ × Write) → IsNumbered older seq change → bytes_eq write.id (change.1).id ≡ false → IsNumbered (write ∷ older) seq change
numbered_there write older seq change is differs =
    let other : bytes_eq (change.1).id write.id ≡ false = other_way write.id (change.1).id differs in
    record { write = rw other is.write; number = rw other is.number; after = is.after }

numbered_here : (write : Write) (older : List Write) (seq : ℕ) → seq < length (write ∷ older) → IsNumbered (write ∷ older) seq (length (write ∷ older), write)
numbered_here write older seq after = record { write = rw (bytes_eq-same write.id) refl; number = rw (bytes_eq-same write.id) refl; after = after }

not_true : (b : Bool) → not b ≡ true → b ≡ false
not_true true is = absurd (let clash : ⊥ = cc in clash)
not_true false is = refl

others_numbered : (write : Write) (older : List Write) (seq : ℕ) (changes : List (ℕ × Write)) → All (IsNumbered older seq) changes → All (IsNumbered (write ∷ older) seq) (of_others write.id changes)
others_numbered write older seq changes all = λ k d within.
    let kept = All-filter (λ c. not (bytes_eq write.id (c.1).id)) (IsNumbered older seq) changes all k d within in
    let passed = filter_passes (λ c. not (bytes_eq write.id (c.1).id)) changes k d within in
    numbered_there write older seq (get_or (of_others write.id changes) k d) kept (not_true _ passed)

abbrev After : ℕ → Write → List Write → Type 0
After seq write older = (nat_lt seq (length (write ∷ older)) ≡ true) ⊎ (nat_lt seq (length (write ∷ older)) ≡ false)

pub with_newest : (seq : ℕ) (write : Write) (older : List Write) → nat_lt seq (length (write ∷ older)) ≡ true
    → changes_after seq (write ∷ older) ≡ of_others write.id (changes_after seq older) ++ (length (write ∷ older), write) ∷ []
with_newest seq write older after = rw after refl

without_newest : (seq : ℕ) (write : Write) (older : List Write) → nat_lt seq (length (write ∷ older)) ≡ false → changes_after seq (write ∷ older) ≡ []
without_newest seq write older not_yet = rw not_yet refl

numbered_match : (seq : ℕ) (write : Write) (older : List Write) → After seq write older → All (IsNumbered older seq) (changes_after seq older) → All (IsNumbered (write ∷ older) seq) (changes_after seq (write ∷ older))
numbered_match seq write older (inl after) rest = subst (All (IsNumbered (write ∷ older) seq)) (sym (with_newest seq write older after)) (All-push (IsNumbered (write ∷ older) seq) (of_others write.id (changes_after seq older)) (length (write ∷ older), write)
    (others_numbered write older seq (changes_after seq older) rest) (numbered_here write older seq (ltb-true seq (length (write ∷ older)) after)))
numbered_match seq write older (inr not_yet) rest = subst (All (IsNumbered (write ∷ older) seq)) (sym (without_newest seq write older not_yet)) (All-nil (IsNumbered (write ∷ older) seq))

pub each_numbered : (seq : ℕ) (history : List Write) → All (IsNumbered history seq) (changes_after seq history)
each_numbered seq [] = All-nil (IsNumbered [] seq)
each_numbered seq (write ∷ older) = numbered_match seq write older (bool_cases (nat_lt seq (length (write ∷ older)))) (each_numbered seq older)

within : (seq : ℕ) (history : List Write) → All (λ c. c.0 ≤ length history) (changes_after seq history)
within seq history = λ k d in'. let is = each_numbered seq history k d in' in omega (arith, seq_within history ((get_or (changes_after seq history) k d).1).id, is.number)

-- ---- the numbers rise

abbrev Rises : List (ℕ × Write) → Type 0
Rises changes = AllPairs (λ c later. c.0 < later.0) changes

rises_match : (seq : ℕ) (write : Write) (older : List Write) → After seq write older → Rises (changes_after seq older) → Rises (changes_after seq (write ∷ older))
rises_match seq write older (inl after) rest = subst Rises (sym (with_newest seq write older after)) (all_pairs_push (λ c later. c.0 < later.0) (of_others write.id (changes_after seq older)) (length (write ∷ older), write)
    (AllPairs-filter (λ c later. c.0 < later.0) (λ c. not (bytes_eq write.id (c.1).id)) (changes_after seq older) rest)
    (λ k d in'. let low = All-filter (λ c. not (bytes_eq write.id (c.1).id)) (λ c. c.0 ≤ length older) (changes_after seq older) (within seq older) k d in' in omega arith))
rises_match seq write older (inr not_yet) rest = subst Rises (sym (without_newest seq write older not_yet)) (λ i j d before in'. absurd (omega arith))

pub rises : (seq : ℕ) (history : List Write) → Rises (changes_after seq history)
rises seq [] = λ i j d before in'. absurd (omega arith)
rises seq (write ∷ older) = rises_match seq write older (bool_cases (nat_lt seq (length (write ∷ older)))) (rises seq older)

-- ---- those after a greater number

later_match : (seq k : ℕ) (write : Write) (older : List Write) → seq ≤ k → After k write older → filter (is_after k) (changes_after seq older) ≡ changes_after k older
    → filter (is_after k) (changes_after seq (write ∷ older)) ≡ changes_after k (write ∷ older)
later_match seq k write older less (inl after) rest =
    let first : nat_lt seq (length (write ∷ older)) ≡ true = lt-ltb seq (length (write ∷ older)) (let behind = ltb-true k (length (write ∷ older)) after in omega arith) in
    let others : List (ℕ × Write) = of_others write.id (changes_after seq older) in
    let left : changes_after seq (write ∷ older) ≡ others ++ (length (write ∷ older), write) ∷ [] = with_newest seq write older first in
    let right : changes_after k (write ∷ older) ≡ of_others write.id (changes_after k older) ++ (length (write ∷ older), write) ∷ [] = with_newest k write older after in
    let kept : filter (is_after k) others ≡ of_others write.id (changes_after k older) =
    filters_commute (is_after k) (λ c. not (bytes_eq write.id (c.1).id)) (changes_after seq older) ∙ ap (of_others write.id) rest in
    ap (filter (is_after k)) left ∙ filter-append (is_after k) others ((length (write ∷ older), write) ∷ [])
    ∙ ap (λ l. l ++ filter (is_after k) ((length (write ∷ older), write) ∷ [])) kept
    ∙ ap (λ l. of_others write.id (changes_after k older) ++ l) (filter_yes (is_after k) (length (write ∷ older), write) [] after) ∙ sym right
later_match seq k write older less (inr not_yet) rest =
    let right : changes_after k (write ∷ older) ≡ [] = without_newest k write older not_yet in
    filter_none k (changes_after seq (write ∷ older)) (λ j d in'. let low = within seq (write ∷ older) j d in' in grind (arith, nat_tests)) ∙ sym right

pub later : (seq k : ℕ) (history : List Write) → seq ≤ k → filter (is_after k) (changes_after seq history) ≡ changes_after k history
later seq k [] less = refl
later seq k (write ∷ older) less = later_match seq k write older less (bool_cases (nat_lt k (length (write ∷ older)))) (later seq k older less)

-- those behind the first are those after its number
pub rest_after : (seq : ℕ) (history : List Write) (c : ℕ × Write) (rest : List (ℕ × Write)) → changes_after seq history ≡ c ∷ rest → rest ≡ changes_after c.0 history
rest_after seq history c rest is =
    let rising : Rises (c ∷ rest) = subst Rises is (rises seq history) in
    let is_numbered : All (IsNumbered history seq) (c ∷ rest) = subst (All (IsNumbered history seq)) is (each_numbered seq history) in
    let first : IsNumbered history seq c = All-head (IsNumbered history seq) c rest is_numbered in
    let above : All (λ x. c.0 < x.0) rest = λ k d in'. rising 0 (suc k) d (omega arith) (omega arith) in
    sym (ap (filter (is_after c.0)) is ∙ filter_no (is_after c.0) c rest (not_after c.0 c.0 (omega arith)) ∙ filter_all c.0 rest above)
    ∙ later seq c.0 history (let low = first.after in omega arith)

-- ---- each last write is a change

contains_match : (seq : ℕ) (write : Write) (older : List Write) (id : List ℕ) (w : Write) → (bytes_eq id write.id ≡ true) ⊎ (bytes_eq id write.id ≡ false)
    → w.id ≡ id → last_write (write ∷ older) id ≡ Some w → seq < last_seq (write ∷ older) id
    → (last_write older id ≡ Some w → seq < last_seq older id → Contains (changes_after seq older) (last_seq older id, w)) → Contains (changes_after seq (write ∷ older)) (last_seq (write ∷ older) id, w)
contains_match seq write older id w (inl here) named is after rest =
    let number : last_seq (write ∷ older) id ≡ length (write ∷ older) = rw here refl in
    let found : Some write ≡ Some w = sym (rw here refl) ∙ is in
    let same : write ≡ w = cc in
    let first : nat_lt seq (length (write ∷ older)) ≡ true = lt-ltb seq (length (write ∷ older)) (omega arith) in
    let there : changes_after seq (write ∷ older) ≡ of_others write.id (changes_after seq older) ++ (length (write ∷ older), write) ∷ [] = with_newest seq write older first in
    subst (λ l. Contains l (last_seq (write ∷ older) id, w)) (sym there)
    (subst (λ (c : ℕ × Write). Contains (of_others write.id (changes_after seq older) ++ (length (write ∷ older), write) ∷ []) c) (λ i. (sym number i, same i))
    (Contains-push (of_others write.id (changes_after seq older)) (length (write ∷ older), write)))
contains_match seq write older id w (inr other) named is after rest =
    let number : last_seq (write ∷ older) id ≡ last_seq older id = rw other refl in
    let found : last_write older id ≡ Some w = sym (rw other refl) ∙ is in
    let low = seq_within older id in
    let first : nat_lt seq (length (write ∷ older)) ≡ true = lt-ltb seq (length (write ∷ older)) (omega arith) in
    let there : changes_after seq (write ∷ older) ≡ of_others write.id (changes_after seq older) ++ (length (write ∷ older), write) ∷ [] = with_newest seq write older first in
    let differs : bytes_eq write.id w.id ≡ false = ap (bytes_eq write.id) named ∙ other_way id write.id other in
    let kept : not (bytes_eq write.id w.id) ≡ true = rw differs refl in
    let in_older : Contains (changes_after seq older) (last_seq older id, w) = rest found (subst (λ n. seq < n) number after) in
    subst (λ l. Contains l (last_seq (write ∷ older) id, w)) (sym there)
    (subst (λ n. Contains (of_others write.id (changes_after seq older) ++ (length (write ∷ older), write) ∷ []) (n, w)) (sym number)
    (Contains-append_left (of_others write.id (changes_after seq older)) ((length (write ∷ older), write) ∷ []) (last_seq older id, w)
    (contains_filter (λ c. not (bytes_eq write.id (c.1).id)) (changes_after seq older) (last_seq older id, w) in_older kept)))

is_change : (seq : ℕ) (history : List Write) (id : List ℕ) (w : Write) → w.id ≡ id → last_write history id ≡ Some w → seq < last_seq history id → Contains (changes_after seq history) (last_seq history id, w)
is_change seq [] id w named is after = absurd (let clash : ⊥ = cc in clash)
is_change seq (write ∷ older) id w named is after = contains_match seq write older id w (bool_cases (bytes_eq id write.id)) named is after (is_change seq older id w named)

-- ---- the first change

first_is : (seq k : ℕ) (history : List Write) (id : List ℕ) (w : Write) (changes : List (ℕ × Write)) → changes_after seq history ≡ changes → w.id ≡ id → last_write history id ≡ Some w → last_seq history id ≡ k → seq < k
    → ((other : List ℕ) (u : Write) → last_write history other ≡ Some u → seq < last_seq history other → k ≤ last_seq history other) → changes ≡ (k, w) ∷ changes_after k history
first_is seq k history id w [] is named last number after least =
    let in' : Contains [] (last_seq history id, w) = subst (λ l. Contains l (last_seq history id, w)) is (is_change seq history id w named last (omega arith)) in
    absurd (omega (arith, in'.1))
first_is seq k history id w (c ∷ rest) is named last number after least =
    let first : IsNumbered history seq c = All-head (IsNumbered history seq) c rest (subst (All (IsNumbered history seq)) is (each_numbered seq history)) in
    let rising : Rises (c ∷ rest) = subst Rises is (rises seq history) in
    let low : All (λ (x : ℕ × Write). c.0 ≤ x.0) (c ∷ rest) = All-cons (λ x. c.0 ≤ x.0) c rest (omega arith) (λ j d in'. let more : c.0 < (get_or rest j d).0 = rising 0 (suc j) d (omega arith) (omega arith) in omega arith) in
    let in' : Contains (c ∷ rest) (last_seq history id, w) = subst (λ l. Contains l (last_seq history id, w)) is (is_change seq history id w named last (omega arith)) in
    let below : c.0 ≤ last_seq history id = All-contains (λ x. c.0 ≤ x.0) (c ∷ rest) (last_seq history id, w) low in' in
    let above : k ≤ last_seq history (c.1).id = least (c.1).id c.1 first.write (let behind = first.after in omega (arith, first.number)) in
    let same : c.0 ≡ k = omega (arith, first.number, below, above, number) in
    let ids : id ≡ (c.1).id = same_number history id (c.1).id (omega arith) (omega (arith, first.number, same, number)) in
    let writes : Some w ≡ Some c.1 = sym last ∙ ap (last_write history) ids ∙ first.write in
    let write : c.1 ≡ w = cc in
    (λ i. (same i, write i) ∷ rest) ∙ ap (λ l. (k, w) ∷ l) (rest_after seq history c rest is ∙ ap (λ n. changes_after n history) same)

pub first_change : (seq k : ℕ) (history : List Write) (id : List ℕ) (w : Write) → w.id ≡ id → last_write history id ≡ Some w → last_seq history id ≡ k → seq < k
    → ((other : List ℕ) (u : Write) → last_write history other ≡ Some u → seq < last_seq history other → k ≤ last_seq history other) → changes_after seq history ≡ (k, w) ∷ changes_after k history
first_change seq k history id w named last number after least = first_is seq k history id w (changes_after seq history) refl named last number after least

none_is : (seq : ℕ) (history : List Write) (changes : List (ℕ × Write)) → changes_after seq history ≡ changes → ((id : List ℕ) (u : Write) → last_write history id ≡ Some u → seq < last_seq history id → ⊥) → changes ≡ []
none_is seq history [] is none = refl
none_is seq history (c ∷ rest) is none =
    let first : IsNumbered history seq c = All-head (IsNumbered history seq) c rest (subst (All (IsNumbered history seq)) is (each_numbered seq history)) in
    absurd (none (c.1).id c.1 first.write (let behind = first.after in omega (arith, first.number)))

pub no_change : (seq : ℕ) (history : List Write) → ((id : List ℕ) (u : Write) → last_write history id ≡ Some u → seq < last_seq history id → ⊥) → changes_after seq history ≡ []
no_change seq history none = none_is seq history (changes_after seq history) refl none
