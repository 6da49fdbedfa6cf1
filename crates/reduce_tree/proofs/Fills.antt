-- How packed nodes are filled.
use Rattle.std.proofs.Common.{◌≡◌, ◌⊎◌, inl, inr, ◌==◌, ℕ, zero, suc, ◌+◌, ◌-◌, ◌/◌, ◌%◌, ◌<◌, ◌≤◌, nat_le, nat_lt, true, false, List, [], ◌∷◌, ◌++◌, length, map, refl, sym, ap, subst, ◌∙◌, length-append, arith}
use Rattle.std.proofs.lemmas.List.{append-nil, map-append}
use Rattle.std.proofs.lemmas.List.Sums.{sum_by-append}
use Rattle.std.specs.List.{repeat, sum_by}
use Rattle.std.proofs.lemmas.Bool.Decides.{nat_tests}
use Rattle.std.proofs.lemmas.Bool.{cases_lt}
use Rattle.tree_laws.specs.declared.item.Item.{Ghosts as Items}
use Rattle.tree_laws.specs.declared.node.Child.{Child}
use Rattle.tree_laws.specs.declared.node.Node.{Node}
use Rattle.tree_laws.specs.declared.node.Node.TheVariants.{Leaf, Inner}
use Rattle.tree_laws.specs.Nodes.{entries, spelled_node}
use Rattle.tree_laws.specs.Stores.{Places, pieces_size}
use Rattle.tree_laws.specs.Packing.{fills_of, fills, IsPacked}
use Rattle.reduce_tree.specs.Packed.{nodes_size, StandsAt, ArePacked}
use Rattle.reduce_tree.specs.Rows.{IsAtLevel, IsSplit, leaf_items}
use Rattle.tree_laws.specs.declared.tree.Fill.TheVariants.{Root}
use Rattle.tree_laws.specs.Fitting.{IsFilled}
use Rattle.reduce_tree.proofs.Nodes.{level_above}

le_test : (n k : ℕ) → n ≤ k → nat_le n k ≡ true
le_test n k h = grind (arith, nat_tests)

gt_test : (n k : ℕ) → k < n → nat_le n k ≡ false
gt_test n k h = grind (arith, nat_tests)

lt_test : (n k : ℕ) → n < k → nat_lt n k ≡ true
lt_test n k h = grind (arith, nat_tests)

ge_test : (n k : ℕ) → k ≤ n → nat_lt n k ≡ false
ge_test n k h = grind (arith, nat_tests)

zero_test : (n : ℕ) → n ≡ 0 → (n == 0) ≡ true
zero_test n h = grind (arith, nat_tests)

some_test : (n : ℕ) → 0 < n → (n == 0) ≡ false
some_test n h = grind (arith, nat_tests)

pub fills_few : (n : ℕ) → n ≤ 32 → fills n ≡ n ∷ []
fills_few n h = rw (le_test n 32 h) refl

fills_many : (n : ℕ) → 32 < n → fills n ≡ fills_of (n / 32) (n % 32)
fills_many n h = rw (gt_test n 32 h) refl

fills_none : (q r : ℕ) → r ≡ 0 → fills_of q r ≡ repeat q (32 ∷ [])
fills_none q r h = rw (zero_test r h) refl

fills_short : (q r : ℕ) → 0 < r → r < 8 → fills_of q r ≡ repeat (q - 1) (32 ∷ []) ++ (24 ∷ (8 + r) ∷ [])
fills_short q r h k = rw (some_test r h) (rw (lt_test r 8 k) refl)

fills_long : (q r : ℕ) → 8 ≤ r → fills_of q r ≡ repeat q (32 ∷ []) ++ (r ∷ [])
fills_long q r k = rw (some_test r (omega (arith, k))) (rw (ge_test r 8 k) refl)

-- a row that is cut at 24
pub fills_last : (n : ℕ) → 8 < n → n < 16 → fills (24 + n) ≡ 24 ∷ n ∷ []
fills_last n h k =
    let q : (24 + n) / 32 ≡ 1 = omega (arith, h, k) in
    let r : (24 + n) % 32 ≡ n - 8 = omega (arith, h, k) in
    let b : 8 + (n - 8) ≡ n = omega (arith, h) in
    fills_many (24 + n) (omega (arith, h)) ∙ rw (q, r) (fills_short 1 (n - 8) (omega (arith, h)) (omega (arith, k)) ∙ ap (λ i. 24 ∷ i ∷ []) b)

pub data Cases (n : ℕ) : Type 0 where
  few : n < 32 → Cases n
  one : n ≡ 32 → Cases n
  none : 32 < n → n % 32 ≡ 0 → Cases n
  short : 32 < n → 0 < n % 32 → n % 32 < 8 → Cases n
  long : 32 < n → 8 ≤ n % 32 → Cases n

-- a row that is cut at 32
pub fills_next : (n : ℕ) → 8 ≤ n → Cases n → fills (32 + n) ≡ 32 ∷ fills n
fills_next n h k =
    let up : 32 < 32 + n = omega (arith, h) in
    let q : (32 + n) / 32 ≡ suc (n / 32) = omega arith in
    let r : (32 + n) % 32 ≡ n % 32 = omega arith in
    let e : fills (32 + n) ≡ fills_of (suc (n / 32)) (n % 32) = fills_many (32 + n) up ∙ rw (q, r) refl in
    e ∙ elim k [
      | few l ↦
          let q0 : n / 32 ≡ 0 = omega (arith, l) in
          let r0 : n % 32 ≡ n = omega (arith, l) in
          ap (λ i. fills_of (suc i) (n % 32)) q0 ∙ ap (λ i. fills_of 1 i) r0 ∙ fills_long 1 n h ∙ ap (λ t. 32 ∷ t) (sym (fills_few n (omega (arith, l))))
      | one l ↦ rw l refl
      | none l z ↦ fills_none (suc (n / 32)) (n % 32) z ∙ ap (λ t. 32 ∷ t) (sym (fills_many n l ∙ fills_none (n / 32) (n % 32) z))
      | short l s z ↦
          let q1 : suc (n / 32) - 1 ≡ suc (n / 32 - 1) = omega (arith, l) in
          fills_short (suc (n / 32)) (n % 32) s z ∙ ap (λ i. repeat i (32 ∷ []) ++ (24 ∷ (8 + n % 32) ∷ [])) q1 ∙ ap (λ t. 32 ∷ t) (sym (fills_many n l ∙ fills_short (n / 32) (n % 32) s z))
      | long l z ↦ fills_long (suc (n / 32)) (n % 32) z ∙ ap (λ t. 32 ∷ t) (sym (fills_many n l ∙ fills_long (n / 32) (n % 32) z))
    ]

cases_of : (n : ℕ) → Cases n
cases_of n = elim (cases_lt n 32) [
  | inl l ↦ few l
  | inr h ↦ elim (cases_lt 32 n) [
    | inr k ↦ one (omega (arith, h, k))
    | inl m ↦ elim (cases_lt (n % 32) 8) [
      | inr k ↦ long m k
      | inl s ↦ elim (cases_lt 0 (n % 32)) [
        | inl p ↦ short m p s
        | inr z ↦ none m (omega (arith, z))
      ]
    ]
  ]
]

full_long : (q : ℕ) → length {A = ℕ} (repeat q (32 ∷ [])) ≡ q
full_long zero = refl
full_long (suc q) = ap suc (full_long q)

-- more than 32 entries fill two nodes at least, and fewer nodes than there are entries
pub fills_fewer : (n : ℕ) → 32 < n → (1 < length (fills n)) × (length (fills n) < n)
fills_fewer n h = elim (cases_of n) [
  | few l ↦ absurd (omega (arith, h, l))
  | one l ↦ absurd (omega (arith, h, l))
  | none l z ↦
      let e : length (fills n) ≡ n / 32 = ap length (fills_many n h ∙ fills_none (n / 32) (n % 32) z) ∙ full_long (n / 32) in
      (omega (arith, h, z, e), omega (arith, h, z, e))
  | short l s z ↦
      let e : length (fills n) ≡ (n / 32 - 1) + 2 = ap length (fills_many n h ∙ fills_short (n / 32) (n % 32) s z) ∙ length-append (repeat (n / 32 - 1) (32 ∷ [])) (24 ∷ (8 + n % 32) ∷ []) ∙ ap (λ i. i + 2) (full_long (n / 32 - 1)) in
      (omega (arith, h, e), omega (arith, h, e))
  | long l z ↦
      let e : length (fills n) ≡ n / 32 + 1 = ap length (fills_many n h ∙ fills_long (n / 32) (n % 32) z) ∙ length-append (repeat (n / 32) (32 ∷ [])) (n % 32 ∷ []) ∙ ap (λ i. i + 1) (full_long (n / 32)) in
      (omega (arith, h, e), omega (arith, h, e))
]

-- how much of a row its first node takes
abbrev pub IsFirst : ℕ → ℕ → Type 0
IsFirst k n = ((k ≡ 24) × (8 < n) × (n < 16)) ⊎ ((k ≡ 32) × (8 ≤ n))

pub fills_more : (k n : ℕ) → IsFirst k n → fills (k + n) ≡ k ∷ fills n
fills_more k n f = elim f [
  | inl e ↦ ap (λ i. fills (i + n)) e.0 ∙ fills_last n e.1 e.2 ∙ ap (λ i. i ∷ n ∷ []) (sym e.0) ∙ ap (λ t. k ∷ t) (sym (fills_few n (omega (arith, e.2))))
  | inr e ↦ ap (λ i. fills (i + n)) e.0 ∙ fills_next n e.1 (cases_of n) ∙ ap (λ i. i ∷ fills n) (sym e.0)
]

is_packed_one : {X : Type 0} (xs : List X) → length xs ≤ 32 → IsPacked (xs ∷ []) xs
is_packed_one xs h = record { whole = sym (append-nil xs); cut = sym (fills_few (length xs) h) }

pub is_packed_more : {X : Type 0} (xs ys : List X) (pieces : List (List X)) → IsFirst (length xs) (length ys) → IsPacked pieces ys → IsPacked (xs ∷ pieces) (xs ++ ys)
is_packed_more xs ys pieces f h = record {
  whole = ap (λ t. xs ++ t) h.whole;
  cut = ap (λ t. length xs ∷ t) h.cut ∙ sym (ap fills (length-append xs ys) ∙ fills_more (length xs) (length ys) f);
}

module _ {T X : Type 0} (i : Items T) (make : List X → Node T) where
  pub sizes_append : (ps qs : List (List X)) → nodes_size i make (ps ++ qs) ≡ nodes_size i make ps + nodes_size i make qs
  sizes_append ps qs =
      let f = λ (p : List X). spelled_node i.spelled (make p) in
      let g = λ (p : List ℕ). length p + 8 in
      ap (sum_by g) (map-append f ps qs) ∙ sum_by-append g (map f ps) (map f qs)

  pub sizes_cons : (p : List X) (ps : List (List X)) → nodes_size i make (p ∷ ps) ≡ nodes_size i make (p ∷ []) + nodes_size i make ps
  sizes_cons p ps = sizes_append (p ∷ []) ps

module _ {T : Type 0} (i : Items T) (there : Places) where
  pub packed_one : (node : Node T) (c : Child T) → entries node ≤ 32 → StandsAt i there c.at node → ArePacked i there node (c ∷ []) (pieces_size (spelled_node i.spelled node ∷ []))
  packed_one (Leaf xs) c h e = (xs ∷ [], is_packed_one xs h, (e, tt), refl)
  packed_one (Inner cs) c h e = (cs ∷ [], is_packed_one cs h, (e, tt), refl)

  pub packed_more : (node left right : Node T) (c : Child T) (cs : List (Child T)) (size : ℕ) → IsSplit node left right → StandsAt i there c.at left → IsFirst (entries left) (entries right) → ArePacked i there right cs size
      → ArePacked i there node (c ∷ cs) (pieces_size (spelled_node i.spelled left ∷ []) + size)
  packed_more (Leaf us) (Leaf xs) (Leaf ys) c cs size s e f h =
      (xs ∷ h.0, subst (λ (zs : List T). IsPacked (xs ∷ h.0) zs) (sym s) (is_packed_more xs ys h.0 f h.1), (e, h.2), ap (λ n. pieces_size (spelled_node i.spelled (Leaf xs) ∷ []) + n) h.3 ∙ sym (sizes_cons i Leaf xs h.0))
  packed_more (Inner us) (Inner xs) (Inner ys) c cs size s e f h =
      (xs ∷ h.0, subst (λ (zs : List (Child T)). IsPacked (xs ∷ h.0) zs) (sym s) (is_packed_more xs ys h.0 f h.1), (e, h.2), ap (λ n. pieces_size (spelled_node i.spelled (Inner xs) ∷ []) + n) h.3 ∙ sym (sizes_cons i Inner xs h.0))
  packed_more (Leaf us) (Leaf xs) (Inner ys) c cs size s e f h = absurd s
  packed_more (Leaf us) (Inner xs) right c cs size s e f h = absurd s
  packed_more (Inner us) (Leaf xs) right c cs size s e f h = absurd s
  packed_more (Inner us) (Inner xs) (Leaf ys) c cs size s e f h = absurd s

-- a first part of a leaf has items
pub leaf_first : {T : Type 0} (node left right : Node T) → IsSplit node left right → 0 < leaf_items node → 0 < entries left → 0 < leaf_items left
leaf_first (Leaf us) (Leaf xs) (Leaf ys) s some h = h
leaf_first (Inner us) left right s some h = absurd (omega (arith, some))
leaf_first (Leaf us) (Leaf xs) (Inner ys) s some h = absurd s
leaf_first (Leaf us) (Inner xs) right s some h = absurd s

-- a root that is no lone entry is filled
pub top_fill : {T : Type 0} (level : ℕ) (node : Node T) → IsAtLevel level node → 0 < entries node → (0 < level → 2 ≤ entries node) → entries node ≤ 32 → IsFilled Root node
top_fill level (Leaf xs) kind some two most = record { least = omega (arith, some); most = most }
top_fill level (Inner cs) kind some two most =
    let up : level ≡ suc (level - 1) = level_above level kind in
    let many = two (omega (arith, up)) in
    record { least = omega (arith, many); most = most }
