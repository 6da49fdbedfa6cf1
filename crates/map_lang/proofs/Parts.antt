-- Reducing in parts gives what reducing all at once gives.
use Rattle.std.specs.Prelude.{◌≡◌, ◌≢◌, ◌<◌, ◌+◌, ◌-◌, ◌^◌, ℕ, zero, suc, min, Bool, true, false, cond, List, [], ◌∷◌, ◌++◌, map, length, sum_by, fold, pos, refl, ◌⊎◌}
use Rattle.std.proofs.Common.{◌∙◌, sym, ap, inl, inr, arith, get_or, take, length-append, append-nil, add-one}
use Rattle.std.specs.List.{AllByRecursion}
use Rattle.std.specs.declared.cmp.Ordering.{Ordering}
use Rattle.std.specs.declared.cmp.Ordering.TheVariants.{Less, Equal, Greater}
use Rattle.std.specs.Ordering.{is_gt, ordering_reverse}
use Rattle.std.specs.Cmp.{IsTotalOrder}
use Rattle.std.proofs.lemmas.List.Sums.{sum_by-cons}
use Rattle.std.proofs.lemmas.Cmp.{upto, back_total}
use Rattle.json_terms.specs.Json.{Json, number}
use Rattle.raw_collation.specs.Collation.{json_cmp}
use Rattle.raw_collation.proofs.Totals.{json_cmp_total}
use Rattle.map_lang.specs.declared.reduce.PickReduce.TheVariants.{Rows, Min, Max, First, Last}
use Rattle.map_lang.specs.Reduce.{count, counted, lesser, greater, least, greatest, first, last}
use Rattle.map_lang.specs.Laws.{joined, ReducesInParts}

either : (b : Bool) → (b ≡ true) ⊎ (b ≡ false)
either true = inl refl
either false = inr refl

is_greater : (o : Ordering) → is_gt o ≡ true → o ≡ Greater
is_greater Less h = cc
is_greater Equal h = cc
is_greater Greater h = refl

-- the second where the first is greater
abbrev earlier : (Json → Json → Ordering) → Json → Json → Json
earlier R a b = cond (is_gt (R a b)) b a

gt_trans : (R : Json → Json → Ordering) → IsTotalOrder R → (a b c : Json) → is_gt (R a b) ≡ true → is_gt (R b c) ≡ true → is_gt (R a c) ≡ true
gt_trans R o a b c p q =
    let ba : R b a ≡ Less = o.antisymm b a ∙ ap ordering_reverse (is_greater _ p) in
    let cb : R c b ≡ Less = o.antisymm c b ∙ ap ordering_reverse (is_greater _ q) in
    ap is_gt (o.antisymm a c ∙ ap ordering_reverse (o.trans c b a cb ba))

earlier-assoc : (R : Json → Json → Ordering) → IsTotalOrder R → (a b c : Json) → earlier R (earlier R a b) c ≡ earlier R a (earlier R b c)
earlier-assoc R o a b c =
    let takes : (x y : Json) → is_gt (R x y) ≡ true → earlier R x y ≡ y = λ x y h. ap (λ v. cond v y x) h in
    let keeps : (x y : Json) → is_gt (R x y) ≡ false → earlier R x y ≡ x = λ x y h. ap (λ v. cond v y x) h in
    elim (either (is_gt (R a b))) [
      | inl p ↦ elim (either (is_gt (R b c))) [
        | inl q ↦ ap (λ v. earlier R v c) (takes a b p) ∙ takes b c q ∙ sym (ap (λ v. earlier R a v) (takes b c q) ∙ takes a c (gt_trans R o a b c p q))
        | inr q ↦ ap (λ v. earlier R v c) (takes a b p) ∙ keeps b c q ∙ sym (ap (λ v. earlier R a v) (keeps b c q) ∙ takes a b p)
      ]
      | inr p ↦ elim (either (is_gt (R b c))) [
        | inl q ↦ ap (λ v. earlier R v c) (keeps a b p) ∙ sym (ap (λ v. earlier R a v) (takes b c q))
        | inr q ↦ ap (λ v. earlier R v c) (keeps a b p) ∙ keeps a c (upto o a b c p q) ∙ sym (ap (λ v. earlier R a v) (keeps b c q) ∙ keeps a b p)
      ]
    ]

fold-append : (f : Json → Json → Json) (a : Json) (xs ys : List Json) → fold f a (xs ++ ys) ≡ fold f (fold f a xs) ys
fold-append f a [] ys = refl
fold-append f a (x ∷ xs) ys = fold-append f (f a x) xs ys

fold-out : (f : Json → Json → Json) → ((a b c : Json) → f (f a b) c ≡ f a (f b c)) → (a b : Json) (xs : List Json) → fold f (f a b) xs ≡ f a (fold f b xs)
fold-out f assoc a b [] = refl
fold-out f assoc a b (x ∷ xs) = ap (λ v. fold f v xs) (assoc a b x) ∙ fold-out f assoc a (f b x) xs

-- what a reduce that may be done in parts meets
record Splits (g : List Json → Json) (op : Json → Json → Json) : Type 0 where
  one : (v : Json) → g (v ∷ []) ≡ v
  both : (v : Json) (vs : List Json) (w : Json) (ws : List Json) → g ((v ∷ vs) ++ (w ∷ ws)) ≡ op (g (v ∷ vs)) (g (w ∷ ws))

least_splits : Splits least lesser
least_splits = record {
  one = λ v. refl;
  both = λ v vs w ws. fold-append lesser v vs (w ∷ ws) ∙ fold-out lesser (earlier-assoc json_cmp json_cmp_total) (fold lesser v vs) w ws;
}

greatest_splits : Splits greatest greater
greatest_splits = record {
  one = λ v. refl;
  both = λ v vs w ws. fold-append greater v vs (w ∷ ws) ∙ fold-out greater (earlier-assoc (λ x y. json_cmp y x) (back_total json_cmp_total)) (fold greater v vs) w ws;
}

first_splits : Splits first (λ a b. a)
first_splits = record { one = λ v. refl; both = λ v vs w ws. refl }

last-append : (v : Json) (vs : List Json) (w : Json) (ws : List Json) → last ((v ∷ vs) ++ (w ∷ ws)) ≡ last (w ∷ ws)
last-append v [] w ws = refl
last-append v (x ∷ xs) w ws = last-append x xs w ws

last_splits : Splits last (λ a b. b)
last_splits = record { one = λ v. refl; both = last-append }

in_parts : (g : List Json → Json) (op : Json → Json → Json) → Splits g op → (parts : List (List Json)) → parts ≢ [] → AllByRecursion (λ part. part ≢ []) parts → g (map g parts) ≡ g (joined parts)
in_parts g op s [] some each = absurd (some refl)
in_parts g op s ([] ∷ parts) some each = absurd (each.0 refl)
in_parts g op s ((v ∷ vs) ∷ []) some each = s.one (g (v ∷ vs)) ∙ ap g (sym (append-nil (v ∷ vs)))
in_parts g op s ((v ∷ vs) ∷ [] ∷ parts) some each = absurd (each.1.0 refl)
in_parts g op s ((v ∷ vs) ∷ (w ∷ ws) ∷ parts) some each =
    let rest = in_parts g op s ((w ∷ ws) ∷ parts) (λ h. cc) each.1 in
    s.both (g (v ∷ vs)) [] (g (w ∷ ws)) (map g parts) ∙ ap (λ x. op x (g (map g ((w ∷ ws) ∷ parts)))) (s.one (g (v ∷ vs))) ∙ ap (λ x. op (g (v ∷ vs)) x) rest ∙ sym (s.both v vs w (ws ++ joined parts))

counts_in_parts : (parts : List (List Json)) → min (sum_by counted (map (λ part. count (length part)) parts)) (2 ^ 63 - 1) ≡ min (length (joined parts)) (2 ^ 63 - 1)
counts_in_parts [] = refl
counts_in_parts (part ∷ parts) =
    let whole : sum_by counted (map (λ p. count (length p)) (part ∷ parts)) ≡ min (length part) (2 ^ 63 - 1) + sum_by counted (map (λ p. count (length p)) parts) =
    sum_by-cons counted (count (length part)) (map (λ p. count (length p)) parts) in
    omega (arith, whole, counts_in_parts parts, length-append part (joined parts))

pub reduces_in_parts : ReducesInParts
reduces_in_parts Rows parts some each = ap (λ n. number (pos n)) (counts_in_parts parts)
reduces_in_parts Min parts some each = in_parts least lesser least_splits parts some each
reduces_in_parts Max parts some each = in_parts greatest greater greatest_splits parts some each
reduces_in_parts First parts some each = in_parts first (λ a b. a) first_splits parts some each
reduces_in_parts Last parts some each = in_parts last (λ a b. b) last_splits parts some each

-- one more value
fold_push : (f : Json → Json → Json) (a : Json) (vs : List Json) (v : Json) → fold f a (vs ++ v ∷ []) ≡ f (fold f a vs) v
fold_push f a vs v = fold-append f a vs (v ∷ [])

fold_to : {X : Type 0} (value : X → Json) (f : Json → Json → Json) (a : Json) (xs : List X) (i : ℕ) (d : X) → i < length xs → fold f a (map value (take (suc i) xs)) ≡ f (fold f a (map value (take i xs))) (value (get_or xs i d))
fold_to value f a [] i d within = absurd (omega arith)
fold_to value f a (y ∷ ys) zero d within = refl
fold_to value f a (y ∷ ys) (suc i) d within = fold_to value f (f a (value y)) ys i d (omega arith)

least_more : {X : Type 0} (value : X → Json) (xs : List X) (i : ℕ) (d : X) → 0 < i → i < length xs → least (map value (take (suc i) xs)) ≡ lesser (least (map value (take i xs))) (value (get_or xs i d))
least_more value [] i d low within = absurd (omega arith)
least_more value (y ∷ ys) zero d low within = absurd (omega arith)
least_more value (y ∷ ys) (suc i) d low within = fold_to value lesser (value y) ys i d (omega arith)

greatest_more : {X : Type 0} (value : X → Json) (xs : List X) (i : ℕ) (d : X) → 0 < i → i < length xs → greatest (map value (take (suc i) xs)) ≡ greater (greatest (map value (take i xs))) (value (get_or xs i d))
greatest_more value [] i d low within = absurd (omega arith)
greatest_more value (y ∷ ys) zero d low within = absurd (omega arith)
greatest_more value (y ∷ ys) (suc i) d low within = fold_to value greater (value y) ys i d (omega arith)

-- b is the best of the first i values, and the one at i takes its place
pub least_takes : {X : Type 0} (value : X → Json) (xs : List X) (i : ℕ) (d : X) (b : Json) → 0 < i → i < length xs → b ≡ least (map value (take i xs)) → is_gt (json_cmp b (value (get_or xs i d))) ≡ true → value (get_or xs i d) ≡ least (map value (take (i + 1) xs))
least_takes value xs i d b low within is h =
    let v : Json = value (get_or xs i d) in
    rw add-one (sym (least_more value xs i d low within ∙ ap (λ a. lesser a v) (sym is) ∙ ap (λ t. cond t v b) h))

-- or it doesn't
pub least_keeps : {X : Type 0} (value : X → Json) (xs : List X) (i : ℕ) (d : X) (b : Json) → 0 < i → i < length xs → b ≡ least (map value (take i xs)) → is_gt (json_cmp b (value (get_or xs i d))) ≡ false → b ≡ least (map value (take (i + 1) xs))
least_keeps value xs i d b low within is h =
    let v : Json = value (get_or xs i d) in
    rw add-one (sym (least_more value xs i d low within ∙ ap (λ a. lesser a v) (sym is) ∙ ap (λ t. cond t v b) h))

pub greatest_takes : {X : Type 0} (value : X → Json) (xs : List X) (i : ℕ) (d : X) (b : Json) → 0 < i → i < length xs → b ≡ greatest (map value (take i xs)) → is_gt (json_cmp (value (get_or xs i d)) b) ≡ true → value (get_or xs i d) ≡ greatest (map value (take (i + 1) xs))
greatest_takes value xs i d b low within is h =
    let v : Json = value (get_or xs i d) in
    rw add-one (sym (greatest_more value xs i d low within ∙ ap (λ a. greater a v) (sym is) ∙ ap (λ t. cond t v b) h))

pub greatest_keeps : {X : Type 0} (value : X → Json) (xs : List X) (i : ℕ) (d : X) (b : Json) → 0 < i → i < length xs → b ≡ greatest (map value (take i xs)) → is_gt (json_cmp (value (get_or xs i d)) b) ≡ false → b ≡ greatest (map value (take (i + 1) xs))
greatest_keeps value xs i d b low within is h =
    let v : Json = value (get_or xs i d) in
    rw add-one (sym (greatest_more value xs i d low within ∙ ap (λ a. greater a v) (sym is) ∙ ap (λ t. cond t v b) h))

-- the last value is that at the last place
last_at : {X : Type 0} (value : X → Json) (xs : List X) (i : ℕ) (x : X) → suc i ≡ length xs → x ≡ get_or xs i x → value x ≡ last (map value xs)
last_at value [] i x end is = absurd (omega arith)
last_at value (y ∷ []) zero x end is = ap value is
last_at value (y ∷ []) (suc i) x end is = absurd (omega arith)
last_at value (y ∷ z ∷ zs) zero x end is = absurd (omega arith)
last_at value (y ∷ z ∷ zs) (suc i) x end is = last_at value (z ∷ zs) i x (omega arith) is

pub last_value : {X : Type 0} (value : X → Json) (xs : List X) (x : X) → 0 < length xs → x ≡ get_or xs (length xs - 1) x → value x ≡ last (map value xs)
last_value value xs x some is = last_at value xs (length xs - 1) x (omega arith) is

pub some_length : {X : Type 0} (xs : List X) → xs ≢ [] → 0 < length xs
some_length [] some = absurd (some refl)
some_length (x ∷ xs) some = omega arith
