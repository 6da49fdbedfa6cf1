-- The value of rows behind others.
use Rattle.std.specs.Prelude.{◌≡◌, ℕ, suc, ◌+◌, ◌-◌, ◌^◌, ◌<◌, ◌≤◌, min, ℤ, List, [], ◌∷◌, ◌++◌, All, length, map, Option, Some, None, refl}
use Rattle.std.proofs.Common.{ap, sym, ◌∙◌, arith, length-append, append_assoc, subst, take, get_or, length-take}
use Rattle.std.specs.List.{fold, flat_map}
use Rattle.std.proofs.lemmas.List.{append-nil, length-map, map_more}
use Rattle.std.proofs.lemmas.List.Elements.{All-head, All-tail}
use Rattle.json_terms.specs.Json.{Json, number, is_false, is_null, is_true, object, array, string, Items, no_items, item, items_of, list_of_items}
use Rattle.json_terms.specs.Seen.{json}
use Rattle.json_terms.specs.declared.term.Row.{Row}
use Rattle.json_terms.specs.Terms.{IsTerm, AreTerms}
use Rattle.design_docs.specs.declared.design.Builtin.{Builtin}
use Rattle.design_docs.specs.declared.design.Builtin.TheVariants.{Sum, Count, Stats}
use Rattle.builtin_reduces.specs.declared.sum.BuiltinSum.{BuiltinSum}
use Rattle.builtin_reduces.specs.declared.sum.BuiltinSum.TheVariants as value
use Rattle.builtin_reduces.specs.Values.{each, cons_where, number_in, addend, total, place_totals, sum_or, stats_or, value_of}
use Rattle.builtin_reduces.specs.Added.{near_added, add_two, places_or_refused}
use Rattle.builtin_reduces.specs.Seen.{values}
use Rattle.builtin_reduces.proofs.Bounds.{AreSmall, EachAreSmall, near-total, near-place_totals, each_alone, place_totals-each_alone, alone_are_small, length-each_alone}
use Rattle.builtin_reduces.proofs.Told.{stats-append, refused_behind}

abbrev pub AllTerms : List Json → Type 0
AllTerms [] = Unit {0}
AllTerms (v ∷ vs) = IsTerm v × AllTerms vs

pub terms_before : (us vs : List Json) → AllTerms (us ++ vs) → AllTerms us
terms_before [] vs t = tt
terms_before (u ∷ us) vs t = (t.0, terms_before us vs t.1)

pub terms_of : (vs : List Json) → All IsTerm vs → AllTerms vs
terms_of [] all = tt
terms_of (v ∷ vs) all = (All-head IsTerm v vs all, terms_of vs (All-tail IsTerm v vs all))

list_of_items-items_of : (ts : List Json) → list_of_items (items_of ts) ≡ ts
list_of_items-items_of [] = refl
list_of_items-items_of (t ∷ ts) = ap (λ us. t ∷ us) (list_of_items-items_of ts)

terms_behind : (us vs : List Json) → AllTerms (us ++ vs) → AllTerms vs
terms_behind [] vs t = t
terms_behind (u ∷ us) vs t = terms_behind us vs t.1

pub AllTerms-append : (us vs : List Json) → AllTerms us → AllTerms vs → AllTerms (us ++ vs)
AllTerms-append [] vs s t = t
AllTerms-append (u ∷ us) vs s t = (s.0, AllTerms-append us vs s.1 t)

-- ---- what each value gives

abbrev both_where : {B : Type 0} → Option (List B) → Option (List B) → Option (List B)
both_where (Some xs) (Some ys) = Some (xs ++ ys)
both_where (Some xs) None = None
both_where None ys = None

cons_both : {B : Type 0} (y : Option B) (xs ys : Option (List B)) → cons_where y (both_where xs ys) ≡ both_where (cons_where y xs) ys
cons_both None xs ys = refl
cons_both (Some y) None ys = refl
cons_both (Some y) (Some xs) None = refl
cons_both (Some y) (Some xs) (Some ys) = refl

none_before : {B : Type 0} (ys : Option (List B)) → both_where (Some []) ys ≡ ys
none_before None = refl
none_before (Some ys) = refl

each-append : {A B : Type 0} (f : A → Option B) (xs ys : List A) → each f (xs ++ ys) ≡ both_where (each f xs) (each f ys)
each-append f [] ys = sym (none_before (each f ys))
each-append f (x ∷ xs) ys = ap (cons_where (f x)) (each-append f xs ys) ∙ cons_both (f x) (each f xs) (each f ys)

-- ---- which are small, and ps many ps the values

abbrev pub Numbers : ℕ → Option (List ℤ) → Type 0
Numbers n (Some ns) = AreSmall ns × (length ns ≡ n)
Numbers n None = Unit {0}

abbrev Addends : ℕ → Option (List (List ℤ)) → Type 0
Addends n (Some nss) = EachAreSmall nss × (length nss ≡ n)
Addends n None = Unit {0}

one_more : (v : Json) (n : ℕ) (ns : Option (List ℤ)) → IsTerm v → Numbers n ns → Numbers (suc n) (cons_where (number_in v) ns)
one_more (number z) n (Some ns) t s = ((t, s.0), ap suc s.1)
one_more (number z) n None t s = tt
one_more is_false n ns t s = tt
one_more is_null n ns t s = tt
one_more is_true n ns t s = tt
one_more (object ms) n ns t s = tt
one_more (array ts) n ns t s = tt
one_more (string b) n ns t s = tt

pub numbers_of_terms : (vs : List Json) → AllTerms vs → Numbers (length vs) (each number_in vs)
numbers_of_terms [] t = (tt, refl)
numbers_of_terms (v ∷ vs) t = one_more v (length vs) (each number_in vs) t.0 (numbers_of_terms vs t.1)

pub items_are_terms : (ts : Items) → AreTerms ts → AllTerms (list_of_items ts)
items_are_terms no_items t = tt
items_are_terms (item v ts) t = (t.0, items_are_terms ts t.1)

one_addend : (m n : ℕ) (ns : Option (List ℤ)) (nss : Option (List (List ℤ))) → Numbers m ns → Addends n nss → Addends (suc n) (cons_where ns nss)
one_addend m n None nss r s = tt
one_addend m n (Some ns) None r s = tt
one_addend m n (Some ns) (Some nss) r s = ((r.0, s.0), ap suc s.1)

addend_of_term : (v : Json) (n : ℕ) (nss : Option (List (List ℤ))) → IsTerm v → Addends n nss → Addends (suc n) (cons_where (addend v) nss)
addend_of_term (number z) n nss t s = one_addend 1 n (Some (z ∷ [])) nss ((t, tt), refl) s
addend_of_term is_false n nss t s = tt
addend_of_term is_null n nss t s = tt
addend_of_term is_true n nss t s = tt
addend_of_term (object ms) n nss t s = tt
addend_of_term (array ts) n nss t s = one_addend (length (list_of_items ts)) n (each number_in (list_of_items ts)) nss (numbers_of_terms (list_of_items ts) (items_are_terms ts t)) s
addend_of_term (string b) n nss t s = tt

addends_of_terms : (vs : List Json) → AllTerms vs → Addends (length vs) (each addend vs)
addends_of_terms [] t = (tt, refl)
addends_of_terms (v ∷ vs) t = addend_of_term v (length vs) (each addend vs) t.0 (addends_of_terms vs t.1)

-- where all are numbers, each is an addend alone
abbrev Alone : Option (List ℤ) → Option (List (List ℤ)) → Type 0
Alone (Some ns) nss = nss ≡ Some (each_alone ns)
Alone None nss = Unit {0}

one_alone : (v : Json) (ns : Option (List ℤ)) (nss : Option (List (List ℤ))) → Alone ns nss → Alone (cons_where (number_in v) ns) (cons_where (addend v) nss)
one_alone (number z) (Some ns) nss e = ap (cons_where (Some (z ∷ []))) e
one_alone (number z) None nss e = tt
one_alone is_false ns nss e = tt
one_alone is_null ns nss e = tt
one_alone is_true ns nss e = tt
one_alone (object ms) ns nss e = tt
one_alone (array ts) ns nss e = tt
one_alone (string b) ns nss e = tt

alone : (vs : List Json) → Alone (each number_in vs) (each addend vs)
alone [] = refl
alone (v ∷ vs) = one_alone v (each number_in vs) (each addend vs) (alone vs)

-- ---- `_stats`

stats_two : (m n : ℕ) (ps qs : Option (List ℤ)) → Numbers m ps → Numbers n qs → m + n ≤ 2 ^ 63 → stats_or (both_where ps qs) ≡ add_two (stats_or ps) (stats_or qs)
stats_two m n None qs s t h = refl
stats_two m n (Some ps) None s t h = sym (refused_behind ps)
stats_two m n (Some ps) (Some qs) s t h = let p = s.1 in let q = t.1 in stats-append ps qs s.0 t.0 (omega arith)

-- ---- `_sum`

numbers_and_places : (m n : ℕ) (ps : List ℤ) (qss : List (List ℤ)) → AreSmall ps × (length ps ≡ m) → EachAreSmall qss × (length qss ≡ n) → m + n ≤ 2 ^ 63
    → place_totals (each_alone ps ++ qss) ≡ near_added (total ps ∷ []) (place_totals qss)
numbers_and_places m n ps qss s t h =
    let p = s.1 in let q = t.1 in let e = length-each_alone ps in
    sym (near-place_totals (each_alone ps) qss (alone_are_small ps s.0) t.0 (omega arith)) ∙ ap (λ (zs : List ℤ). near_added zs (place_totals qss)) (place_totals-each_alone ps)

places_and_numbers : (m n : ℕ) (pss : List (List ℤ)) (qs : List ℤ) → EachAreSmall pss × (length pss ≡ m) → AreSmall qs × (length qs ≡ n) → m + n ≤ 2 ^ 63
    → place_totals (pss ++ each_alone qs) ≡ near_added (place_totals pss) (total qs ∷ [])
places_and_numbers m n pss qs s t h =
    let p = s.1 in let q = t.1 in let e = length-each_alone qs in
    sym (near-place_totals pss (each_alone qs) s.0 (alone_are_small qs t.0) (omega arith)) ∙ ap (near_added (place_totals pss)) (place_totals-each_alone qs)

sum_two : (m n : ℕ) (ps qs : Option (List ℤ)) (pss qss : Option (List (List ℤ))) → Numbers m ps → Numbers n qs → Addends m pss → Addends n qss → Alone ps pss → Alone qs qss → m + n ≤ 2 ^ 63
    → sum_or (both_where ps qs) (both_where pss qss) ≡ add_two (sum_or ps pss) (sum_or qs qss)
sum_two m n (Some ps) (Some qs) pss qss r s t u v w h = let p = r.1 in let q = s.1 in ap value.Number (sym (near-total ps qs r.0 s.0 (omega arith)))
sum_two m n (Some ps) None pss None r s t u v w h = rw v refl
sum_two m n (Some ps) None pss (Some qss) r s t u v w h = rw v (ap value.Numbers (numbers_and_places m n ps qss r u h))
sum_two m n None qs None qss r s t u v w h = refl
sum_two m n None None (Some pss) None r s t u v w h = refl
sum_two m n None None (Some pss) (Some qss) r s t u v w h = let p = t.1 in let q = u.1 in ap value.Numbers (sym (near-place_totals pss qss t.0 u.0 (omega arith)))
sum_two m n None (Some qs) (Some pss) qss r s t u v w h = rw w (ap value.Numbers (places_and_numbers m n pss qs t s h))

-- ---- each

pub value_of-append : (kind : Builtin) (us vs : List Json) → AllTerms us → AllTerms vs → length us + length vs ≤ 2 ^ 63 → value_of kind (us ++ vs) ≡ add_two (value_of kind us) (value_of kind vs)
value_of-append Count us vs s t h =
    let e = length-append us vs in let f : length (us ++ vs) ≡ min (length us + length vs) (2 ^ 64 - 1) = omega arith in ap value.Count f
value_of-append Sum us vs s t h =
    ap (λ (ns : Option (List ℤ)). sum_or ns (each addend (us ++ vs))) (each-append number_in us vs)
    ∙ ap (sum_or (both_where (each number_in us) (each number_in vs))) (each-append addend us vs)
    ∙ sum_two (length us) (length vs) (each number_in us) (each number_in vs) (each addend us) (each addend vs) (numbers_of_terms us s) (numbers_of_terms vs t) (addends_of_terms us s) (addends_of_terms vs t) (alone us) (alone vs) h
value_of-append Stats us vs s t h =
    ap stats_or (each-append number_in us vs) ∙ stats_two (length us) (length vs) (each number_in us) (each number_in vs) (numbers_of_terms us s) (numbers_of_terms vs t) h

abbrev pub joined : List (List Json) → List Json
joined parts = flat_map (λ part. part) parts

pub parts_joined : (kind : Builtin) (done : List Json) (parts : List (List Json)) → AllTerms (done ++ joined parts) → length (done ++ joined parts) ≤ 2 ^ 63
    → fold add_two (value_of kind done) (map (value_of kind) parts) ≡ value_of kind (done ++ joined parts)
parts_joined kind done [] t h = ap (value_of kind) (sym (append-nil done))
parts_joined kind done (part ∷ parts) t h =
    let e = append_assoc done part (joined parts) in
    let here : AllTerms ((done ++ part) ++ joined parts) = subst AllTerms (sym e) t in
    let some = terms_before (done ++ part) (joined parts) here in
    let p = length-append done (part ++ joined parts) in
    let q = length-append part (joined parts) in
    let r = ap length e in
    ap (λ (v : BuiltinSum). fold add_two v (map (value_of kind) parts)) (sym (value_of-append kind done part (terms_before done part some) (terms_behind done part some) (omega arith)))
    ∙ parts_joined kind (done ++ part) parts here (omega arith) ∙ ap (value_of kind) e

-- ---- a step of the loop over rows

pub one_row_more : (kind : Builtin) (rows : List Row) (i : ℕ) (row : Row) (total part sum : BuiltinSum) → i < length rows → length rows ≤ 2 ^ 63 → row ≡ get_or rows i row → IsTerm (json row.value)
    → total ≡ value_of kind (values (take i rows)) → AllTerms (values (take i rows)) → part ≡ value_of kind (json row.value ∷ []) → sum ≡ add_two total part
    → (sum ≡ value_of kind (values (take (i + 1) rows))) × AllTerms (values (take (i + 1) rows))
one_row_more kind rows i row total part sum below few is valid before terms of_row added =
    let us = values (take i rows) in
    let v = json row.value in
    let one : AllTerms (v ∷ []) = (valid, tt) in
    let m : length us ≡ length (take i rows) = length-map (take i rows) (λ (r : Row). json r.value) in
    let n = length-take i rows in
    let more : values (take (i + 1) rows) ≡ us ++ v ∷ [] = map_more (λ (r : Row). json r.value) rows i row below ∙ ap (λ (r : Row). us ++ json r.value ∷ []) (sym is) in (
      added ∙ (λ j. add_two (before j) (of_row j)) ∙ sym (value_of-append kind us (v ∷ []) terms one (omega arith)) ∙ ap (value_of kind) (sym more),
      subst AllTerms (sym more) (AllTerms-append us (v ∷ []) terms one),
    )

-- ---- a row whose value is an array

array_or_refused : (ns : Option (List ℤ)) → sum_or None (cons_where ns (Some [])) ≡ places_or_refused ns
array_or_refused None = refl
array_or_refused (Some ns) = refl

pub value_of-array : (ts us : List Json) → us ≡ ts → value_of Sum (array (items_of ts) ∷ []) ≡ places_or_refused (each number_in us)
value_of-array ts us same = array_or_refused (each number_in (list_of_items (items_of ts))) ∙ ap (λ (vs : List Json). places_or_refused (each number_in vs)) (list_of_items-items_of ts ∙ sym same)
