-- Tests that are true at the front of a sorted list alone: where one is true, it is true of all that isn't greater.
use Rattle.std.specs.Prelude.{◌≡◌, ℕ, List, Bool, true, false, refl}
use Rattle.std.proofs.Common.{ap, sym, ◌∙◌}
use Rattle.std.specs.declared.cmp.Ordering.{Ordering}
use Rattle.std.specs.declared.cmp.Ordering.TheVariants.{Less, Equal, Greater}
use Rattle.std.specs.Ordering.{nat_cmp, is_lt, is_le, match_ordering, ordering_reverse, ordering_then}
use Rattle.std.specs.Cmp.{IsTotalOrder}
use Rattle.std.specs.Cmp.Lexicographic.{slice_cmp}
use Rattle.std.proofs.lemmas.Cmp.{alike_right}
use Rattle.json_terms.specs.Json.{Json}
use Rattle.json_terms.specs.Seen.{json}
use Rattle.json_terms.specs.declared.term.Row.{Row}
use Rattle.raw_collation.specs.Collation.{json_cmp, rows_cmp}
use Rattle.raw_collation.proofs.Totals.{json_cmp_total}
use Rattle.raw_collation.proofs.Spelled.{ordering_then-Equal}

abbrev pub Falls : {X : Type 0} → (X → X → Ordering) → (X → Bool) → Type 0
Falls {X} cmp test = (x y : X) → is_lt (cmp y x) ≡ false → test y ≡ true → test x ≡ true

pub falls_same : {X : Type 0} (cmp : X → X → Ordering) (test other : X → Bool) → ((x : X) → test x ≡ other x) → Falls cmp other → Falls cmp test
falls_same cmp test other same falls x y up pass = same x ∙ falls x y up (sym (same y) ∙ pass)

pub falls_constant : {X : Type 0} (cmp : X → X → Ordering) (b : Bool) → Falls cmp (λ x. b)
falls_constant cmp b x y up pass = pass

-- by keys first, and then by what is left
falls_then : {K : Type 0} {R : K → K → Ordering} (o : IsTotalOrder R) (x y k : K) (here there : Bool) (rest yx yk : Ordering) → R y x ≡ yx → R y k ≡ yk
    → is_lt (ordering_then yx rest) ≡ false → (is_lt rest ≡ false → there ≡ true → here ≡ true) → match_ordering yk true there false ≡ true
    → match_ordering (R x k) true here false ≡ true
falls_then o x y k here there rest Less yk e f up below pass = cc
falls_then o x y k here there rest Equal Less e f up below pass = ap (λ r. match_ordering r true here false) (sym (o.congr y x k e) ∙ f)
falls_then o x y k here there rest Equal Equal e f up below pass = ap (λ r. match_ordering r true here false) (sym (o.congr y x k e) ∙ f) ∙ below up pass
falls_then o x y k here there rest Equal Greater e f up below pass = cc
falls_then o x y k here there rest Greater Less e f up below pass =
    ap (λ r. match_ordering r true here false) (o.trans x y k (o.antisymm x y ∙ ap ordering_reverse e) f)
falls_then o x y k here there rest Greater Equal e f up below pass =
    ap (λ r. match_ordering r true here false) (sym (alike_right o y k x f) ∙ o.antisymm x y ∙ ap ordering_reverse e)
falls_then o x y k here there rest Greater Greater e f up below pass = cc

match_lt : (r : Ordering) → is_lt r ≡ match_ordering r true false false
match_lt Less = refl
match_lt Equal = refl
match_lt Greater = refl

match_le : (r : Ordering) → is_le r ≡ match_ordering r true true false
match_le Less = refl
match_le Equal = refl
match_le Greater = refl

falls_match : {K : Type 0} {R : K → K → Ordering} (o : IsTotalOrder R) (k : K) (b : Bool) → Falls R (λ x. match_ordering (R x k) true b false)
falls_match {R = R} o k b x y up pass =
    falls_then o x y k b b Equal (R y x) (R y k) refl refl (ap is_lt (ordering_then-Equal (R y x)) ∙ up) (λ rest there. there) pass

pub falls_lt : {K : Type 0} {R : K → K → Ordering} (o : IsTotalOrder R) (k : K) → Falls R (λ x. is_lt (R x k))
falls_lt {R = R} o k = falls_same R (λ x. is_lt (R x k)) (λ x. match_ordering (R x k) true false false) (λ x. match_lt (R x k)) (falls_match o k false)

pub falls_le : {K : Type 0} {R : K → K → Ordering} (o : IsTotalOrder R) (k : K) → Falls R (λ x. is_le (R x k))
falls_le {R = R} o k = falls_same R (λ x. is_le (R x k)) (λ x. match_ordering (R x k) true true false) (λ x. match_le (R x k)) (falls_match o k true)

-- rows whose key is less, and at the key itself those whose ids pass
abbrev pub cut : Json → (List ℕ → Bool) → Row → Bool
cut key test row = match_ordering (json_cmp (json row.key) key) true (test row.id) false

first_up : (a b : Ordering) → is_lt (ordering_then a b) ≡ false → is_lt a ≡ false
first_up Less b up = up
first_up Equal b up = refl
first_up Greater b up = refl

pub falls_cut : (key : Json) (test : List ℕ → Bool) → Falls (slice_cmp nat_cmp) test → Falls rows_cmp (cut key test)
falls_cut key test falls x y up pass =
    let after : Ordering = ordering_then (nat_cmp y.place x.place) (json_cmp (json y.value) (json x.value)) in
    let ids : Ordering = slice_cmp nat_cmp y.id x.id in
    falls_then json_cmp_total (json x.key) (json y.key) key (test x.id) (test y.id) (ordering_then ids after)
    (json_cmp (json y.key) (json x.key)) (json_cmp (json y.key) key) refl refl up
    (λ rest there. falls x.id y.id (first_up ids after rest) there) pass

pub falls_key_lt : (key : Json) → Falls rows_cmp (λ row. is_lt (json_cmp (json row.key) key))
falls_key_lt key =
    falls_same rows_cmp (λ row. is_lt (json_cmp (json row.key) key)) (cut key (λ id. false)) (λ row. match_lt (json_cmp (json row.key) key))
    (falls_cut key (λ id. false) (falls_constant (slice_cmp nat_cmp) false))

pub falls_key_le : (key : Json) → Falls rows_cmp (λ row. is_le (json_cmp (json row.key) key))
falls_key_le key =
    falls_same rows_cmp (λ row. is_le (json_cmp (json row.key) key)) (cut key (λ id. true)) (λ row. match_le (json_cmp (json row.key) key))
    (falls_cut key (λ id. true) (falls_constant (slice_cmp nat_cmp) true))
