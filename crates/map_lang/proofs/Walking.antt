-- Parts of expressions, and steps into values.
use Rattle.std.specs.Prelude.{◌≡◌, ℕ, zero, suc, ◌≤◌, ◌<◌, List, [], ◌∷◌, length, map, drop, ℤ, pos, Some, None, refl, slice_get}
use Rattle.std.proofs.Common.{◌∙◌, sym, ap, arith, get_or}
use Rattle.json_terms.specs.declared.term.Term.{Term}
use Rattle.json_terms.specs.Json.{Json, items_of, list_of_items}
use Rattle.json_terms.specs.Seen.{json}
use Rattle.map_lang.specs.declared.syntax.Step.{Step}
use Rattle.map_lang.specs.declared.syntax.Expression.{Expression}
use Rattle.map_lang.specs.Syntax.{nesting, exprs_of, exprs_nesting}
use Rattle.map_lang.specs.SeenExpressions.{expr_of}
use Rattle.map_lang.specs.Meaning.{walked, stepped, element_at}

-- the part at i of an array
pub nesting_at : (es : List Expression) (i : ℕ) (e : Expression) → i < length es → e ≡ get_or es i e → nesting (expr_of e) ≤ exprs_nesting (exprs_of (map expr_of es))
nesting_at [] i e within is = absurd (omega arith)
nesting_at (x ∷ es) zero e within is = let same : nesting (expr_of e) ≡ nesting (expr_of x) = ap (λ y. nesting (expr_of y)) is in omega arith
nesting_at (x ∷ es) (suc i) e within is = let rest = nesting_at es i e (omega arith) is in omega arith

pub walked_none : (ss : List Step) → walked ss None ≡ None
walked_none [] = refl
walked_none (s ∷ ss) = walked_none ss

-- where a step gives nothing, the whole path does
pub walk_stops : (ss : List Step) (i : ℕ) (s : Step) (t : Json) → i < length ss → s ≡ get_or ss i s → stepped s t ≡ None → walked (drop i ss) (Some t) ≡ None
walk_stops [] i s t within is none = absurd (omega arith)
walk_stops (x ∷ ss) zero s t within is none = ap (λ y. walked ss (stepped y t)) (sym is) ∙ ap (walked ss) none ∙ walked_none ss
walk_stops (x ∷ ss) (suc i) s t within is none = walk_stops ss i s t (omega arith) is none

pub list_of_items-items_of : (ts : List Json) → list_of_items (items_of ts) ≡ ts
list_of_items-items_of [] = refl
list_of_items-items_of (t ∷ ts) = ap (λ us. t ∷ us) (list_of_items-items_of ts)

get_found : (items : List Term) (n : ℕ) (x : Term) → n < length items → x ≡ get_or items n x → Some (json x) ≡ slice_get (map json items) n
get_found [] n x within is = absurd (omega arith)
get_found (y ∷ items) zero x within is = ap (λ z. Some (json z)) is
get_found (y ∷ items) (suc n) x within is = get_found items n x (omega arith) is

get_past : (items : List Term) (n : ℕ) → length items ≤ n → None ≡ slice_get (map json items) n
get_past [] zero past = refl
get_past [] (suc n) past = refl
get_past (y ∷ items) zero past = absurd (omega arith)
get_past (y ∷ items) (suc n) past = get_past items n (omega arith)

pub element_found : (place : ℤ) (ts : List Json) (items : List Term) (n : ℕ) (x : Term) → place ≡ pos n → map json items ≡ ts → n < length items → x ≡ get_or items n x → Some (json x) ≡ element_at place (list_of_items (items_of ts))
element_found place ts items n x e same within is =
    get_found items n x within is ∙ ap (λ us. slice_get us n) (same ∙ sym (list_of_items-items_of ts)) ∙ ap (λ p. element_at p (list_of_items (items_of ts))) (sym e)

pub element_past : (place : ℤ) (ts : List Json) (items : List Term) (n : ℕ) → place ≡ pos n → map json items ≡ ts → length items ≤ n → None ≡ element_at place (list_of_items (items_of ts))
element_past place ts items n e same past =
    get_past items n past ∙ ap (λ us. slice_get us n) (same ∙ sym (list_of_items-items_of ts)) ∙ ap (λ p. element_at p (list_of_items (items_of ts))) (sym e)
