-- Exchanges, one more at a time, and prefixes.
use Rattle.std.proofs.Common.{◌≡◌, ℕ, List, [], ◌∷◌, ◌++◌, refl, sym, ap, ◌∙◌, subst, append_assoc, append-nil}
use Rattle.std.proofs.lemmas.List.{flat_map_more, map_push}
use Rattle.view_ports.specs.Exchanges.{Exchange, LeadsTo, lines_of, text_of, IsPrefixOf}

-- one more step
pub LeadsTo-push : {W : Type 0} (step : W → Exchange → W → Type 0) (before mid after : W) (exchanges : List Exchange) (e : Exchange) → LeadsTo step before exchanges mid → step mid e after → LeadsTo step before (exchanges ++ e ∷ []) after
LeadsTo-push step before mid after [] e first last = (after, subst (λ w. step w e after) first last, refl)
LeadsTo-push step before mid after (d ∷ ds) e first last = (first.0, first.1, LeadsTo-push step first.0 mid after ds e first.2 last)

-- two runs of steps, one after the other
pub LeadsTo-append : {W : Type 0} (step : W → Exchange → W → Type 0) (before mid after : W) (xs ys : List Exchange) → LeadsTo step before xs mid → LeadsTo step mid ys after → LeadsTo step before (xs ++ ys) after
LeadsTo-append step before mid after [] ys first last = subst (λ w. LeadsTo step w ys after) first last
LeadsTo-append step before mid after (x ∷ xs) ys first last = (first.0, first.1, LeadsTo-append step first.0 mid after xs ys first.2 last)

pub lines_of-push : (exchanges : List Exchange) (e : Exchange) → lines_of (exchanges ++ e ∷ []) ≡ lines_of exchanges ++ e.line ∷ []
lines_of-push exchanges e = map_push (λ d. d.line) exchanges e

pub text_of-push : (exchanges : List Exchange) (e : Exchange) → text_of (exchanges ++ e ∷ []) ≡ text_of exchanges ++ e.text
text_of-push exchanges e = sym (flat_map_more (λ d. d.text) [] exchanges e)

pub IsPrefixOf-refl : {A : Type 0} (xs : List A) → IsPrefixOf xs xs
IsPrefixOf-refl xs = ([], sym (append-nil xs))

pub IsPrefixOf-nil : {A : Type 0} (xs : List A) → IsPrefixOf [] xs
IsPrefixOf-nil xs = (xs, refl)

-- the front of what comes next, after all that came before
pub IsPrefixOf-after : {A : Type 0} (done part xs : List A) → IsPrefixOf part xs → IsPrefixOf (done ++ part) (done ++ xs)
IsPrefixOf-after done part xs front = (front.0, ap (λ l. done ++ l) front.1 ∙ sym (append_assoc done part front.0))

pub IsPrefixOf-trans : {A : Type 0} (xs ys zs : List A) → IsPrefixOf xs ys → IsPrefixOf ys zs → IsPrefixOf xs zs
IsPrefixOf-trans xs ys zs first second =
    (first.0 ++ second.0, second.1 ∙ ap (λ l. l ++ second.0) first.1 ∙ append_assoc xs first.0 second.0)

-- the front of the text of one more exchange, after the text of the others
pub IsPrefixOf-text_of-push : (exchanges : List Exchange) (e : Exchange) (part : List ℕ) → IsPrefixOf part e.text → IsPrefixOf (text_of exchanges ++ part) (text_of (exchanges ++ e ∷ []))
IsPrefixOf-text_of-push exchanges e part front =
    subst (IsPrefixOf (text_of exchanges ++ part)) (sym (text_of-push exchanges e)) (IsPrefixOf-after (text_of exchanges) part e.text front)
