-- Rows numbered by place, one emission more.
use Rattle.std.specs.Prelude.{◌≡◌, ◌+◌, ℕ, suc, List, [], ◌∷◌, ◌++◌, length, map}
use Rattle.std.proofs.Common.{ap, ◌∙◌, arith, refl}
use Rattle.std.proofs.lemmas.List.{map-append}
use Rattle.json_terms.specs.Emitted.{key_value}
use Rattle.json_terms.specs.Json.{Json}
use Rattle.json_terms.specs.Seen.{term}
use Rattle.json_terms.specs.declared.rows.Emission.{Emission}
use Rattle.json_terms.specs.declared.term.Row.{Row}
use Rattle.json_terms.proofs.Sames.{term-json}
use Rattle.view_model.specs.Rows.{rows_from}

abbrev row_at : ℕ → List ℕ → Json × Json → Row
row_at place id emission = record { key = term emission.0; id = id; place = place; value = term emission.1 }

rows_from-push : (place : ℕ) (id : List ℕ) (emissions : List (Json × Json)) (e : Json × Json)
    → rows_from place id (emissions ++ e ∷ []) ≡ rows_from place id emissions ++ row_at (place + length emissions) id e ∷ []
rows_from-push place id [] e = ap (λ (n : ℕ). row_at n id e ∷ []) (omega arith)
rows_from-push place id (x ∷ emissions) e =
    ap (λ l. row_at place id x ∷ l)
    (rows_from-push (suc place) id emissions e ∙ ap (λ (n : ℕ). rows_from (suc place) id emissions ++ row_at n id e ∷ []) (omega arith))

-- the row of an emission
abbrev pub row_of : ℕ → List ℕ → Emission → Row
row_of place id emission = record { key = emission.key; id = id; place = place; value = emission.value }

same_row : (place : ℕ) (id : List ℕ) (e : Emission) → row_at place id (key_value e) ≡ row_of place id e
same_row place id e = λ i. record { key = term-json e.key i; id = id; place = place; value = term-json e.value i }

map_length : (emissions : List Emission) → length (map key_value emissions) ≡ length emissions
map_length [] = omega arith
map_length (e ∷ emissions) = ap suc (map_length emissions)

pub one_more : (id : List ℕ) (emissions : List Emission) (e : Emission)
    → rows_from 0 id (map key_value (emissions ++ e ∷ [])) ≡ rows_from 0 id (map key_value emissions) ++ row_of (length emissions) id e ∷ []
one_more id emissions e =
    ap (rows_from 0 id) (map-append key_value emissions (e ∷ []))
    ∙ rows_from-push 0 id (map key_value emissions) (key_value e)
    ∙ ap (λ (n : ℕ). rows_from 0 id (map key_value emissions) ++ row_at n id (key_value e) ∷ []) (let same = map_length emissions in omega (arith, same))
    ∙ ap (λ (r : Row). rows_from 0 id (map key_value emissions) ++ r ∷ []) (same_row (length emissions) id e)

pub itself : {X : Type 0} (xs : List X) → map (λ x. x) xs ≡ xs
itself [] = refl
itself (x ∷ xs) = ap (λ rest. x ∷ rest) (itself xs)
