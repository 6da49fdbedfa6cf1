-- Rows, one emission and one document more.
use Rattle.std.specs.Prelude.{slice_index_or}
use Rattle.std.proofs.Common.{◌≡◌, ◌⊎◌, ◌<◌, ◌≤◌, ◌++◌, ◌∙◌, ℕ, zero, suc, List, [], ◌∷◌, length, map, drop, get_or, refl, sym, ap, inl, inr, arith}
use Rattle.json_terms.specs.Json.{Json}
use Rattle.json_terms.specs.Emitted.{key_value}
use Rattle.json_terms.specs.Seen.{json, term}
use Rattle.json_terms.specs.declared.rows.Emission.{Emission}
use Rattle.json_terms.specs.declared.term.Row.{Row}
use Rattle.json_terms.proofs.Sames.{term-json}
use Rattle.view_model.specs.Rows.{emitted_at, emitted_rows, rows_from}

-- the row of an emission
abbrev pub row_of : ℕ → List ℕ → Emission → Row
row_of place id emission = record { key = emission.key; id = id; place = place; value = emission.value }

same_row : (place : ℕ) (id : List ℕ) (e : Emission) → record { key = term (json e.key); id = id; place = place; value = term (json e.value) } ≡ row_of place id e
same_row place id e = λ i. record { key = term-json e.key i; id = id; place = place; value = term-json e.value i }

pub rows_step : (place : ℕ) (id : List ℕ) (emissions : List Emission) (at : ℕ) (e : Emission) → at < length emissions → e ≡ get_or emissions at e
    → rows_from place id (map key_value (drop at emissions)) ≡ row_of place id e ∷ rows_from (suc place) id (map key_value (drop (suc at) emissions))
rows_step place id [] at e within is = absurd (omega arith)
rows_step place id (x ∷ emissions) zero e within is =
    ap (λ (row : Row). row ∷ rows_from (suc place) id (map key_value emissions)) (same_row place id x ∙ ap (row_of place id) (sym is))
rows_step place id (x ∷ emissions) (suc at) e within is = rows_step place id emissions at e (omega arith) is

pub documents_step : (function : ℕ) (ids : List (List ℕ)) (lists : List (List (List (Json × Json)))) (at : ℕ) (id : List ℕ) (emitted : List (List (Json × Json)))
    → at < length ids → at < length lists → id ≡ get_or ids at id → emitted ≡ get_or lists at emitted
    → emitted_rows (drop at ids) (emitted_at function (drop at lists))
    ≡ rows_from 0 id (slice_index_or emitted function []) ++ emitted_rows (drop (suc at) ids) (emitted_at function (drop (suc at) lists))
documents_step function [] lists at id emitted within also is are = absurd (omega arith)
documents_step function (d ∷ ids) [] at id emitted within also is are = absurd (omega arith)
documents_step function (d ∷ ids) (l ∷ lists) zero id emitted within also is are =
    ap (λ (x : List ℕ). rows_from 0 x (slice_index_or l function []) ++ emitted_rows ids (emitted_at function lists)) (sym is)
    ∙ ap (λ (x : List (List (Json × Json))). rows_from 0 id (slice_index_or x function []) ++ emitted_rows ids (emitted_at function lists)) (sym are)
documents_step function (d ∷ ids) (l ∷ lists) (suc at) id emitted within also is are =
    documents_step function ids lists at id emitted (omega arith) (omega arith) is are

-- behind the shorter of both lists there are none
pub no_rows_left : (function : ℕ) (ids : List (List ℕ)) (lists : List (List (List (Json × Json)))) (at : ℕ) → (length ids ≤ at) ⊎ (length lists ≤ at)
    → emitted_rows (drop at ids) (emitted_at function (drop at lists)) ≡ []
no_rows_left function [] lists zero h = refl
no_rows_left function [] lists (suc at) h = refl
no_rows_left function (d ∷ ids) [] zero h = refl
no_rows_left function (d ∷ ids) (l ∷ lists) zero h = elim h [ inl few ↦ absurd (omega arith) | inr few ↦ absurd (omega arith) ]
no_rows_left function (d ∷ ids) [] (suc at) h = none (drop at ids)
  where
    none : (ds : List (List ℕ)) → emitted_rows ds [] ≡ []
    none [] = refl
    none (x ∷ ds) = refl
no_rows_left function (d ∷ ids) (l ∷ lists) (suc at) h = no_rows_left function ids lists at (elim h [ inl few ↦ inl (omega arith) | inr few ↦ inr (omega arith) ])
