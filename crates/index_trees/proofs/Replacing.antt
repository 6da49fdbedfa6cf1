-- The row of one emission alone could take the place of a row that stands there: that with its number.
use Rattle.std.specs.Prelude.{◌≡◌, ◌+◌, ◌<◌, ◌≤◌, ℕ, zero, suc, List, [], ◌∷◌, map, length, Bool, true, false, ◌&&◌, ◌||◌, nat_eq, refl}
use Rattle.std.specs.Ordering.{is_eq}
use Rattle.std.proofs.Common.{ap, sym, ◌∙◌, arith, get_or}
use Rattle.std.proofs.lemmas.Bool.{and_left, eq-eqb, ne_eqb, or_from}
use Rattle.json_terms.specs.Emitted.{key_value}
use Rattle.json_terms.specs.Seen.{json, term}
use Rattle.json_terms.specs.declared.rows.Emission.{Emission}
use Rattle.json_terms.proofs.Sames.{json-term}
use Rattle.raw_collation.specs.Collation.{json_cmp}
use Rattle.view_model.specs.Rows.{rows_from}
use Rattle.index_items.specs.declared.back_row.BackRow.{BackRow}
use Rattle.index_trees.specs.Edits.{is_replaced}

or_none : (b c : Bool) → c ≡ false → (b || c) ≡ b
or_none true c none = refl
or_none false c none = none

and_so : (b c : Bool) → b ≡ true → (b && c) ≡ c
and_so true c is = refl
and_so false c is = cc

module _ (id : List ℕ) (here : BackRow) where
  -- the row of this emission, at this place, does
  abbrev takes : ℕ → Emission → Bool
  takes place e = nat_eq place here.place && is_eq (json_cmp (json (term (json e.key))) (json here.key))

  not_elsewhere : (place : ℕ) (e : Emission) → (place ≡ here.place → ⊥) → takes place e ≡ false
  not_elsewhere place e apart = and_left (nat_eq place here.place) (is_eq (json_cmp (json (term (json e.key))) (json here.key))) (ne_eqb place here.place apart)

  by_key : (place : ℕ) (e : Emission) → place ≡ here.place → takes place e ≡ is_eq (json_cmp (json e.key) (json here.key))
  by_key place e is =
      and_so (nat_eq place here.place) (is_eq (json_cmp (json (term (json e.key))) (json here.key))) (eq-eqb place here.place is)
      ∙ ap (λ k. is_eq (json_cmp k (json here.key))) (json-term (json e.key))

  none_behind : (place : ℕ) (emissions : List Emission) → here.place < place → is_replaced (rows_from place id (map key_value emissions)) here ≡ false
  none_behind place [] above = refl
  none_behind place (e ∷ emissions) above =
      or_from (takes place e) (is_replaced (rows_from (suc place) id (map key_value emissions)) here) (not_elsewhere place e (λ is. omega arith)) (none_behind (suc place) emissions (omega (arith, above)))

  -- behind so many places
  replaced_behind : (place number : ℕ) (emissions : List Emission) (e : Emission) → place + number ≡ here.place → number < length emissions → e ≡ get_or emissions number e
      → is_replaced (rows_from place id (map key_value emissions)) here ≡ is_eq (json_cmp (json e.key) (json here.key))
  replaced_behind place number [] e is within found = absurd (omega arith)
  replaced_behind place zero (x ∷ emissions) e is within found =
      or_none (takes place x) (is_replaced (rows_from (suc place) id (map key_value emissions)) here) (none_behind (suc place) emissions (omega arith))
      ∙ by_key place x (omega arith) ∙ ap (λ (y : Emission). is_eq (json_cmp (json y.key) (json here.key))) (sym found)
  replaced_behind place (suc number) (x ∷ emissions) e is within found =
      ap (λ b. b || is_replaced (rows_from (suc place) id (map key_value emissions)) here) (not_elsewhere place x (λ same. omega arith))
      ∙ replaced_behind (suc place) number emissions e (omega arith) (omega arith) found

  pub replaced_by : (emissions : List Emission) (e : Emission) → here.place < length emissions → e ≡ get_or emissions here.place e
      → is_replaced (rows_from 0 id (map key_value emissions)) here ≡ is_eq (json_cmp (json e.key) (json here.key))
  replaced_by emissions e within found = replaced_behind 0 here.place emissions e (omega arith) within found

  none_before : (place : ℕ) (emissions : List Emission) → place + length emissions ≤ here.place → is_replaced (rows_from place id (map key_value emissions)) here ≡ false
  none_before place [] below = refl
  none_before place (e ∷ emissions) below =
      or_from (takes place e) (is_replaced (rows_from (suc place) id (map key_value emissions)) here) (not_elsewhere place e (λ is. omega arith)) (none_before (suc place) emissions (omega arith))

  pub not_replaced : (emissions : List Emission) → length emissions ≤ here.place → is_replaced (rows_from 0 id (map key_value emissions)) here ≡ false
  not_replaced emissions below = none_before 0 emissions (omega (arith, below))
