-- What one use of an argument does to the rows of others.
use Rattle.std.proofs.Common.{◌≡◌, ◌∙◌, ◌||◌, Bool, cond, true, false, refl, ap, List, [], ◌∷◌, ◌++◌, Option, Some, None, true≢false}
use Rattle.std.specs.Prelude.{is_some}
use Rattle.std.specs.List.{find}
use Rattle.std.specs.Str.{bytes_eq}
use Rattle.std.proofs.lemmas.Slice.Eq.{bytes_eq-Decides}
use Rattle.clap.specs.Walk.{Row, Text, all_of, at_row, first_of, has_row, more_values, with_values, without}
use Rattle.clap.specs.declared.builder.value_parser.Reading.{Reading}
use Rattle.clap.specs.declared.parser.matches.ValueSource.{ValueSource}

abbrev pub row_for : Text → List Row → Option Row
row_for id rows = find (λ r. bytes_eq r.id id) rows

abbrev pub values_in : Option Row → List Text
values_in None = []
values_in (Some r) = r.values

-- two texts that aren't one
apart : (a b c : Text) → bytes_eq b c ≡ false → bytes_eq a b ≡ true → bytes_eq a c ≡ false
apart a b c differ same = ap (λ x. bytes_eq x c) ((bytes_eq-Decides a b).0 same) ∙ differ

itself : (a : Text) → bytes_eq a a ≡ true
itself a = (bytes_eq-Decides a a).1 refl

pub has_row-is_some : (id : Text) (rows : List Row) → has_row id rows ≡ is_some (row_for id rows)
has_row-is_some id [] = refl
has_row-is_some id (r ∷ rows) = go (bytes_eq r.id id) (has_row-is_some id rows)
  where
    go : (b : Bool) → has_row id rows ≡ is_some (row_for id rows) → (b || has_row id rows) ≡ is_some (cond b (Some r) (row_for id rows))
    go true e = refl
    go false e = e

-- a use of one argument leaves the row of another
pub other_row : (id other : Text) (how : Reading) (s : ValueSource) (values : List Text) (rows : List Row) → bytes_eq id other ≡ false
    → row_for other (with_values id how s values rows) ≡ row_for other rows
other_row id other how s values [] differ = rw differ refl
other_row id other how s values (r ∷ rows) differ = go (bytes_eq r.id id) refl (other_row id other how s values rows differ)
  where
    go : (b : Bool) → bytes_eq r.id id ≡ b → row_for other (with_values id how s values rows) ≡ row_for other rows
        → row_for other (cond b (more_values s values r ++ rows) (r ∷ with_values id how s values rows)) ≡ row_for other (r ∷ rows)
    go true same rest = rw (apart r.id id other differ same) refl
    go false _ rest = ap (λ o. cond (bytes_eq r.id other) (Some r) o) rest

-- a use adds its values to its argument's row
pub own_row : (id : Text) (how : Reading) (s : ValueSource) (values : List Text) (rows : List Row)
    → (r : Row) × (row_for id (with_values id how s values rows) ≡ Some r) × (r.values ≡ values_in (row_for id rows) ++ values)
own_row id how s values [] = (record { id = id; values = values; count = None; source = Some s; reading = how }, rw (itself id) refl, refl)
own_row id how s values (r ∷ rows) = go (bytes_eq r.id id) refl (own_row id how s values rows)
  where
    go : (b : Bool) → bytes_eq r.id id ≡ b
        → (q : Row) × (row_for id (with_values id how s values rows) ≡ Some q) × (q.values ≡ values_in (row_for id rows) ++ values)
        → (q : Row) × (row_for id (cond b (more_values s values r ++ rows) (r ∷ with_values id how s values rows)) ≡ Some q)
        × (q.values ≡ values_in (row_for id (r ∷ rows)) ++ values)
    go true same rest = (record r { values = r.values ++ values; source = Some (Rattle.clap.specs.Walk.stronger r.source s) }, rw same refl, rw same refl)
    go false differ rest = (rest.0, rw differ rest.1, rw differ rest.2)

-- where the argument has no row, there is none to take away
pub none_taken : (id : Text) (rows : List Row) → has_row id rows ≡ false → without id rows ≡ rows
none_taken id [] none = refl
none_taken id (r ∷ rows) none = go (bytes_eq r.id id) none (none_taken id rows)
  where
    go : (b : Bool) → (b || has_row id rows) ≡ false → (has_row id rows ≡ false → without id rows ≡ rows) → cond b ([] ++ rows) (r ∷ without id rows) ≡ r ∷ rows
    go true none rest = absurd (true≢false none)
    go false none rest = ap (λ rs. r ∷ rs) (rest none)
