-- The values of the rows of parts.
use Rattle.std.proofs.Common.{◌≡◌, ◌≢◌, ◌++◌, List, [], ◌∷◌, All, length, map, refl, ap, sym, ◌∙◌, subst, arith}
use Rattle.std.specs.List.{flat_map}
use Rattle.std.proofs.lemmas.List.{length-map}
use Rattle.std.proofs.lemmas.List.Elements.{All-nil, All-cons, All-head, All-tail}
use Rattle.json_terms.specs.Seen.{json}
use Rattle.json_terms.specs.declared.term.Row.{Row}
use Rattle.json_terms.specs.Terms.{IsTerm}
use Rattle.design_docs.specs.declared.design.Builtin.{Builtin}
use Rattle.tree_laws.specs.Meaning.{IsJoinValue, joined}
use Rattle.builtin_reduces.specs.declared.sum.BuiltinSum.{BuiltinSum}
use Rattle.builtin_reduces.specs.Seen.{values}
use Rattle.builtin_reduces.specs.Values.{value_of}
use Rattle.builtin_reduces.specs.Joined.{AreValues, IsJoined}
use Rattle.builtin_reduces.specs.BuiltinMeaning.{builtin_meaning}
use Rattle.builtin_reduces.specs.Kept.{IsKept}

values-append : (xs ys : List Row) → values (xs ++ ys) ≡ values xs ++ values ys
values-append [] ys = refl
values-append (x ∷ xs) ys = ap (λ vs. json x.value ∷ vs) (values-append xs ys)

values-joined : (parts : List (List Row)) → flat_map (λ part. part) (map values parts) ≡ values (joined parts)
values-joined [] = refl
values-joined (part ∷ parts) = ap (λ vs. values part ++ vs) (values-joined parts) ∙ sym (values-append part (joined parts))

value_of-parts : (kind : Builtin) (parts : List (List Row)) → map (λ part. value_of kind (values part)) parts ≡ map (value_of kind) (map values parts)
value_of-parts kind [] = refl
value_of-parts kind (part ∷ parts) = ap (λ sums. value_of kind (values part) ∷ sums) (value_of-parts kind parts)

some_parts : (parts : List (List Row)) → parts ≢ [] → map values parts ≢ []
some_parts [] some = absurd (some refl)
some_parts (part ∷ parts) some = λ none. absurd cc

some_rows : (rows : List Row) → rows ≢ [] → values rows ≢ []
some_rows [] some = absurd (some refl)
some_rows (row ∷ rows) some = λ none. absurd cc

each_some : (parts : List (List Row)) → All (λ part. part ≢ []) parts → All (λ part. part ≢ []) (map values parts)
each_some [] all = All-nil (λ part. part ≢ [])
each_some (part ∷ parts) all =
    All-cons (λ part. part ≢ []) (values part) (map values parts) (some_rows part (All-head (λ part. part ≢ []) part parts all)) (each_some parts (All-tail (λ part. part ≢ []) part parts all))

all_terms : (rows : List Row) → All IsKept rows → All IsTerm (values rows)
all_terms [] all = All-nil IsTerm
all_terms (row ∷ rows) all = All-cons IsTerm (json row.value) (values rows) (All-head IsKept row rows all).value.valid (all_terms rows (All-tail IsKept row rows all))

-- what is the value of the values joined is the value of the rows joined
pub joined_value : (kind : Builtin) (sums : List BuiltinSum) (sum : BuiltinSum) → IsJoined kind sums sum → IsJoinValue IsKept (Unit {0}) (builtin_meaning kind) sums sum
joined_value kind sums sum is = λ lawful parts some each kept few same.
    let rows : List Row = joined parts in
    let flat = values-joined parts in
    let many : length (values rows) ≡ length rows = length-map rows (λ (row : Row). json row.value) in
    let are : AreValues (values rows) = record { terms = all_terms rows kept; few = omega arith } in
    is (map values parts) (some_parts parts some) (each_some parts each) (subst AreValues (sym flat) are) (same ∙ value_of-parts kind parts) ∙ ap (value_of kind) flat
