-- The value of several groups of rows as one, from their values.
use Rattle.std.specs.Prelude.{◌≡◌, ◌≤◌, ◌^◌, List, [], ◌≢◌, All, length, map}
use Rattle.std.specs.List.{flat_map}
use Rattle.json_terms.specs.Json.{Json}
use Rattle.json_terms.specs.Terms.{IsTerm}
use Rattle.design_docs.specs.declared.design.Builtin.{Builtin}
use Rattle.builtin_reduces.specs.declared.sum.BuiltinSum.{BuiltinSum}
use Rattle.builtin_reduces.specs.Values.{value_of}

-- values as rows have them: terms, and as many at most as a list in memory may have
pub record AreValues (values : List Json) : Type 0 where
  pub terms : All IsTerm values
  pub few : length values ≤ 2 ^ 63

-- a value of the parts joined, wherever these are the values of parts of which none is empty
abbrev pub IsJoined : Builtin → List BuiltinSum → BuiltinSum → Type 0
IsJoined kind sums sum =
    (parts : List (List Json)) → parts ≢ [] → All (λ part. part ≢ []) parts → AreValues (flat_map (λ part. part) parts)
    → sums ≡ map (value_of kind) parts → sum ≡ value_of kind (flat_map (λ part. part) parts)
