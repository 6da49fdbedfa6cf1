-- The laws of the language.
use Rattle.std.specs.Prelude.{◌≡◌, ◌≢◌, ℕ, List, [], ◌∷◌, ◌++◌, ◌≤◌, map, sum_by}
use Rattle.std.specs.List.{AllByRecursion}
use Rattle.json_terms.specs.Json.{Json, depth}
use Rattle.map_lang.specs.declared.reduce.PickReduce.{PickReduce}
use Rattle.map_lang.specs.Reduce.{reduce_of, rereduce_of}
use Rattle.map_lang.specs.Syntax.{Stmts}
use Rattle.map_lang.specs.Grammar.{Compiles}
use Rattle.map_lang.specs.Meaning.{rows_of, text_length, depth_limit, byte_limit}

-- the values of the parts, one part after another
abbrev pub joined : List (List Json) → List Json
joined [] = []
joined (part ∷ parts) = part ++ joined parts

-- Rows may be cut into parts that are each reduced, as long as no part is empty: the results reduce to what all rows do.
abbrev pub ReducesInParts : Type 0
ReducesInParts = (how : PickReduce) (parts : List (List Json)) → parts ≢ [] → AllByRecursion (λ part. part ≢ []) parts → rereduce_of how (map (reduce_of how) parts) ≡ reduce_of how (joined parts)

-- A source compiles as one program at most.
abbrev pub CompilesOnce : Type 0
CompilesOnce = (source : List ℕ) (p q : Stmts) → Compiles source p → Compiles source q → p ≡ q

-- the bytes of the texts of a key and a value
abbrev pub row_bytes : Json × Json → ℕ
row_bytes row = text_length row.0 row.1

-- Keys and values are 96 deep at most, and their texts have 1,048,576 bytes at most together.
abbrev pub StaysWithinBounds : Type 0
StaysWithinBounds = (program : Stmts) (document : Json) →
    AllByRecursion (λ row. (depth row.0 ≤ depth_limit) × (depth row.1 ≤ depth_limit)) (rows_of program document) × (sum_by row_bytes (rows_of program document) ≤ byte_limit)
