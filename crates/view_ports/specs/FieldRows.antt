-- What a map function of the language `field` emits.
use Rattle.std.specs.Prelude.{ℕ, List, [], ◌∷◌, Option, Some, None}
use Rattle.json_terms.specs.Json.{Json, is_null, members_of}
use Rattle.json_terms.specs.Find.{find}

-- a member's value as the key of one row
abbrev pub emitted : Option Json → List (Json × Json)
emitted None = []
emitted (Some key) = (key, is_null) ∷ []

abbrev pub field_map : List ℕ → List (List ℕ × Json) → List (Json × Json)
field_map source document = emitted (find source (members_of document))
