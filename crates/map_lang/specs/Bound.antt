-- The variables that the code keeps.
use Rattle.std.specs.Prelude.{ℕ, List, ◌∷◌, map}
use Rattle.json_terms.specs.declared.term.Term.{Term}
use Rattle.json_terms.specs.Json.{Json}
use Rattle.json_terms.specs.Seen.{json}
use Rattle.map_lang.specs.declared.value.Variable.{Variable}
use Rattle.map_lang.specs.Grammar.{document_name}
use Rattle.map_lang.specs.Meaning.{Scope}

abbrev pub variable_of : Variable → List ℕ × Json
variable_of v = (v.name, json v.value)

-- the document, and the variables that are bound
abbrev pub scope_of : Term → List Variable → Scope
scope_of document bound = (document_name, json document) ∷ map variable_of bound
