-- The JSON value that a `Term` of the program is, and the `Term` that a JSON value is.
use Rattle.std.specs.Prelude.{List, ℕ}
use Rattle.json_terms.specs.declared.term.Term.{Term}
use Rattle.json_terms.specs.declared.term.Term.TheVariants.{Int, False, Null, True, Object, Array, Text}
use Rattle.json_terms.specs.declared.term.Member.{Member}
use Rattle.json_terms.specs.Json.{Json, number, is_false, is_null, is_true, object, array, string, items_of, members_of, list_of_items, list_of_members}

abbrev pub json : Term → Json
json (Int n) = number n
json False = is_false
json Null = is_null
json True = is_true
json (Object ms) = object (members_of ms)
json (Array ts) = array (items_of ts)
json (Text s) = string s

abbrev pub term : Json → Term
term (number n) = Int n
term is_false = False
term is_null = Null
term is_true = True
term (object ms) = Object (list_of_members ms)
term (array ts) = Array (list_of_items ts)
term (string s) = Text s

-- a member as its name and its value
abbrev pub pair_of : Member → List ℕ × Json
pair_of m = (m.name, json m.value)
