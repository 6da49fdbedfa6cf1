-- A `Term` of the program and the JSON value that it is determine each other.
use Rattle.std.specs.Prelude.{◌≡◌, ℕ, List, [], ◌∷◌}
use Rattle.std.proofs.Common.{ap, sym, ◌∙◌, refl}
use Rattle.json_terms.specs.declared.term.Term.{Term}
use Rattle.json_terms.specs.declared.term.Term.TheVariants.{Int, False, Null, True, Object, Array, Text}
use Rattle.json_terms.specs.Json.{Json, number, is_false, is_null, is_true, object, array, string, Items, no_items, item, Members, no_members, member, items_of, members_of, list_of_items, list_of_members}
use Rattle.json_terms.specs.Seen.{json, term}

pub list_of_items-items_of : (ts : List Json) → list_of_items (items_of ts) ≡ ts
list_of_items-items_of [] = refl
list_of_items-items_of (t ∷ ts) = ap (λ us. t ∷ us) (list_of_items-items_of ts)

pub items_of-list_of_items : (ts : Items) → items_of (list_of_items ts) ≡ ts
items_of-list_of_items no_items = refl
items_of-list_of_items (item t ts) = ap (item t) (items_of-list_of_items ts)

pub list_of_members-members_of : (ms : List (List ℕ × Json)) → list_of_members (members_of ms) ≡ ms
list_of_members-members_of [] = refl
list_of_members-members_of (m ∷ ms) = ap (λ ns. m ∷ ns) (list_of_members-members_of ms)

pub members_of-list_of_members : (ms : Members) → members_of (list_of_members ms) ≡ ms
members_of-list_of_members no_members = refl
members_of-list_of_members (member n t ms) = ap (member n t) (members_of-list_of_members ms)

pub term-json : (t : Term) → term (json t) ≡ t
term-json (Int n) = refl
term-json False = refl
term-json Null = refl
term-json True = refl
term-json (Object ms) = ap Object (list_of_members-members_of ms)
term-json (Array ts) = ap Array (list_of_items-items_of ts)
term-json (Text s) = refl

pub json-term : (t : Json) → json (term t) ≡ t
json-term (number n) = refl
json-term is_false = refl
json-term is_null = refl
json-term is_true = refl
json-term (object ms) = ap object (members_of-list_of_members ms)
json-term (array ts) = ap array (items_of-list_of_items ts)
json-term (string s) = refl

-- equal values are equal terms
pub json_inj : (t u : Term) → json t ≡ json u → t ≡ u
json_inj t u same = sym (term-json t) ∙ ap term same ∙ term-json u
