-- The ends of a range, and the listed keys, as the terms that were read.
use Rattle.std.specs.Prelude.{◌≡◌, ℕ, List, Bool, Option, Some, option_map, option_and_then}
use Rattle.std.proofs.Common.{sym, ap}
use Rattle.json_terms.specs.Json.{Json, array, items_of, list_of_items}
use Rattle.json_terms.specs.Seen.{json}
use Rattle.json_terms.specs.Kinds.{items_in}
use Rattle.json_terms.specs.declared.term.Term.{Term}
use Rattle.json_terms.proofs.Sames.{term-json, list_of_items-items_of}
use Rattle.query_args.specs.declared.query.Edge.{Edge}
use Rattle.query_args.specs.Query.{edge_at}

abbrev edge : Option (List ℕ) → Bool → Term → Option Edge
edge id inclusive t = Some (record { key = t; id = id; inclusive = inclusive })

-- an end at the term that is read
pub edge_of_term : (key : Term) (id : Option (List ℕ)) (inclusive : Bool) → Some (record { key = key; id = id; inclusive = inclusive }) ≡ edge_at (Some (json key)) id inclusive
edge_of_term key id inclusive = ap (edge id inclusive) (sym (term-json key))

-- the elements of an array are its list
pub keys_of_array : (ts : List Json) → option_map list_of_items (option_and_then items_in (Some (array (items_of ts)))) ≡ Some ts
keys_of_array ts = ap (λ us. Some us) (list_of_items-items_of ts)
