-- the rows of the functions so far
use Rattle.std.proofs.Common.{◌≡◌, ℕ, List, map, take}
use Rattle.json_terms.specs.Json.{Json, object, members_of}
use Rattle.json_terms.specs.Seen.{json}
use Rattle.view_ports.specs.Functions.{rows_term}
use Rattle.map_server.specs.PickFunctions.{pick_map}
use Rattle.map_server.proofs.pick_session.rows_of_each.Given as goal

abbrev pub invariant-loop-function : goal.invariant-loop-function
invariant-loop-function l =
    (members : List (List ℕ × Json)) → json l.document ≡ object (members_of members) → l.lists ≡ map (λ f. rows_term (pick_map f.source members)) (take l.function-index l.functions)
