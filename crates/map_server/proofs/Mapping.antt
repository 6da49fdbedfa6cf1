-- The rows of all functions of a session.
use Rattle.std.specs.Prelude.{◌≡◌, ◌≤◌, ℕ, List, [], ◌∷◌, map, refl, Option, Some, None}
use Rattle.std.proofs.Common.{ap, arith}
use Rattle.std.specs.List.{AllByRecursion}
use Rattle.json_terms.specs.Json.{Json, object, depth, items_of, items_depth, members_of}
use Rattle.map_lang.specs.Syntax.{Stmts}
use Rattle.map_lang.specs.Meaning.{depth_limit}
use Rattle.map_lang.proofs.Bounds.{stays_within_bounds}
use Rattle.view_ports.specs.Functions.{pair_term, rows_term}
use Rattle.view_ports.specs.Honest.{rows_of}
use Rattle.map_server.specs.declared.map_function.MapFunction.{MapFunction}
use Rattle.map_server.specs.Pick.{pick}
use Rattle.map_server.specs.PickFunctions.{pick_map, rows_given}
use Rattle.map_server.specs.Programs.{program_of}

pairs_depth : (rows : List (Json × Json)) → AllByRecursion (λ row. (depth row.0 ≤ depth_limit) × (depth row.1 ≤ depth_limit)) rows → items_depth (items_of (map pair_term rows)) ≤ 97
pairs_depth [] all = omega arith
pairs_depth (row ∷ rows) all = let others = pairs_depth rows all.1 in omega (arith, all.0.0, all.0.1, others)

given_depth : (given : Option Stmts) (document : List (List ℕ × Json)) → depth (rows_term (rows_given given document)) ≤ 98
given_depth None document = omega arith
given_depth (Some program) document = let e = pairs_depth _ (stays_within_bounds program (object (members_of document))).0 in omega (arith, e)

-- what all functions give isn't deep
pub lists_depth : (functions : List MapFunction) (document : List (List ℕ × Json)) → items_depth (items_of (map (λ f. rows_term (pick_map f.source document)) functions)) ≤ 98
lists_depth [] document = omega arith
lists_depth (f ∷ functions) document =
    let first = given_depth (program_of f.source) document in
    let others = lists_depth functions document in
    omega (arith, first, others)

pub lists_same : (functions : List MapFunction) (document : List (List ℕ × Json)) → map (λ f. rows_term (pick_map f.source document)) functions ≡ map rows_term (rows_of pick (map (λ f. f.source) functions) document)
lists_same [] document = refl
lists_same (f ∷ functions) document = ap (λ lists. rows_term (pick_map f.source document) ∷ lists) (lists_same functions document)
