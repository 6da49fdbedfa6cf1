-- Results of reduces.
use Rattle.std.specs.Prelude.{◌≡◌, ◌≤◌, ℕ, List, [], ◌∷◌, map, cond, is_some, refl, Some}
use Rattle.std.proofs.Common.{sym, ap, arith}
use Rattle.std.specs.List.{AllByRecursion}
use Rattle.json_terms.specs.Json.{Json, depth}
use Rattle.json_terms.specs.Seen.{json}
use Rattle.json_terms.specs.declared.term.Row.{Row}
use Rattle.map_lang.specs.declared.reduce.PickReduce.{PickReduce}
use Rattle.map_lang.specs.Reduce.{reduce_named, reduce_of, rereduce_of}
use Rattle.view_ports.specs.ReduceRow.{ReduceRow, reduce_row}
use Rattle.view_ports.specs.Honest.{no_compilation}
use Rattle.map_server.specs.PickFunctions.{value_of_row, reduced, rereduced, pick_reduce_compiles, pick_reduce, pick_rereduce}
use Rattle.map_server.specs.PickReduces.{reduce_holds, rereduce_holds}
use Rattle.map_server.specs.Replies.{IsShallowRow, IsShallowValue, result_depth, result_term}

-- the values of rows
pub values_same : (rows : List Row) → map (λ row. json row.value) rows ≡ map value_of_row (map reduce_row rows)
values_same [] = refl
values_same (row ∷ rows) = ap (λ vs. json row.value ∷ vs) (values_same rows)

values_shallow : (rows : List ReduceRow) → AllByRecursion IsShallowRow rows → AllByRecursion IsShallowValue (map value_of_row rows)
values_shallow [] all = tt
values_shallow (((key, id), value) ∷ rows) all = (all.0, values_shallow rows all.1)

pub reduce_shallow : (how : PickReduce) (rows : List ReduceRow) → AllByRecursion IsShallowRow rows → depth (reduce_of how (map value_of_row rows)) ≤ result_depth
reduce_shallow how rows all = reduce_holds IsShallowValue (omega arith) (λ n h. omega arith) how (map value_of_row rows) (values_shallow rows all)

pub rereduce_shallow : (how : PickReduce) (values : List Json) → AllByRecursion IsShallowValue values → depth (rereduce_of how values) ≤ result_depth
rereduce_shallow how values all = rereduce_holds IsShallowValue (omega arith) (λ n h. omega arith) how values all

-- the answer where the reduce is named
pub reduce_answer : (source : List ℕ) (how : PickReduce) (rows : List ReduceRow) → reduce_named source ≡ Some how
    → result_term (reduce_of how (map value_of_row rows)) ≡ cond (pick_reduce_compiles source) (result_term (pick_reduce source rows)) no_compilation
reduce_answer source how rows e = ap (λ o. cond (is_some o) (result_term (reduced o (map value_of_row rows))) no_compilation) (sym e)

pub rereduce_answer : (source : List ℕ) (how : PickReduce) (values : List Json) → reduce_named source ≡ Some how
    → result_term (rereduce_of how values) ≡ cond (pick_reduce_compiles source) (result_term (pick_rereduce source values)) no_compilation
rereduce_answer source how values e = ap (λ o. cond (is_some o) (result_term (rereduced o values)) no_compilation) (sym e)
