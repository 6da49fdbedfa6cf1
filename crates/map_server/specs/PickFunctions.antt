-- What the functions of the language `pick` compute.
use Rattle.std.specs.Prelude.{ℕ, List, [], map, Bool, Option, Some, None, is_some}
use Rattle.json_terms.specs.Json.{Json, is_null, object, members_of}
use Rattle.map_lang.specs.declared.reduce.PickReduce.{PickReduce}
use Rattle.map_lang.specs.Meaning.{rows_of}
use Rattle.map_lang.specs.Reduce as reduce
use Rattle.map_lang.specs.Syntax.{Stmts}
use Rattle.view_ports.specs.ReduceRow.{ReduceRow}
use Rattle.map_server.specs.Programs.{program_of}

-- a map function's source is a program
abbrev pub pick_compiles : List ℕ → Bool
pick_compiles source = is_some (program_of source)

-- the rows that a program gives of a document; without a program none
abbrev pub rows_given : Option Stmts → List (List ℕ × Json) → List (Json × Json)
rows_given None document = []
rows_given (Some program) document = rows_of program (object (members_of document))

abbrev pub pick_map : List ℕ → List (List ℕ × Json) → List (Json × Json)
pick_map source document = rows_given (program_of source) document

-- a reduce function's source is the name of a reduce
abbrev pub pick_reduce_compiles : List ℕ → Bool
pick_reduce_compiles source = is_some (reduce.reduce_named source)

abbrev pub value_of_row : ReduceRow → Json
value_of_row ((key, id), value) = value

-- the result of the reduce that is named; without one `null`
abbrev pub reduced : Option PickReduce → List Json → Json
reduced None values = is_null
reduced (Some how) values = reduce.reduce_of how values

abbrev pub rereduced : Option PickReduce → List Json → Json
rereduced None values = is_null
rereduced (Some how) values = reduce.rereduce_of how values

abbrev pub pick_reduce : List ℕ → List ReduceRow → Json
pick_reduce source rows = reduced (reduce.reduce_named source) (map value_of_row rows)

abbrev pub pick_rereduce : List ℕ → List Json → Json
pick_rereduce source values = rereduced (reduce.reduce_named source) values
