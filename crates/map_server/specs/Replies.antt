-- What the server of the language `pick` answers to a line, and which sources it has then.
use Rattle.std.specs.Prelude.{◌≤◌, ℕ, List, [], ◌∷◌, ◌++◌, length, nat_le, if◌then◌else◌}
use Rattle.std.specs.List.{AllByRecursion}
use Rattle.json_terms.specs.Json.{Json, is_true, depth}
use Rattle.json_terms.specs.Text.{text_of}
use Rattle.view_ports.specs.ReduceRow.{ReduceRow}
use Rattle.view_ports.specs.declared.command.Command.{Command}
use Rattle.view_ports.specs.declared.command.Command.TheVariants.{Reset, AddFun, MapDoc, Reduce, Rereduce, Other}
use Rattle.view_ports.specs.Commands.{command, list1, list2}
use Rattle.view_ports.specs.Functions.{IsSomeList, lists_term, line_limit}
use Rattle.view_ports.specs.Honest.{rows_of, no_compilation, no_command}
use Rattle.map_server.specs.PickFunctions.{pick_compiles, pick_reduce_compiles, pick_reduce, pick_rereduce}
use Rattle.map_server.specs.Pick.{pick}

-- `[true,[RESULT]]`
abbrev pub result_term : Json → Json
result_term result = list2 is_true (list1 result)

-- the answer to a command, where these sources were added
abbrev pub answer_of : List (List ℕ) → Command → Json
answer_of sources Reset = is_true
answer_of sources (AddFun source) = if pick_compiles source then is_true else no_compilation
answer_of sources (MapDoc document) = lists_term (rows_of pick sources document)
answer_of sources (Reduce source rows) = if pick_reduce_compiles source then result_term (pick_reduce source rows) else no_compilation
answer_of sources (Rereduce source values) = if pick_reduce_compiles source then result_term (pick_rereduce source values) else no_compilation
answer_of sources Other = no_command

-- the sources after it
abbrev pub sources_then : List (List ℕ) → Command → List (List ℕ)
sources_then sources Reset = []
sources_then sources (AddFun source) = if pick_compiles source then sources ++ source ∷ [] else sources
sources_then sources (MapDoc document) = sources
sources_then sources (Reduce source rows) = sources
sources_then sources (Rereduce source values) = sources
sources_then sources Other = sources

-- A line that is longer than a line may be is no proper command.
abbrev pub command_in_line : List ℕ → Command
command_in_line line = if nat_le (length line) line_limit then command line else Other

-- the text of the answer to a line
abbrev pub answer_text : List (List ℕ) → List ℕ → List ℕ
answer_text sources line = text_of (answer_of sources (command_in_line line))

-- the sources after a line
abbrev pub sources_after_line : List (List ℕ) → List ℕ → List (List ℕ)
sources_after_line sources line = sources_then sources (command_in_line line)

-- What is reduced isn't empty, and isn't so deep that a result couldn't be read in an answer.
abbrev pub result_depth : ℕ
result_depth = 98

abbrev pub IsShallowRow : ReduceRow → Type 0
IsShallowRow ((key, id), value) = depth value ≤ result_depth

abbrev pub IsShallowValue : Json → Type 0
IsShallowValue value = depth value ≤ result_depth

abbrev pub IsReducible : Command → Type 0
IsReducible Reset = Unit {0}
IsReducible (AddFun source) = Unit {0}
IsReducible (MapDoc document) = Unit {0}
IsReducible (Reduce source rows) = IsSomeList rows × AllByRecursion IsShallowRow rows
IsReducible (Rereduce source values) = IsSomeList values × AllByRecursion IsShallowValue values
IsReducible Other = Unit {0}
