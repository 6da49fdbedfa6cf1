-- The lines that a query server is sent (CouchDB documentation, "Query Server Protocol"), and what each asks for.
use Rattle.std.specs.Prelude.{◌≤◌, ℕ, List, [], ◌∷◌, map, codes, bytes_eq, nat_le, if◌then◌else◌, Option, Some, None, option_map, option_and_then, Result, Ok, Err}
use Rattle.json_terms.specs.Json.{Json, is_false, is_null, object, array, string, Items, no_items, item, no_members, member, items_of, members_of, list_of_members, list_of_items, depth}
use Rattle.json_terms.specs.Kinds.{text_in, members_in, items_in, one_in, two_in}
use Rattle.json_terms.specs.Reading.{reading}
use Rattle.json_terms.specs.declared.fault.TermFault.{TermFault}
use Rattle.view_ports.specs.ReduceRow.{ReduceRow}
use Rattle.view_ports.specs.declared.command.Command.{Command}
use Rattle.view_ports.specs.declared.command.Command.TheVariants.{Reset, AddFun, MapDoc, Reduce, Rereduce, Other}

-- the greatest depth of a document
abbrev pub document_depth : ℕ
document_depth = 64

-- a source in an array of its own
abbrev pub source_in : Json → Option (List ℕ)
source_in t = option_and_then text_in (option_and_then one_in (items_in t))

abbrev pub unless_deep : Json → Option Json
unless_deep t = if nat_le (depth t) document_depth then Some t else None

-- a document is an object that isn't too deep
abbrev pub document_in : Json → Option (List (List ℕ × Json))
document_in t = option_map list_of_members (option_and_then members_in (unless_deep t))

-- `[[KEY,ID],VALUE]`
abbrev pub with_id : Json → Json → Option (List ℕ) → Option ReduceRow
with_id key value None = None
with_id key value (Some id) = Some ((key, id), value)

abbrev pub with_key : Json → Option (Json × Json) → Option ReduceRow
with_key value None = None
with_key value (Some (key, id)) = with_id key value (text_in id)

abbrev pub with_value : Option (Json × Json) → Option ReduceRow
with_value None = None
with_value (Some (key, value)) = with_key value (option_and_then two_in (items_in key))

abbrev pub reduce_row_in : Json → Option ReduceRow
reduce_row_in t = with_value (option_and_then two_in (items_in t))

-- each element is such a row
abbrev pub reduce_rows_of : Items → Option (List ReduceRow)
reduce_rows_of no_items = Some []
reduce_rows_of (item t ts) = option_and_then (λ row. option_map (λ rows. row ∷ rows) (reduce_rows_of ts)) (reduce_row_in t)

-- a list that isn't empty
abbrev pub some_rows : List ReduceRow → Option (List ReduceRow)
some_rows [] = None
some_rows (row ∷ rows) = Some (row ∷ rows)

abbrev pub some_values : List Json → Option (List Json)
some_values [] = None
some_values (value ∷ values) = Some (value ∷ values)

abbrev pub rows_in : Json → Option (List ReduceRow)
rows_in t = option_and_then some_rows (option_and_then reduce_rows_of (items_in t))

abbrev pub values_in : Json → Option (List Json)
values_in t = option_and_then (λ ts. some_values (list_of_items ts)) (items_in t)

abbrev pub or_other : Option Command → Command
or_other None = Other
or_other (Some command) = command

abbrev pub reduce_in : Option (Json × Json) → Option Command
reduce_in None = None
reduce_in (Some (source, rows)) = option_and_then (λ s. option_map (Reduce s) (rows_in rows)) (source_in source)

abbrev pub rereduce_in : Option (Json × Json) → Option Command
rereduce_in None = None
rereduce_in (Some (source, values)) = option_and_then (λ s. option_map (Rereduce s) (values_in values)) (source_in source)

-- what the elements behind the name ask for
abbrev pub named : List ℕ → Items → Option Command
named name ts =
    if bytes_eq name (codes "reset") then Some Reset
    else if bytes_eq name (codes "add_fun") then option_map AddFun (option_and_then text_in (one_in ts))
    else if bytes_eq name (codes "map_doc") then option_map MapDoc (option_and_then document_in (one_in ts))
    else if bytes_eq name (codes "reduce") then reduce_in (two_in ts)
    else if bytes_eq name (codes "rereduce") then rereduce_in (two_in ts)
    else None

abbrev pub begun_by : Option (List ℕ) → Items → Option Command
begun_by None ts = None
begun_by (Some name) ts = named name ts

-- an array that begins with the command's name
abbrev pub command_in : Items → Option Command
command_in no_items = None
command_in (item name ts) = begun_by (text_in name) ts

-- the command that a term is; `Other` is no proper command
abbrev pub command_of : Json → Command
command_of t = or_other (option_and_then command_in (items_in t))

abbrev pub command_read : Result Json TermFault → Command
command_read (Ok t) = command_of t
command_read (Err fault) = Other

-- the command that a line is
unfoldable pub command : List ℕ → Command
command line = command_read (reading line)

-- the document isn't too deep
abbrev pub IsShallow : Command → Type 0
IsShallow (MapDoc document) = depth (object (members_of document)) ≤ document_depth
IsShallow Reset = Unit {0}
IsShallow (AddFun source) = Unit {0}
IsShallow (Reduce source rows) = Unit {0}
IsShallow (Rereduce source values) = Unit {0}
IsShallow Other = Unit {0}

-- ---- the line of a command, as a term

abbrev pub list2 : Json → Json → Json
list2 a b = array (item a (item b no_items))

abbrev pub list3 : Json → Json → Json → Json
list3 a b c = array (item a (item b (item c no_items)))

abbrev pub list1 : Json → Json
list1 a = array (item a no_items)

abbrev pub three_strings : List ℕ → List ℕ → List ℕ → Json
three_strings a b c = list3 (string a) (string b) (string c)

abbrev pub reduce_row_term : ReduceRow → Json
reduce_row_term ((key, id), value) = list2 (list2 key (string id)) value

abbrev pub command_term : Command → Json
command_term Reset = list2 (string (codes "reset")) (object (member (codes "reduce_limit") is_false no_members))
command_term (AddFun source) = list2 (string (codes "add_fun")) (string source)
command_term (MapDoc document) = list2 (string (codes "map_doc")) (object (members_of document))
command_term (Reduce source rows) = list3 (string (codes "reduce")) (list1 (string source)) (array (items_of (map reduce_row_term rows)))
command_term (Rereduce source values) = list3 (string (codes "rereduce")) (list1 (string source)) (array (items_of values))
command_term Other = is_null
