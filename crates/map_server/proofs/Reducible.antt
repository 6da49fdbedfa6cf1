-- What a command reduces isn't empty, and isn't deep, since no line is deep.
use Rattle.std.specs.Prelude.{◌≡◌, ◌≤◌, ℕ, List, [], ◌∷◌, Bool, true, false, cond, refl, nat_le, codes, bytes_eq, Option, Some, None, option_map, option_and_then, Result, Ok, Err}
use Rattle.std.proofs.Common.{subst, arith}
use Rattle.std.specs.List.{AllByRecursion}
use Rattle.std.proofs.lemmas.Bool.{leb-true}
use Rattle.json_terms.specs.declared.fault.TermFault.{TermFault}
use Rattle.json_terms.specs.declared.fault.TermFault.TheVariants.{TooDeep}
use Rattle.json_terms.specs.Json.{Json, number, is_false, is_null, is_true, object, array, string, Items, no_items, item, list_of_items, depth, items_depth}
use Rattle.json_terms.specs.Kinds.{text_in, items_in, two_in, one_in}
use Rattle.json_terms.specs.Reading.{reading, depth_limit, data_of, value_of, unless_unread, unless_fractional}
use Rattle.view_ports.specs.ReduceRow.{ReduceRow}
use Rattle.view_ports.specs.declared.command.Command.{Command}
use Rattle.view_ports.specs.declared.command.Command.TheVariants.{AddFun, MapDoc, Reduce, Rereduce}
use Rattle.view_ports.specs.Commands.{command, command_read, command_of, command_in, begun_by, named, or_other, reduce_in, rereduce_in, rows_in, values_in, source_in, document_in, reduce_rows_of, reduce_row_in, some_rows, some_values, with_value, with_key, with_id}
use Rattle.view_ports.specs.Functions.{IsSomeList}
use Rattle.map_server.specs.Replies.{IsReducible, IsShallowRow, IsShallowValue, result_depth}

-- ---- what is read isn't deep

deep-depth : (b : Bool) (u t : Json) → nat_le (depth u) depth_limit ≡ b → cond b (Ok u) (Err TooDeep) ≡ Ok t → depth t ≤ depth_limit
deep-depth true u t within e = let same : u ≡ t = cc in subst (λ (v : Json). depth v ≤ depth_limit) same (leb-true (depth u) depth_limit within)
deep-depth false u t within e = absurd cc

fractional-depth : (o : Option Json) (t : Json) → unless_fractional o ≡ Ok t → depth t ≤ depth_limit
fractional-depth None t e = absurd cc
fractional-depth (Some u) t e = deep-depth (nat_le (depth u) depth_limit) u t refl e

read-depth : (line : List ℕ) (t : Json) → unless_unread (data_of line) ≡ Ok t → depth t ≤ depth_limit
read-depth line t = elim (data_of line) as (λ o. unless_unread o ≡ Ok t → depth t ≤ depth_limit) [ None ↦ λ e. absurd cc | Some d ↦ λ e. fractional-depth (value_of d) t e ]

-- ---- rows and values

abbrev RowMeets : Option ReduceRow → Type 0
RowMeets None = Unit {0}
RowMeets (Some row) = IsShallowRow row

abbrev RowsMeet : Option (List ReduceRow) → Type 0
RowsMeet None = Unit {0}
RowsMeet (Some rows) = AllByRecursion IsShallowRow rows

abbrev SomeRowsMeet : Option (List ReduceRow) → Type 0
SomeRowsMeet None = Unit {0}
SomeRowsMeet (Some rows) = IsSomeList rows × AllByRecursion IsShallowRow rows

abbrev SomeValuesMeet : Option (List Json) → Type 0
SomeValuesMeet None = Unit {0}
SomeValuesMeet (Some values) = IsSomeList values × AllByRecursion IsShallowValue values

id_meets : (key value : Json) (id : Option (List ℕ)) → depth value ≤ result_depth → RowMeets (with_id key value id)
id_meets key value None h = tt
id_meets key value (Some id) h = h

key_meets : (value : Json) (key : Option (Json × Json)) → depth value ≤ result_depth → RowMeets (with_key value key)
key_meets value None h = tt
key_meets value (Some (key, id)) h = id_meets key value (text_in id) h

two_meets : (ts : Items) → items_depth ts ≤ result_depth → RowMeets (with_value (two_in ts))
two_meets no_items h = tt
two_meets (item k no_items) h = tt
two_meets (item k (item v no_items)) h = key_meets v (option_and_then two_in (items_in k)) (omega arith)
two_meets (item k (item v (item w ws))) h = tt

row_meets : (t : Json) → depth t ≤ result_depth → RowMeets (reduce_row_in t)
row_meets (number n) h = tt
row_meets is_false h = tt
row_meets is_null h = tt
row_meets is_true h = tt
row_meets (object ms) h = tt
row_meets (array ts) h = two_meets ts (omega arith)
row_meets (string s) h = tt

and_rows : (o : Option ReduceRow) (os : Option (List ReduceRow)) → RowMeets o → RowsMeet os → RowsMeet (option_and_then (λ row. option_map (λ rows. row ∷ rows) os) o)
and_rows None os h k = tt
and_rows (Some row) None h k = tt
and_rows (Some row) (Some rows) h k = (h, k)

rows_meet : (ts : Items) → items_depth ts ≤ result_depth → RowsMeet (reduce_rows_of ts)
rows_meet no_items h = tt
rows_meet (item t ts) h = and_rows (reduce_row_in t) (reduce_rows_of ts) (row_meets t (omega arith)) (rows_meet ts (omega arith))

some_rows_meet : (o : Option (List ReduceRow)) → RowsMeet o → SomeRowsMeet (option_and_then some_rows o)
some_rows_meet None h = tt
some_rows_meet (Some []) h = tt
some_rows_meet (Some (row ∷ rows)) h = (tt, h)

rows_in_meets : (t : Json) → depth t ≤ 99 → SomeRowsMeet (rows_in t)
rows_in_meets (number n) h = tt
rows_in_meets is_false h = tt
rows_in_meets is_null h = tt
rows_in_meets is_true h = tt
rows_in_meets (object ms) h = tt
rows_in_meets (array ts) h = some_rows_meet (reduce_rows_of ts) (rows_meet ts (omega arith))
rows_in_meets (string s) h = tt

values_meet : (ts : Items) → items_depth ts ≤ result_depth → AllByRecursion IsShallowValue (list_of_items ts)
values_meet no_items h = tt
values_meet (item t ts) h = (omega arith, values_meet ts (omega arith))

some_values_meet : (ts : Items) → items_depth ts ≤ result_depth → SomeValuesMeet (some_values (list_of_items ts))
some_values_meet no_items h = tt
some_values_meet (item t ts) h = (tt, values_meet (item t ts) h)

values_in_meets : (t : Json) → depth t ≤ 99 → SomeValuesMeet (values_in t)
values_in_meets (number n) h = tt
values_in_meets is_false h = tt
values_in_meets is_null h = tt
values_in_meets is_true h = tt
values_in_meets (object ms) h = tt
values_in_meets (array ts) h = some_values_meet ts (omega arith)
values_in_meets (string s) h = tt

-- ---- commands

abbrev Meets : Option Command → Type 0
Meets command = IsReducible (or_other command)

reduce_meets : (source : Option (List ℕ)) (rows : Option (List ReduceRow)) → SomeRowsMeet rows → Meets (option_and_then (λ s. option_map (Reduce s) rows) source)
reduce_meets None rows h = tt
reduce_meets (Some source) None h = tt
reduce_meets (Some source) (Some rows) h = h

rereduce_meets : (source : Option (List ℕ)) (values : Option (List Json)) → SomeValuesMeet values → Meets (option_and_then (λ s. option_map (Rereduce s) values) source)
rereduce_meets None values h = tt
rereduce_meets (Some source) None h = tt
rereduce_meets (Some source) (Some values) h = h

reduce_in_meets : (ts : Items) → items_depth ts ≤ 99 → Meets (reduce_in (two_in ts))
reduce_in_meets no_items h = tt
reduce_in_meets (item a no_items) h = tt
reduce_in_meets (item a (item b no_items)) h = reduce_meets (source_in a) (rows_in b) (rows_in_meets b (omega arith))
reduce_in_meets (item a (item b (item more ts))) h = tt

rereduce_in_meets : (ts : Items) → items_depth ts ≤ 99 → Meets (rereduce_in (two_in ts))
rereduce_in_meets no_items h = tt
rereduce_in_meets (item a no_items) h = tt
rereduce_in_meets (item a (item b no_items)) h = rereduce_meets (source_in a) (values_in b) (values_in_meets b (omega arith))
rereduce_in_meets (item a (item b (item more ts))) h = tt

add_meets : (source : Option (List ℕ)) → Meets (option_map AddFun source)
add_meets None = tt
add_meets (Some source) = tt

map_meets : (document : Option (List (List ℕ × Json))) → Meets (option_map MapDoc document)
map_meets None = tt
map_meets (Some document) = tt

if_meets : (b : Bool) (x y : Option Command) → Meets x → Meets y → Meets (cond b x y)
if_meets true x y h k = h
if_meets false x y h k = k

named_meets : (name : List ℕ) (ts : Items) → items_depth ts ≤ 99 → Meets (named name ts)
named_meets name ts h =
    if_meets (bytes_eq name (codes "reset")) _ _ tt
    (if_meets (bytes_eq name (codes "add_fun")) _ _ (add_meets (option_and_then text_in (one_in ts)))
    (if_meets (bytes_eq name (codes "map_doc")) _ _ (map_meets (option_and_then document_in (one_in ts)))
    (if_meets (bytes_eq name (codes "reduce")) _ _ (reduce_in_meets ts h)
    (if_meets (bytes_eq name (codes "rereduce")) _ _ (rereduce_in_meets ts h) tt))))

begun_meets : (name : Option (List ℕ)) (ts : Items) → items_depth ts ≤ 99 → Meets (begun_by name ts)
begun_meets None ts h = tt
begun_meets (Some name) ts h = named_meets name ts h

in_meets : (ts : Items) → items_depth ts ≤ 99 → Meets (command_in ts)
in_meets no_items h = tt
in_meets (item name ts) h = begun_meets (text_in name) ts (omega arith)

of_meets : (t : Json) → depth t ≤ depth_limit → IsReducible (command_of t)
of_meets (number n) h = tt
of_meets is_false h = tt
of_meets is_null h = tt
of_meets is_true h = tt
of_meets (object ms) h = tt
of_meets (array ts) h = in_meets ts (omega arith)
of_meets (string s) h = tt

read_meets : (r : Result Json TermFault) → ((t : Json) → r ≡ Ok t → depth t ≤ depth_limit) → IsReducible (command_read r)
read_meets (Ok t) h = of_meets t (h t refl)
read_meets (Err fault) h = tt

pub reducible : (line : List ℕ) → IsReducible (command line)
unfolding command reading
reducible line = read_meets (unless_unread (data_of line)) (read-depth line)
