-- Why a query is refused: the first of these causes, in this order.
use Rattle.std.specs.Prelude.{◌≡◌, ◌⊎◌, ℕ, List, Bool, true, false, not, ◌&&◌, ◌||◌, nat_lt, codes, if◌then◌else◌, Option, Some, None, is_some, Result, Ok, Err, unwrap_or, option_and_then}
use Rattle.json_terms.specs.Json.{Json, is_false, is_true, Members, no_members, member}
use Rattle.json_terms.specs.Find.{member_of}
use Rattle.json_terms.specs.Kinds.{members_in}
use Rattle.query_args.specs.declared.query.Target.{Target}
use Rattle.query_args.specs.declared.query.Target.TheVariants.{AllDocs, View, Cursor}
use Rattle.query_args.specs.declared.fault.QueryFault.{QueryFault}
use Rattle.query_args.specs.declared.fault.QueryFault.TheVariants.{UnknownName, BadValue, ReduceOfMapOnly, GroupUnreduced, KeysNeedGroup, KeyAndKeys, CursorReduces, NoMemory}
use Rattle.query_args.specs.Parameters.{is_allowed, may_have, level_in}

-- the first of two faults
infixr 20 ◌or◌
abbrev pub ◌or◌ : Option QueryFault → Option QueryFault → Option QueryFault
None or next = next
Some fault or next = Some fault

-- the fault, where this holds
abbrev pub fault_where : Bool → QueryFault → Option QueryFault
fault_where true fault = Some fault
fault_where false fault = None

-- ---- parameter by parameter, in byte order of their names, which is the order of the members

-- the first name that isn't allowed
abbrev pub name_fault : Target → Members → Option QueryFault
name_fault target no_members = None
name_fault target (member name value rest) = if is_allowed target name then name_fault target rest else Some (UnknownName name)

-- the first name whose value isn't one that it may have
abbrev pub value_fault : Members → Option QueryFault
value_fault no_members = None
value_fault (member name value rest) = if may_have name value then value_fault rest else Some (BadValue name)

-- ---- several parameters together

-- whether a parameter is given
abbrev pub is_given : List ℕ → Json → Bool
is_given name query = is_some (member_of name query)

abbrev pub is_range_given : Json → Bool
is_range_given query = is_given (codes "startkey") query || is_given (codes "endkey") query

-- two of three
abbrev pub two_of : Bool → Bool → Bool → Bool
two_of a b c = (a && b) || ((a && c) || (b && c))

abbrev pub is_true_given : Option Json → Bool
is_true_given (Some is_true) = true
is_true_given other = false

abbrev pub is_false_given : Option Json → Bool
is_false_given (Some is_false) = true
is_false_given other = false

-- whether what is asked has a reduce
abbrev pub has_reduce : Target → Bool
has_reduce AllDocs = false
has_reduce (View reduces) = reduces
has_reduce (Cursor reduces) = reduces

abbrev pub is_cursor : Target → Bool
is_cursor AllDocs = false
is_cursor (View reduces) = false
is_cursor (Cursor reduces) = true

-- rows are reduced where there is a reduce, unless `reduce` is false
abbrev pub is_reduced : Target → Json → Bool
is_reduced target query = has_reduce target && not (is_false_given (member_of (codes "reduce") query))

-- rows are grouped by the whole key where `group` is true
abbrev pub is_whole : Json → Bool
is_whole query = is_true_given (member_of (codes "group") query)

-- the level of the groups, which is 0 where none is given
abbrev pub level_of : Json → ℕ
level_of query = unwrap_or (option_and_then level_in (member_of (codes "group_level") query)) 0

abbrev pub is_grouped : Json → Bool
is_grouped query = is_whole query || nat_lt 0 (level_of query)

abbrev pub key_fault : Json → Option QueryFault
key_fault query = fault_where (two_of (is_given (codes "key") query) (is_given (codes "keys") query) (is_range_given query)) KeyAndKeys

abbrev pub reduce_fault : Target → Json → Option QueryFault
reduce_fault target query = fault_where (is_true_given (member_of (codes "reduce") query) && not (has_reduce target)) ReduceOfMapOnly

abbrev pub group_fault : Target → Json → Option QueryFault
group_fault target query = fault_where (is_grouped query && not (is_reduced target query)) GroupUnreduced

abbrev pub keys_fault : Target → Json → Option QueryFault
keys_fault target query = fault_where (is_reduced target query && (is_given (codes "keys") query && not (is_whole query))) KeysNeedGroup

abbrev pub cursor_fault : Target → Json → Option QueryFault
cursor_fault target query = fault_where (is_cursor target && is_reduced target query) CursorReduces

-- ---- the query

abbrev pub parameters_of : Json → Members
parameters_of query = unwrap_or (members_in query) no_members

abbrev pub query_fault : Target → Json → Option QueryFault
query_fault target query =
    name_fault target (parameters_of query) or value_fault (parameters_of query) or key_fault query or reduce_fault target query
    or group_fault target query or keys_fault target query or cursor_fault target query

-- what is found where this fault stands, or none: the fault, unless memory runs out
abbrev pub Finds : {T : Type 0} → Option QueryFault → Result T QueryFault → Type 0
Finds fault (Ok value) = fault ≡ None
Finds fault (Err found) = (fault ≡ Some found) ⊎ (found ≡ NoMemory)
