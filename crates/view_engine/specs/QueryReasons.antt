-- Why a query is refused, as a reply says it.
use Rattle.std.specs.Prelude.{ℕ, List, ◌++◌, codes}
use Rattle.query_args.specs.declared.fault.QueryFault.{QueryFault}
use Rattle.query_args.specs.declared.fault.QueryFault.TheVariants.{UnknownName, BadValue, ReduceOfMapOnly, GroupUnreduced, KeysNeedGroup, KeyAndKeys, CursorReduces, NoMemory}

-- want of memory is no fault of a query
abbrev pub query_reason : QueryFault → List ℕ
query_reason (UnknownName name) = codes "unknown parameter " ++ name
query_reason (BadValue name) = codes "bad value of " ++ name
query_reason ReduceOfMapOnly = codes "reduce of a map-only view"
query_reason GroupUnreduced = codes "grouping without reduce"
query_reason KeysNeedGroup = codes "keys need group=true"
query_reason KeyAndKeys = codes "keys, key and range together"
query_reason CursorReduces = codes "cursor of a reduced query"
query_reason NoMemory = codes "out of memory"
