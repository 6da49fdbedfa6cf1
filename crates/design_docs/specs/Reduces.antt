-- How the rows of a view are reduced.
use Rattle.std.specs.Prelude.{ℕ, List, codes, bytes_eq, if◌then◌else◌, Option, Some, None, option_and_then}
use Rattle.json_terms.specs.Json.{Json}
use Rattle.json_terms.specs.Find.{member_of}
use Rattle.json_terms.specs.Kinds.{text_in}
use Rattle.design_docs.specs.declared.design.Builtin.{Builtin}
use Rattle.design_docs.specs.declared.design.Builtin.TheVariants.{Sum, Count, Stats}
use Rattle.design_docs.specs.declared.design.Reduce.{Reduce}
use Rattle.design_docs.specs.declared.design.Reduce.TheVariants as reduce

-- the built-in reduce with this name
abbrev pub builtin_of : List ℕ → Option Builtin
builtin_of name =
    if bytes_eq name (codes "_sum") then Some Sum
    else if bytes_eq name (codes "_count") then Some Count
    else if bytes_eq name (codes "_stats") then Some Stats
    else None

-- a built-in one, or else the source of one that a query server runs
abbrev pub builtin_or_source : Option Builtin → List ℕ → Reduce
builtin_or_source (Some builtin) source = reduce.Builtin builtin
builtin_or_source None source = reduce.Source source

abbrev pub reduce_in : Option (List ℕ) → Reduce
reduce_in None = reduce.Absent
reduce_in (Some source) = builtin_or_source (builtin_of source) source

-- the reduce of a view
abbrev pub reduce_of : Json → Reduce
reduce_of view = reduce_in (option_and_then text_in (member_of (codes "reduce") view))
