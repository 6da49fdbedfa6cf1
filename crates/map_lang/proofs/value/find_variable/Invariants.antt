-- The search goes on in what is left.
use Rattle.std.proofs.Common.{◌≡◌, map, drop}
use Rattle.map_lang.specs.Meaning.{value_of_name}
use Rattle.map_lang.specs.Bound.{scope_of, variable_of}
use Rattle.map_lang.proofs.value.find_variable.Given as goal

abbrev pub invariant-loop-variable : goal.invariant-loop-variable
invariant-loop-variable l = value_of_name l.name (scope_of l.document l.bound) ≡ value_of_name l.name (map variable_of (drop l.variable-index l.bound))
