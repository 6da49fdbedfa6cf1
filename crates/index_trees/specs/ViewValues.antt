-- The values of a view's rows as what the summaries of its tree are spelled from.
use Rattle.std.specs.Prelude.{◌≡◌, ℕ, List, Option, Some, None}
use Rattle.json_terms.specs.declared.term.Row.{Row}
use Rattle.design_docs.specs.declared.design.Reduce.{Reduce}
use Rattle.design_docs.specs.declared.design.Reduce.TheVariants as reduce
use Rattle.view_ports.specs.declared.servers.Servers.{Ghosts as Servers}
use Rattle.view_ports.specs.Functions.{Functions}
use Rattle.tree_laws.specs.Meaning.{Values}
use Rattle.builtin_reduces.specs.Seen.{values}
use Rattle.builtin_reduces.specs.Values.{value_of}
use Rattle.child_pool.specs.declared.reduce_slot.ReduceSlot.{ReduceSlot}
use Rattle.child_pool.specs.declared.summers.Summers.{Summers}
use Rattle.child_pool.specs.declared.view_sum.ViewSum.{ViewSum}
use Rattle.child_pool.specs.declared.view_sum.ViewSum.TheVariants as value
use Rattle.child_pool.specs.Summers.{IsHonestTalk, functions_for, view_value}
use Rattle.child_pool.specs.ViewSums.{FitsView, view_sum_bytes}

-- The value of rows by a reduce and the functions of a query server. Where these aren't known nothing is said of a reduce that it runs.
abbrev pub value_by : Option Functions → Reduce → List Row → ViewSum
value_by (Some functions) reduce rows = view_value functions reduce rows
value_by None reduce.Absent rows = value.Nothing
value_by None (reduce.Builtin kind) rows = value.Builtin (value_of kind (values rows))
value_by None (reduce.Source source) rows = value.Nothing

-- the value of rows is known
abbrev pub IsKnownBy : Option Functions → Reduce → Type 0
IsKnownBy functions reduce.Absent = Unit {0}
IsKnownBy functions (reduce.Builtin kind) = Unit {0}
IsKnownBy (Some functions) (reduce.Source source) = Unit {0}
IsKnownBy None (reduce.Source source) = ⊥

-- each summary spells a value that the reduce may have, and where the value of its rows is known that one
abbrev pub view_values : Option Functions → Reduce → Values Row ViewSum
view_values functions reduce = record {
  meaning = record { value = value_by functions reduce; spelled = view_sum_bytes };
  fits = FitsView reduce;
  lawful = IsKnownBy functions reduce;
}

module _ {C : Type 0} (s : Servers C) where
  -- the functions, where they are known, are those of the language's path, which is honest, by a talk that may go on
  abbrev pub AreFunctionsOf : List ℕ → ReduceSlot C → Option Functions → Type 0
  AreFunctionsOf language slot (Some functions) = IsHonestTalk s language slot × (functions_for s language slot ≡ functions)
  AreFunctionsOf language slot None = Unit {0}

  -- the same of the language of the design whose views are summed
  abbrev pub SumsBy : Summers C → Option Functions → Type 0
  SumsBy summers functions = AreFunctionsOf summers.design.now.language summers.slot functions
