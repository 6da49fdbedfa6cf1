-- What a built-in reduce gives for each list of rows, and its bytes.
use Rattle.std.specs.Prelude.{◌≡◌}
use Rattle.json_terms.specs.declared.term.Row.{Row}
use Rattle.design_docs.specs.declared.design.Builtin.{Builtin}
use Rattle.design_docs.specs.declared.design.Builtin.TheVariants.{Sum}
use Rattle.tree_laws.specs.Meaning.{Meaning}
use Rattle.builtin_reduces.specs.declared.sum.BuiltinSum.{BuiltinSum}
use Rattle.builtin_reduces.specs.declared.summer.BuiltinSummer.{BuiltinSummer}
use Rattle.builtin_reduces.specs.Seen.{values}
use Rattle.builtin_reduces.specs.SumBytes.{sum_bytes}
use Rattle.builtin_reduces.specs.Values.{value_of}

abbrev pub builtin_meaning : Builtin → Meaning Row BuiltinSum
builtin_meaning kind = record { value = λ rows. value_of kind (values rows); spelled = sum_bytes }

-- the reduce of a summer
abbrev pub kind_of : BuiltinSummer → Builtin
kind_of summer = summer.kind

-- a call fails under `_sum` alone, and leaves the summer as it was
abbrev pub FailsSumming : BuiltinSummer → BuiltinSummer → Type 0
FailsSumming before after = (after ≡ before) × (kind_of before ≡ Sum)
