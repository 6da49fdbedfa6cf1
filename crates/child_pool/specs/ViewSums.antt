-- The values of rows by the reduces of views: their bytes, which of them fit a reduce, and their texts.
use Rattle.std.specs.Prelude.{◌≡◌, ℕ, List, [], map}
use Rattle.json_terms.specs.Text.{text_of}
use Rattle.term_codec.specs.Spelling.{spelling}
use Rattle.view_ports.specs.Functions.{IsWithinBounds}
use Rattle.design_docs.specs.declared.design.Builtin.{Builtin as Kind}
use Rattle.design_docs.specs.declared.design.Reduce.{Reduce}
use Rattle.design_docs.specs.declared.design.Reduce.TheVariants as reduce
use Rattle.builtin_reduces.specs.declared.sum.BuiltinSum.{BuiltinSum}
use Rattle.builtin_reduces.specs.Joined.{IsJoined}
use Rattle.builtin_reduces.specs.SumBytes.{sum_bytes}
use Rattle.builtin_reduces.specs.SumFits.{FitsUnder}
use Rattle.builtin_reduces.specs.Text.{sum_text}
use Rattle.child_pool.specs.declared.view_sum.ViewSum.{ViewSum}
use Rattle.child_pool.specs.declared.view_sum.ViewSum.TheVariants as value

abbrev pub view_sum_bytes : ViewSum → List ℕ
view_sum_bytes (value.Builtin sum) = sum_bytes sum
view_sum_bytes (value.Child term) = spelling term
view_sum_bytes value.Nothing = []

-- a view with this reduce may have this value
abbrev pub FitsView : Reduce → ViewSum → Type 0
FitsView (reduce.Builtin kind) (value.Builtin sum) = FitsUnder kind sum
FitsView (reduce.Builtin kind) (value.Child term) = ⊥
FitsView (reduce.Builtin kind) value.Nothing = ⊥
FitsView (reduce.Source source) (value.Builtin sum) = ⊥
FitsView (reduce.Source source) (value.Child term) = IsWithinBounds term
FitsView (reduce.Source source) value.Nothing = ⊥
FitsView reduce.Absent (value.Builtin sum) = ⊥
FitsView reduce.Absent (value.Child term) = ⊥
FitsView reduce.Absent value.Nothing = Unit {0}

abbrev pub view_sum_text : ViewSum → List ℕ
view_sum_text (value.Builtin sum) = sum_text sum
view_sum_text (value.Child term) = text_of term
view_sum_text value.Nothing = []

-- these are values of a built-in reduce, and it joins them so
pub record JoinsBuiltins (kind : Kind) (parts : List ViewSum) (sum : BuiltinSum) : Type 0 where
  pub sums : List BuiltinSum
  pub are : map value.Builtin sums ≡ parts
  pub joined : IsJoined kind sums sum
