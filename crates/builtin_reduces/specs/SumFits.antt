-- The values that a built-in reduce may give, within bounds.
use Rattle.std.specs.Prelude.{◌≡◌, ◌≢◌}
use Rattle.design_docs.specs.declared.design.Builtin.{Builtin}
use Rattle.design_docs.specs.declared.design.Builtin.TheVariants.{Sum, Count, Stats}
use Rattle.builtin_reduces.specs.declared.sum.BuiltinSum.{BuiltinSum}
use Rattle.builtin_reduces.specs.declared.sum.BuiltinSum.TheVariants as value
use Rattle.builtin_reduces.specs.SumBytes.{HasBytes}

-- this reduce gives values of this kind
abbrev pub IsUnder : Builtin → BuiltinSum → Type 0
IsUnder kind (value.Count n) = kind ≡ Count
IsUnder kind (value.Number z) = kind ≡ Sum
IsUnder kind (value.Numbers ns) = kind ≡ Sum
IsUnder kind (value.Stats s) = kind ≡ Stats
IsUnder kind value.Refused = kind ≢ Count
IsUnder kind value.Overflow = kind ≡ Stats

-- and the value is within bounds
pub record FitsUnder (kind : Builtin) (sum : BuiltinSum) : Type 0 where
  pub under : IsUnder kind sum
  pub bounds : HasBytes sum
