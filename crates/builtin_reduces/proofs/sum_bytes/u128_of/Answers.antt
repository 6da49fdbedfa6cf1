use Rattle.std.proofs.Common.{rules}
use Rattle.builtin_reduces.specs.SumBytes.{u128_bytes}
use Rattle.builtin_reduces.proofs.WideBack.{le_bytes_16}
use Rattle.builtin_reduces.proofs.sum_bytes.u128_of.Goals as goal

pub returns : goal.returns
unfolding u128_bytes
returns c = le_bytes_16 c.args.bytes _ (search rules) (search rules) c.from_le_bytes.ensures
