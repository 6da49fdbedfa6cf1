use Rattle.std.proofs.Common.{◌≡◌, ◌++◌, take, FitsSigned}
use Rattle.std.specs.Int.{w128}
use Rattle.std.specs.List.{AllByRecursion, flat_map}
use Rattle.builtin_reduces.specs.SumBytes.{i128_bytes}
use Rattle.builtin_reduces.proofs.sum_bytes.put_each_number.Given as goal

abbrev pub invariant-loop-number : goal.invariant-loop-number
invariant-loop-number l = record {
  bytes : l.out.items ≡ l.initial.out.items ++ flat_map i128_bytes (take l.number-index l.numbers);
  fit : AllByRecursion (FitsSigned w128) (take l.number-index l.numbers);
}
