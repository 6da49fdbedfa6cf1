use Rattle.std.proofs.Common.{◌≡◌, ◌-◌, []}
use Rattle.builtin_reduces.specs.SumReading.{numbers_from}
use Rattle.builtin_reduces.proofs.sum_bytes.read_each_number.Given as goal

-- what is read and what is left to read give the whole
abbrev pub invariant-loop-index : goal.invariant-loop-index
invariant-loop-index l = numbers_from [] l.count l.bytes ≡ numbers_from l.numbers.items (l.count - l._index) l.rest
