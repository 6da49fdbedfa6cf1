use Rattle.std.proofs.Common.{◌≡◌, take}
use Rattle.builtin_reduces.specs.Added.{near_added}
use Rattle.builtin_reduces.proofs.sum.add_places.Given as goal

abbrev pub invariant-loop-place : goal.invariant-loop-place
invariant-loop-place l = l.sums.items ≡ near_added l.initial.sums.items (take l.place l.numbers)
