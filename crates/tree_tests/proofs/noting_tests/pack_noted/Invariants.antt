use Rattle.std.proofs.Common.{◌≡◌, ◌-◌, ◌≤◌}
use Rattle.reduce_tree.specs.Built.{IsWhole, pushed}
use Rattle.tree_tests.proofs.Asked.{Asks}
use Rattle.tree_tests.proofs.noting_tests.pack_noted.Given as goal

abbrev pub invariant-loop-place : goal.invariant-loop-place
invariant-loop-place l = record {
  whole : IsWhole l.builder;
  pushed : pushed l.builder ≡ l.place;
  within : l.place ≤ l.end;
  asks : Asks l.fn.store l.store l.fn.summer l.summer;
}

abbrev pub decreases-loop-place : goal.decreases-loop-place
decreases-loop-place l = l.end - l.place
