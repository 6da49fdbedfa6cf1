use Rattle.std.proofs.Common.{◌≡◌, ◌-◌, ◌≤◌}
use Rattle.reduce_tree.specs.Built.{IsWhole, pushed}
use Rattle.tree_tests.proofs.pack_tests.build.Given as goal

abbrev pub invariant-loop-place : goal.invariant-loop-place
invariant-loop-place l = IsWhole l.builder × (pushed l.builder ≡ l.place) × (l.place ≤ l.end)

abbrev pub decreases-loop-place : goal.decreases-loop-place
decreases-loop-place l = l.end - l.place
