use Rattle.std.proofs.Common.{◌≡◌, take, ◌+◌}
use Rattle.std.specs.List.{sum_by}
use Rattle.tree_query.proofs.range.count_within.Given as goal

abbrev pub invariant-loop-i : goal.invariant-loop-i
invariant-loop-i g l = sum_by (λ c. c.count) (take l.i l.children) + l.left ≡ l.n
