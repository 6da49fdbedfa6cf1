use Rattle.std.proofs.Common.{◌≡◌, All, take, true}
use Rattle.tree_query.proofs.count.count_front.Given as goal

abbrev pub invariant-loop-i : goal.invariant-loop-i
invariant-loop-i g l = All (λ x. g.B.Bound.front l.bound x ≡ true) (take l.i l.items)
