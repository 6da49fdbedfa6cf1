use Rattle.std.proofs.Common.{◌≡◌, All, take, true}
use Rattle.tree_query.proofs.count.count_passed.Given as goal

abbrev pub invariant-loop-i : goal.invariant-loop-i
invariant-loop-i g l = All (λ c. g.B.Bound.front l.bound c.last ≡ true) (take l.i l.children)
