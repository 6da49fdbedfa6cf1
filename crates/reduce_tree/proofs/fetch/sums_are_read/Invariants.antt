use Rattle.tree_laws.specs.SummerTrees.{IsUnread}
use Rattle.std.proofs.Common.{take, All}
use Rattle.reduce_tree.proofs.fetch.sums_are_read.Given as goal

abbrev pub invariant-loop-child : goal.invariant-loop-child
invariant-loop-child g l = All (λ child. IsUnread g.M.Unit.Item g.M.Summer l.summer child.sum → ⊥) (take l.child-index l.children)
