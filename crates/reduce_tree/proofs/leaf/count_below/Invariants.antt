use Rattle.std.proofs.Common.{◌≡◌, All, take}
use Rattle.std.specs.declared.cmp.Ordering.TheVariants.{Less}
use Rattle.reduce_tree.proofs.leaf.count_below.Given as goal

abbrev pub invariant-loop-i : goal.invariant-loop-i
invariant-loop-i g l = All (λ x. g.T.Item.order x l.key ≡ Less) (take l.i l.items)
