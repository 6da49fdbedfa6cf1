use Rattle.std.proofs.Common.{◌≢◌, All, take}
use Rattle.std.specs.declared.cmp.Ordering.TheVariants.{Less}
use Rattle.reduce_tree.specs.Applied.{edit_key}
use Rattle.reduce_tree.proofs.batch.count_upto.Given as goal

abbrev pub invariant-loop-i : goal.invariant-loop-i
invariant-loop-i g l = All (λ e. g.T.Item.order l.last (edit_key e) ≢ Less) (take l.i l.edits)
