use Rattle.std.proofs.Common.{◌≢◌, arith, ◌∙◌, ap}
use Rattle.std.specs.Ordering.{is_lt}
use Rattle.std.specs.declared.cmp.Ordering.TheVariants.{Less}
use Rattle.std.proofs.lemmas.List.Elements.{All-more}
use Rattle.reduce_tree.specs.Applied.{edit_key}
use Rattle.reduce_tree.proofs.Order.{not_less}
use Rattle.reduce_tree.proofs.batch.count_upto.Goals as goal

pub loop-i-preserved : goal.loop-i-preserved
loop-i-preserved g c = All-more (λ e. g.T.Item.order c.args.last.now (edit_key e) ≢ Less) c.args.edits.now c.loop-i.i c.index-edits-i.result (omega arith) c.loop-i.invariant
    (rw (← c.index-edits-i.is) (rw (← c.key.ensures) (not_less _ c.is_lt.result (c.is_lt.ensures ∙ ap is_lt c.cmp_item.ensures) c.if-is_lt.false)))
