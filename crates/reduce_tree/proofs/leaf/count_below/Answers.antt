use Rattle.std.proofs.Common.{arith, ◌≡◌, sym, ◌∙◌}
use Rattle.std.specs.declared.cmp.Ordering.TheVariants.{Less}
use Rattle.std.proofs.lemmas.List.Elements.{All-more}
use Rattle.reduce_tree.proofs.Order.{less_from_not_ge}
use Rattle.reduce_tree.proofs.leaf.count_below.Goals as goal

pub loop-i-preserved : goal.loop-i-preserved
loop-i-preserved g c = All-more (λ x. g.T.Item.order x c.args.key.now ≡ Less) c.args.items.now c.loop-i.i c.index-items-i.result (omega arith) c.loop-i.invariant (rw (← c.index-items-i.is) (sym c.cmp_item.ensures ∙ less_from_not_ge _ (sym c.if-is_ge.false ∙ c.is_ge.ensures)))
