use Rattle.std.proofs.Common.{◌≡◌, ◌<◌, ◌∷◌, drop, length, get_or, arith, sym, subst, ◌∙◌}
use Rattle.std.specs.declared.cmp.Ordering.TheVariants.{Less}
use Rattle.reduce_tree.specs.Applied.{edit_key}
use Rattle.reduce_tree.proofs.Order.{first_of_rest}
use Rattle.reduce_tree.proofs.batch.share.Goals.{then-is_last, else-is_last}
use Rattle.reduce_tree.proofs.batch.share.Goals as goal

pub returns-clause-above : goal.returns-clause-above
returns-clause-above g c f gs e =
    let order = g.T.Item.order in
    let xs = c.args.edits.now in
    let d : drop c.if-is_last.at xs ≡ f ∷ gs = sym c.split_at.ensures.back ∙ e in
    let r = first_of_rest xs c.if-is_last.at f gs d in
    elim c.if-is_last.branch [
      | then-is_last w ↦ absurd (omega (arith, r.0, w.at-is))
      | else-is_last w ↦
          let s = subst (λ n. n < length xs → order c.args.child.now.last (edit_key (get_or xs n f)) ≡ Less) (sym w.at-is) (w.count_upto-at.ensures.stops f) in
          subst (λ x. order c.args.child.now.last (edit_key x) ≡ Less) r.1 (s r.0)
    ]
