use Rattle.std.proofs.Common.{◌≡◌, false, sym, subst, ◌∙◌}
use Rattle.tree_query.proofs.Order.{first_of_rest}
use Rattle.tree_query.proofs.count.pass.Goals as goal

pub returns-clause-stops : goal.returns-clause-stops
returns-clause-stops g c d ds e =
    let xs = c.args.children.now in
    let at = c.count_passed-at.result in
    let r = first_of_rest xs at d ds (sym c.split_at.ensures.back ∙ e) in
    subst (λ x. g.B.Bound.front c.args.bound.now x.last ≡ false) r.1 (c.count_passed-at.ensures.stops d r.0)
