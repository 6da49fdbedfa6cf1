use Rattle.std.proofs.Common.{◌<◌, sym, subst, ◌∙◌}
use Rattle.tree_query.proofs.Order.{first_of_rest}
use Rattle.tree_query.proofs.range.cut.Goals as goal

pub returns-clause-inside : goal.returns-clause-inside
returns-clause-inside g c d ds e =
    let r = first_of_rest c.args.children.now c.count_within-at.result.0 d ds (sym c.split_at.ensures.back ∙ e) in
    subst (λ x. c.count_within-at.result.1 < x.count) r.1 (c.count_within-at.ensures.inside d r.0)
