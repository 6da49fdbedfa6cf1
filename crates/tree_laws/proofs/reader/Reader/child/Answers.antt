use Rattle.std.proofs.lemmas.Result.{err_from_is_err_and}
use Rattle.tree_laws.specs.Nodes.{FitsChild, FitsItem, IsNumber, IsSized, child_entry, item_entry, number_bytes, sized}
use Rattle.tree_laws.proofs.Taking.{no_count, no_last, no_sum, passed_on}
use Rattle.tree_laws.proofs.reader.Reader.child.Goals as goal

pub returns-in_err-count : goal.returns-in_err-count
returns-in_err-count g c =
    let fits = g.T.Item.fits in
    let spelled = g.T.Item.spelled in
    let p = err_from_is_err_and c.from_residual-in_err-count.result c.from_residual-in_err-count.ensures.1 in
    passed_on IsNumber number_bytes (FitsChild fits spelled) (child_entry spelled) c.number.new.self c.number-2.new.self c.args.self.now c.number-2.new.self c.in_err-count.field-0.0 p.0 c.from_residual-in_err-count.result p.2 p.1 c.in_err-count.ensures
    (no_count fits spelled g.met.T.Item.one_spelling c.args.self.now c.number.new.self c.in_ok-at.at c.in_ok-at.ensures.0 c.in_ok-at.ensures.1)

pub returns-in_err-last : goal.returns-in_err-last
returns-in_err-last g c =
    let fits = g.T.Item.fits in
    let spelled = g.T.Item.spelled in
    let p = err_from_is_err_and c.from_residual-in_err-last.result c.from_residual-in_err-last.ensures.1 in
    passed_on (FitsItem fits spelled) (item_entry spelled) (FitsChild fits spelled) (child_entry spelled) c.number-2.new.self c.item.new.self c.args.self.now c.item.new.self c.in_err-last.field-0.0 p.0 c.from_residual-in_err-last.result p.2 p.1 c.in_err-last.ensures
    (no_last fits spelled g.met.T.Item.one_spelling c.args.self.now c.number.new.self c.in_ok-at.at c.in_ok-at.ensures.0 c.in_ok-at.ensures.1 c.number-2.new.self c.in_ok-count.count c.in_ok-count.ensures.0 c.in_ok-count.ensures.1)

pub returns-in_err-sum : goal.returns-in_err-sum
returns-in_err-sum g c =
    let fits = g.T.Item.fits in
    let spelled = g.T.Item.spelled in
    let p = err_from_is_err_and c.from_residual-in_err-sum.result c.from_residual-in_err-sum.ensures.1 in
    passed_on IsSized sized (FitsChild fits spelled) (child_entry spelled) c.item.new.self c.sum.new.self c.args.self.now c.sum.new.self c.in_err-sum.field-0.0 p.0 c.from_residual-in_err-sum.result p.2 p.1 c.in_err-sum.ensures
    (no_sum fits spelled g.met.T.Item.one_spelling c.args.self.now c.number.new.self c.in_ok-at.at c.in_ok-at.ensures.0 c.in_ok-at.ensures.1 c.number-2.new.self c.in_ok-count.count c.in_ok-count.ensures.0 c.in_ok-count.ensures.1
    c.item.new.self c.in_ok-last.last c.in_ok-last.ensures.0 c.in_ok-last.ensures.1)
