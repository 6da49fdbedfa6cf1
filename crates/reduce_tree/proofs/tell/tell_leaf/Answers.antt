use Rattle.std.proofs.lemmas.Result.{err_from_is_err_and}
use Rattle.reduce_tree.proofs.Calls.{summed_none}
use Rattle.reduce_tree.proofs.Had.{sum_given}
use Rattle.reduce_tree.proofs.tell.tell_leaf.Goals as goal

pub returns-in_err-sum-clause-ran : goal.returns-in_err-sum-clause-ran
returns-in_err-sum-clause-ran g c =
    let p = err_from_is_err_and c.from_residual.result c.from_residual.ensures.1 in
    summed_none g.M.Summer c.args.summer.now c.leaf.new.self c.from_residual.result p.0 p.2 p.1 c.in-Ok.ensures.goes

pub returns-in_err-last-clause-ran : goal.returns-in_err-last-clause-ran
returns-in_err-last-clause-ran g c =
    let p = err_from_is_err_and c.from_residual-in_err-last.result c.from_residual-in_err-last.ensures.1 in
    summed_none g.M.Summer c.args.summer.now c.leaf.new.self c.from_residual-in_err-last.result p.0 p.2 p.1 c.in-Ok.ensures.goes

pub returns-clause-gave : goal.returns-clause-gave
returns-clause-gave g c = sum_given g.M.Summer g.met.M.Summer.keeps c.args.summer.now c.leaf.new.self c.in-Ok.ensures.goes c.in-Ok.sum c.in_ok-sum.sum c.in-Ok.ensures.gave c.in_ok-sum.ensures.bytes
