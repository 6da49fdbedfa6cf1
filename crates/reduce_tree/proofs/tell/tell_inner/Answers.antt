use Rattle.std.proofs.Common.{◌≡◌, ◌∙◌, ◌-◌, ◌≤◌, ◌^◌, ◌++◌, ◌∷◌, [], suc, sym, ap, length, map, arith}
use Rattle.tree_laws.specs.SummerTrees.{Stands}
use Rattle.tree_laws.proofs.SummerTrees.{counts_add}
use Rattle.reduce_tree.proofs.Nodes.{children_last}
use Rattle.reduce_tree.proofs.Summaries.{inner_summary}
use Rattle.reduce_tree.proofs.Calls.{summed_none}
use Rattle.std.proofs.lemmas.Result.{err_from_is_err_and}
use Rattle.reduce_tree.proofs.Since.{sums_spelled}
use Rattle.reduce_tree.proofs.Had.{sum_given}
use Rattle.reduce_tree.proofs.tell.tell_inner.Goals as goal

pub returns-clause-tells : goal.returns-clause-tells
returns-clause-tells g c first there level items goes fit has =
    let i = g.M.Unit.Item in
    let m = g.M.Summer in
    let P = Stands i m first there level in
    let cs = c.args.children.now in
    let counts = counts_add i m first P cs items has in
    let few : length items ≤ 2 ^ 63 = omega (arith, counts, c.requires.few) in
    let place : suc (length cs - 1) ≡ length cs = omega arith in
    let last = children_last i m first there P cs (length cs - 1) c.index-children-children.result items place has in
    let later = g.met.M.Summer.are_steps.both first c.args.summer.now c.join.new.self goes c.in-Ok.ensures.goes in
    let sums : map (λ child. child.sum) cs ≡ map (m.meaning c.args.summer.now).spelled c.as_slice.result.now =
    c.in_ok-sums.ensures.spelled ∙ ap (map (m.meaning c.args.summer.now).spelled) (sym c.as_slice.ensures.value) in
    record {
      counted = c.count_items.ensures ∙ counts;
      front = last.0;
      ended = last.1 ∙ ap (λ t. last.0 ++ t ∷ []) (sym c.in_ok-last.ensures);
      summed = inner_summary i m first g.met.M.Summer.keeps (g.met.M.Summer.one_spelling first) P c.args.summer.now c.join.new.self cs items c.as_slice.result.now c.in-Ok.sum c.in_ok-sum.sum
          goes later c.requires.some few fit has sums (rw c.as_slice.ensures.value c.in_ok-sums.ensures.fits) c.in-Ok.ensures.value c.in_ok-sum.ensures.bytes c.in_ok-sum.ensures.fits;
    }

pub returns-in_err-sums-clause-ran : goal.returns-in_err-sums-clause-ran
returns-in_err-sums-clause-ran g c =
    let p = err_from_is_err_and c.from_residual.result c.from_residual.ensures.1 in
    summed_none g.M.Summer c.args.summer.now c.args.summer.now c.from_residual.result p.0 p.2 p.1 (g.met.M.Summer.are_steps.none c.args.summer.now)

pub returns-in_err-sum-clause-ran : goal.returns-in_err-sum-clause-ran
returns-in_err-sum-clause-ran g c =
    let p = err_from_is_err_and c.from_residual-in_err-sum.result c.from_residual-in_err-sum.ensures.1 in
    summed_none g.M.Summer c.args.summer.now c.join.new.self c.from_residual-in_err-sum.result p.0 p.2 p.1 c.in-Ok.ensures.goes

pub returns-in_err-last-clause-ran : goal.returns-in_err-last-clause-ran
returns-in_err-last-clause-ran g c =
    let p = err_from_is_err_and c.from_residual-in_err-last.result c.from_residual-in_err-last.ensures.1 in
    summed_none g.M.Summer c.args.summer.now c.join.new.self c.from_residual-in_err-last.result p.0 p.2 p.1 c.in-Ok.ensures.goes

pub returns-clause-summed : goal.returns-clause-summed
returns-clause-summed g c = sums_spelled g.M.Unit.Item g.M.Summer c.args.summer.now c.args.children.now c.in_ok-sums.sums.items c.in_ok-sums.ensures.spelled c.in_ok-sums.ensures.fits

pub returns-clause-gave : goal.returns-clause-gave
returns-clause-gave g c = sum_given g.M.Summer g.met.M.Summer.keeps c.args.summer.now c.join.new.self c.in-Ok.ensures.goes c.in-Ok.sum c.in_ok-sum.sum c.in-Ok.ensures.gave c.in_ok-sum.ensures.bytes
