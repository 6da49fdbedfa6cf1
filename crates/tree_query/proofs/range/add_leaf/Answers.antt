use Rattle.std.proofs.Common.{◌≡◌, ◌++◌, ◌∙◌, [], All, ap, length, subst, sym}
use Rattle.std.proofs.lemmas.List.{append-nil}
use Rattle.std.proofs.lemmas.List.Elements.{All-push}
use Rattle.std.proofs.lemmas.Result.{err_from_is_err_and}
use Rattle.tree_laws.specs.declared.tree.TreeFault.TheVariants as tree_fault
use Rattle.tree_query.specs.Ranges.{Gathered}
use Rattle.tree_query.proofs.Lists.{none_from_test, none_long, some_from_test}
use Rattle.tree_query.proofs.Ranges.{gathered_leaf}
use Rattle.tree_query.proofs.Sums.{summed_err}
use Rattle.tree_query.proofs.range.add_leaf.Goals as goal

pub returns-then-is_empty-clause-items : goal.returns-then-is_empty-clause-items
returns-then-is_empty-clause-items g c first done goes h =
    let xs = c.args.items.now in
    let none : xs ≡ [] = none_long xs (none_from_test (length xs) c.is_empty.result c.is_empty.ensures c.if-is_empty.true) in
    subst (Gathered g.M.Summer first c.args.parts.now.items) (sym (ap (λ t. done ++ t) none ∙ append-nil done)) h

pub returns-then-is_empty-clause-ran : goal.returns-then-is_empty-clause-ran
returns-then-is_empty-clause-ran g c = g.met.M.Summer.are_steps.none c.args.summer.now

pub returns-clause-items : goal.returns-clause-items
returns-clause-items g c first done goes h =
    let xs = c.args.items.now in
    let some = some_from_test (length xs) c.is_empty.result c.is_empty.ensures c.if-is_empty.false in
    gathered_leaf g.M.Unit.Item g.M.Summer first g.met.M.Summer.keeps c.args.summer.now c.args.parts.now.items c.push_sum.new.sums.items c.in-Ok.sum done xs goes some c.requires c.in-Ok.ensures.value c.in_ok-push_sum.ensures h

pub returns-in_err-push_sum-clause-ran : goal.returns-in_err-push_sum-clause-ran
returns-in_err-push_sum-clause-ran g c =
    let q = c.from_residual in
    let p = err_from_is_err_and q.result q.ensures.1 in
    summed_err g.M.Summer _ c.args.summer.now c.leaf.new.self q.result tree_fault.NoMemory p.0 p.2 p.1 c.in-Ok.ensures.goes

pub returns-clause-fits : goal.returns-clause-fits
returns-clause-fits g c first goes h =
    let fits = g.M.Summer.fits first in
    let own = (g.met.M.Summer.keeps.fits first c.args.summer.now c.in-Ok.sum goes).1 c.in-Ok.ensures.fits in
    subst (All fits) (sym c.in_ok-push_sum.ensures) (All-push fits c.args.parts.now.items c.in-Ok.sum h own)
