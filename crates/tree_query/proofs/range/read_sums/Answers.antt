use Rattle.std.proofs.Common.{◌≡◌, ◌++◌, ◌∷◌, ◌∙◌, ◌+◌, [], All, Contains, map, take, sym, ap, subst, arith}
use Rattle.std.proofs.lemmas.List.{map-append, take_more}
use Rattle.std.proofs.lemmas.List.Elements.{All-push}
use Rattle.std.proofs.lemmas.Result.{err_from_is_err_and}
use Rattle.tree_laws.specs.declared.node.Child.{Child}
use Rattle.tree_query.specs.Reaching.{IsUnreadAt, ReadFails}
use Rattle.tree_query.proofs.Sums.{err_as, read_err}
use Rattle.tree_query.proofs.range.read_sums.Goals as goal

pub returns-in_err-sum-clause-cause : goal.returns-in_err-sum-clause-cause
returns-in_err-sum-clause-cause g c =
    let m = g.M.Summer in
    let child = c.child-item.result in
    let p = err_from_is_err_and c.from_residual.result c.from_residual.ensures.1 in
    let inside : Contains c.args.children.now child = (c.loop-child.child-index, omega arith, sym c.child-item.is) in
    err_as (ReadFails m c.args.summer.now c.args.at c.args.children.now) c.from_residual.result c.in_err-sum.field-0.0 p.0 p.2 p.1
    (read_err m c.args.summer.now c.args.at c.args.children.now child _ inside (subst (λ bytes. IsUnreadAt m c.args.summer.now c.args.at bytes c.in_err-sum.field-0.0) c.as_slice.ensures c.in_err-sum.ensures.cause))

pub loop-child-preserved : goal.loop-child-preserved
loop-child-preserved g c =
    let cs = c.args.children.now in
    let n = c.loop-child.child-index in
    let child = c.child-item.result in
    let u = c.args.summer.now in
    let spelled = (g.M.Summer.meaning u).spelled in
    let sums = c.loop-child.sums.items in
    let sum = c.in_ok-sum.sum in
    let own : child.sum ≡ spelled sum = sym (c.in_ok-sum.ensures.spelled ∙ c.as_slice.ensures) in
    let grown : c.push_sum.new.sums.items ≡ sums ++ sum ∷ [] = c.in_ok-push_sum.ensures in
    let taken : take (n + 1) cs ≡ take n cs ++ child ∷ [] = take_more cs n child (omega arith) ∙ ap (λ (d : Child g.row.M-Unit.Denot). take n cs ++ d ∷ []) (sym c.child-item.is) in
    let all : map (λ (d : Child g.row.M-Unit.Denot). d.sum) (take (n + 1) cs) ≡ map spelled c.push_sum.new.sums.items =
    ap (map (λ (d : Child g.row.M-Unit.Denot). d.sum)) taken ∙ map-append (λ (d : Child g.row.M-Unit.Denot). d.sum) (take n cs) (child ∷ [])
    ∙ ap (λ t. t ++ child.sum ∷ []) c.loop-child.invariant.spelled ∙ ap (λ b. map spelled sums ++ b ∷ []) own ∙ sym (map-append spelled sums (sum ∷ [])) ∙ ap (map spelled) (sym grown) in
    record { spelled = all; fits = subst (All (g.M.Summer.fits u)) (sym grown) (All-push (g.M.Summer.fits u) sums sum c.loop-child.invariant.fits c.in_ok-sum.ensures.fits) }
