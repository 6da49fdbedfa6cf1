use Rattle.std.proofs.Common.{◌<◌, ◌++◌, take, sym, ap, subst, ◌∙◌, arith}
use Rattle.std.proofs.lemmas.List.{take-append-drop}
use Rattle.tree_query.specs.Walking.{IsRest}
use Rattle.tree_query.proofs.Order.{first_of_rest}
use Rattle.tree_query.proofs.Walks.{some_rest}
use Rattle.tree_query.proofs.walk.rest_of.Goals as goal

pub returns : goal.returns
returns g c =
    let xs = c.args.list.items in
    let at = c.count_within-at.result.0 in
    let e = c.as_slice.ensures.value in
    let h = rw e at c.count_within-at.ensures in
    let r : IsRest xs c.args.n c.in_ok-rest.rest.items c.count_within-at.result.1 = record {
      front = take at xs;
      whole = sym (take-append-drop at xs) ∙ ap (λ t. take at xs ++ t) (sym c.in_ok-rest.ensures.tail);
      count = h.count;
      inside = λ d ds w. let r = first_of_rest xs at d ds (sym c.in_ok-rest.ensures.tail ∙ w) in subst (λ x. c.count_within-at.result.1 < x.count) r.1 (h.inside d r.0);
    } in
    let some = some_rest xs c.args.n c.in_ok-rest.rest.items c.count_within-at.result.1 r c.requires in
    record { rest = r; some = omega (arith, some) }
