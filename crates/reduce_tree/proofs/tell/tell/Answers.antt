use Rattle.std.proofs.Common.{◌≡◌, ◌∙◌, ◌≤◌, ◌^◌, length, ap, sym, subst, arith, All}
use Rattle.tree_laws.specs.Fitting.{item_count}
use Rattle.tree_laws.proofs.SummerTrees.{items_fit}
use Rattle.reduce_tree.specs.Rows.{Tells}
use Rattle.reduce_tree.proofs.Nodes.{has_leaf, has_inner}
use Rattle.reduce_tree.specs.Pieces.{IsSummed, IsSumSpelled}
use Rattle.tree_laws.specs.declared.node.Child.{Child}
use Rattle.reduce_tree.proofs.tell.tell.Goals as goal

pub returns-in_ok-told-in-Leaf-clause-tells : goal.returns-in_ok-told-in-Leaf-clause-tells
returns-in_ok-told-in-Leaf-clause-tells g c first there level items goes fits has =
    let i = g.M.Unit.Item in
    let m = g.M.Summer in
    let told = c.in_ok-told-in-Leaf.told in
    let e : items ≡ c.as_slice.result.now = has_leaf i m first there level c.in-Leaf.items items (rw c.in-Leaf.is at has) ∙ sym c.as_slice.ensures in
    let n : item_count c.args.node.now ≡ length c.in-Leaf.items = ap item_count c.in-Leaf.is in
    let few : length c.as_slice.result.now ≤ 2 ^ 63 = omega (arith, n, c.requires.few, ap length c.as_slice.ensures) in
    subst (λ xs. Tells i m first told.count told.last told.sum xs) (sym e) (c.in_ok-told-in-Leaf.ensures.tells first goes few)

pub returns-in_ok-told-in-Inner-clause-tells : goal.returns-in_ok-told-in-Inner-clause-tells
returns-in_ok-told-in-Inner-clause-tells g c first there level items goes fits has =
    let i = g.M.Unit.Item in
    let m = g.M.Summer in
    let fit = items_fit i m first there level c.args.node.now items fits has in
    let k = has_inner i m first there level c.in-Inner.children items (rw c.in-Inner.is at has) in
    c.in_ok-told-in-Inner.ensures.tells first there k.0 items goes fit (rw c.as_slice-in-Inner.ensures k.2)

pub returns-in_ok-told-in-Leaf-clause-summed : goal.returns-in_ok-told-in-Leaf-clause-summed
returns-in_ok-told-in-Leaf-clause-summed g c =
    let m = g.M.Summer in let u = c.args.summer.now in let v = c.tell_leaf.new.summer in
    let k = c.in_ok-told-in-Leaf.ensures in
    subst (λ n. IsSummed g.M.Unit.Item m u v n) (sym c.in-Leaf.is) (k.usable, subst (m.asked u v) c.as_slice.ensures k.asked)

pub returns-in_ok-told-in-Inner-clause-summed : goal.returns-in_ok-told-in-Inner-clause-summed
returns-in_ok-told-in-Inner-clause-summed g c =
    subst (λ n. IsSummed g.M.Unit.Item g.M.Summer c.args.summer.now c.tell_inner.new.summer n) (sym c.in-Inner.is) (subst (λ cs. All (λ (d : Child _). IsSumSpelled g.M.Unit.Item g.M.Summer c.args.summer.now d.sum) cs) c.as_slice-in-Inner.ensures c.in_ok-told-in-Inner.ensures.summed)
