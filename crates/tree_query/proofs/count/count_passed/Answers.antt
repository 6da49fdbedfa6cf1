use Rattle.std.proofs.Common.{◌≡◌, ◌∙◌, true, sym, subst, arith}
use Rattle.std.proofs.lemmas.List.Elements.{All-more}
use Rattle.tree_laws.specs.declared.node.Child.{Child}
use Rattle.tree_query.proofs.count.count_passed.Goals as goal

pub loop-i-preserved : goal.loop-i-preserved
loop-i-preserved g c =
    let p = g.B.Bound.front c.args.bound.now in
    let passes = subst (λ (x : Child g.row.B-Unit.Denot). p x.last ≡ true) c.index-children-i.is (sym c.before-in-loop-i.ensures ∙ c.if-not-before.false) in
    All-more (λ (x : Child g.row.B-Unit.Denot). p x.last ≡ true) c.args.children.now c.loop-i.i c.index-children-i.result (omega arith) c.loop-i.invariant passes
