use Rattle.tree_laws.specs.SummerTrees.{IsUnread}
use Rattle.std.proofs.Common.{All, refl, subst, sym, arith}
use Rattle.std.proofs.lemmas.List.{take_all}
use Rattle.std.proofs.lemmas.List.Elements.{All-more}
use Rattle.tree_laws.specs.declared.node.Child.{Child}
use Rattle.reduce_tree.proofs.fetch.sums_are_read.Goals as goal

pub returns-then-bad-clause-bad : goal.returns-then-bad-clause-bad
returns-then-bad-clause-bad g c e = record {
  children = c.args.children.now;
  inner = refl;
  child = c.child-item.result;
  inside = (c.loop-child.child-index, omega arith, sym c.child-item.is);
  unread = let says = rw c.as_slice.ensures at c.in_ok-bad.ensures.bad in says c.if-bad.true;
}

pub loop-child-preserved : goal.loop-child-preserved
loop-child-preserved g c =
    let P = λ (child : Child g.row.M-Unit.Denot). IsUnread g.M.Unit.Item g.M.Summer c.args.summer.now child.sum → ⊥ in
    let read : P c.child-item.result = let says = rw c.as_slice.ensures at c.in_ok-bad.ensures.read in says c.if-bad.false in
    All-more P c.args.children.now c.loop-child.child-index c.child-item.result (omega arith) c.loop-child.invariant (subst P c.child-item.is read)

pub returns-clause-read : goal.returns-clause-read
returns-clause-read g c e =
    let P = λ (child : Child g.row.M-Unit.Denot). IsUnread g.M.Unit.Item g.M.Summer c.args.summer.now child.sum → ⊥ in
    subst (All P) (take_all c.loop-child.child-index c.args.children.now (omega arith)) c.loop-child.invariant
