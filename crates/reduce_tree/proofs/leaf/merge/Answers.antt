use Rattle.std.proofs.Common.{◌≡◌, ◌<◌, ◌+◌, ◌∷◌, ◌++◌, suc, drop, length, sym, ap, ◌∙◌, subst, add-one, drop-cons, arith}
use Rattle.reduce_tree.specs.Applied.{applied, insertions, RemoveNone}
use Rattle.reduce_tree.proofs.leaf.merge.Goals as goal

pub loop-edit-preserved : goal.loop-edit-preserved
loop-edit-preserved g c =
    let order = g.T.Item.order in
    let inv = c.loop-edit.invariant in
    let says = c.in_ok-next.ensures in
    let edits = c.args.edits.now in
    let at = c.loop-edit.edit-index in
    let edit = c.edit-item.result in
    let es = drop (at + 1) edits in
    let has : at < length edits = omega arith in
    let left : drop at edits ≡ edit ∷ drop (at + 1) edits = rw (add-one, drop-cons edits at edit) (ap (λ x. x ∷ drop (suc at) edits) (sym c.edit-item.is)) in
    let l = ap insertions left in
    record {
      sorted = λ s. says.sorted (inv.sorted s);
      items = λ s. says.items es (inv.sorted s) ∙ ap (λ ds. c.loop-edit.done.items ++ applied order ds c.loop-edit.rest.items) (sym left) ∙ inv.items s;
      count = omega (arith, l, inv.count, says.count);
      placed = omega (arith, l, inv.placed, says.placed);
      inserts = λ e. let a = inv.inserts (c.both-same.ensures.first e) in let b = says.inserts (c.both-same.ensures.second e) in omega (arith, a, b, l);
      quiet = λ h.
          let k = inv.quiet h in
          let n = says.quiet es (subst (λ ds. RemoveNone order ds c.loop-edit.rest.items) left k.1) in
          (c.both-same.ensures.both k.0 n.0, n.1);
      same = λ e. says.same (c.both-same.ensures.second e) ∙ inv.same (c.both-same.ensures.first e);
    }
