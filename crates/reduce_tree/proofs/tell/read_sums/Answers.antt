use Rattle.std.proofs.Common.{◌++◌, ◌∷◌, [], All, map, take, sym, ap, ◌∙◌, subst, arith}
use Rattle.std.proofs.lemmas.List.{map-append, map_more}
use Rattle.std.proofs.lemmas.List.Elements.{All-append, All-cons, All-nil}
use Rattle.tree_laws.specs.declared.node.Child.{Child}
use Rattle.reduce_tree.proofs.tell.read_sums.Goals as goal

pub loop-child-preserved : goal.loop-child-preserved
loop-child-preserved g c =
    let m = g.M.Summer in
    let u = c.args.summer.now in
    let cs = c.args.children.now in
    let item = c.child-item.result in
    let sums = c.loop-child.sums.items in
    let sum = c.in_ok-sum.sum in
    let P = m.fits u in
    let own = λ (d : Child g.row.M-Unit.Denot). d.sum in
    let bytes = ap own (sym c.child-item.is) ∙ sym c.as_slice.ensures ∙ sym c.in_ok-sum.ensures.spelled in
    let spell = (m.meaning u).spelled in
    record {
      spelled = map_more own cs c.loop-child.child-index item (omega arith) ∙ ap (λ b. map own (take c.loop-child.child-index cs) ++ b ∷ []) bytes ∙ ap (λ t. t ++ spell sum ∷ []) c.loop-child.invariant.spelled
          ∙ sym (map-append spell sums (sum ∷ [])) ∙ ap (map spell) (sym c.in_ok-push.ensures.items);
      fits = subst (All P) (sym c.in_ok-push.ensures.items) (All-append P sums (sum ∷ []) c.loop-child.invariant.fits (All-cons P sum [] c.in_ok-sum.ensures.fits (All-nil P)));
    }
