use Rattle.tree_laws.specs.Nodes.{FitsChild, child_entry}
use Rattle.tree_laws.proofs.Taking.{fit_more, put_more}
use Rattle.tree_laws.proofs.encode.put_children.Goals as goal

pub loop-child-preserved : goal.loop-child-preserved
loop-child-preserved g c =
    let fits = FitsChild g.T.Item.fits g.T.Item.spelled in
    let entry = child_entry g.T.Item.spelled in
    let l = c.loop-child in
    record {
      bytes = put_more fits entry c.args.children.now l.child-index c.child-item.result c.args.out.now.items l.out.items c.put_child.new.out.items c.loop-child-test.true c.child-item.is l.invariant.bytes c.in_ok-put_child.ensures.ok;
      fit = fit_more fits entry c.args.children.now l.child-index c.child-item.result c.loop-child-test.true c.child-item.is l.invariant.fit c.in_ok-put_child.ensures.fits;
    }
