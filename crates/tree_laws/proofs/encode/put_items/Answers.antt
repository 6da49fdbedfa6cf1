use Rattle.tree_laws.specs.Nodes.{FitsItem, item_entry}
use Rattle.tree_laws.proofs.Taking.{fit_more, put_more}
use Rattle.tree_laws.proofs.encode.put_items.Goals as goal

pub loop-item-preserved : goal.loop-item-preserved
loop-item-preserved g c =
    let fits = FitsItem g.T.Item.fits g.T.Item.spelled in
    let entry = item_entry g.T.Item.spelled in
    let l = c.loop-item in
    record {
      bytes = put_more fits entry c.args.items.now l.item-index c.item-item.result c.args.out.now.items l.out.items c.put_item.new.out.items c.loop-item-test.true c.item-item.is l.invariant.bytes c.in_ok-put_item.ensures.ok;
      fit = fit_more fits entry c.args.items.now l.item-index c.item-item.result c.loop-item-test.true c.item-item.is l.invariant.fit c.in_ok-put_item.ensures.fits;
    }
