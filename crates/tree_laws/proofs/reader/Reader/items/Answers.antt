use Rattle.std.proofs.lemmas.Result.{err_from_is_err_and}
use Rattle.std.specs.List.{flat_map}
use Rattle.tree_laws.specs.Nodes.{FitsItem, item_entry}
use Rattle.tree_laws.specs.Reading.{AreCounted}
use Rattle.tree_laws.proofs.Prefixes.{item_prefix_free}
use Rattle.tree_laws.proofs.Taking.{no_more, passed_on}
use Rattle.tree_laws.proofs.reader.Reader.items.Goals as goal

pub returns-in_err-item : goal.returns-in_err-item
returns-in_err-item g c =
    let fits = FitsItem g.T.Item.fits g.T.Item.spelled in
    let entry = item_entry g.T.Item.spelled in
    let l = c.loop-index in
    let p = err_from_is_err_and c.from_residual.result c.from_residual.ensures.1 in
    passed_on fits entry (AreCounted c.args.count fits) (flat_map entry) l.self c.item.new.self c.args.self.now c.item.new.self c.in_err-item.field-0.0 p.0 c.from_residual.result p.2 p.1 c.in_err-item.ensures
    (no_more fits entry (item_prefix_free g.T.Item.fits g.T.Item.spelled g.met.T.Item.one_spelling) c.args.self.now l.self l.items.items c.args.count l._index l.invariant.count c.loop-index-test.true l.invariant.fit l.invariant.bytes)
