use Rattle.std.proofs.lemmas.Result.{err_from_is_err_and}
use Rattle.std.specs.List.{flat_map}
use Rattle.tree_laws.specs.Nodes.{FitsChild, child_entry}
use Rattle.tree_laws.specs.Reading.{AreCounted}
use Rattle.tree_laws.proofs.Prefixes.{child_prefix_free}
use Rattle.tree_laws.proofs.Taking.{all_more, long_more, no_more, passed_on, taken_more}
use Rattle.tree_laws.proofs.reader.Reader.children.Goals as goal

pub returns-in_err-child : goal.returns-in_err-child
returns-in_err-child g c =
    let fits = FitsChild g.T.Item.fits g.T.Item.spelled in
    let entry = child_entry g.T.Item.spelled in
    let l = c.loop-index in
    let p = err_from_is_err_and c.from_residual.result c.from_residual.ensures.1 in
    passed_on fits entry (AreCounted c.args.count fits) (flat_map entry) l.self c.child.new.self c.args.self.now c.child.new.self c.in_err-child.field-0.0 p.0 c.from_residual.result p.2 p.1 c.in_err-child.ensures
    (no_more fits entry (child_prefix_free g.T.Item.fits g.T.Item.spelled g.met.T.Item.one_spelling) c.args.self.now l.self l.children.items c.args.count l._index l.invariant.count c.loop-index-test.true l.invariant.fit l.invariant.bytes)

pub loop-index-preserved : goal.loop-index-preserved
loop-index-preserved g c =
    let fits = FitsChild g.T.Item.fits g.T.Item.spelled in
    let entry = child_entry g.T.Item.spelled in
    let l = c.loop-index in
    record {
      bytes = taken_more fits entry c.args.self.now l.self c.child.new.self l.children.items c.push.new.self.items c.in_ok-child.field-0 l.invariant.bytes c.in_ok-child.ensures.1 c.in_ok-push.ensures.items;
      count = long_more fits entry l.children.items c.push.new.self.items c.in_ok-child.field-0 l._index l.invariant.count c.in_ok-push.ensures.items;
      fit = all_more fits entry l.children.items c.push.new.self.items c.in_ok-child.field-0 l.invariant.fit c.in_ok-child.ensures.0 c.in_ok-push.ensures.items;
    }
