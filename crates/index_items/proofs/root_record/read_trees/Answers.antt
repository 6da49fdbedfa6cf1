use Rattle.index_items.specs.RootRecord.{IsTreeAt, tree_bytes}
use Rattle.index_items.proofs.Roots.{fit_prefix_free}
use Rattle.index_items.proofs.Taking.{all_more, long_more, no_more, none_taken, one_taken, taken_more}
use Rattle.index_items.proofs.root_record.read_trees.Goals as goal

pub returns-in-None : goal.returns-in-None
returns-in-None c =
    let l = c.loop-tree in
    let fits = IsTreeAt c.args.offset in
    no_more fits tree_bytes (fit_prefix_free c.args.offset) c.args.bytes.now l.rest.now l.trees.items c.args.count l._tree l.invariant.count c.loop-tree-test.true l.invariant.each l.invariant.bytes
    (none_taken fits tree_bytes l.rest.now c.read_tree.result c.in-None.is c.read_tree.ensures)

pub loop-tree-preserved : goal.loop-tree-preserved
loop-tree-preserved c =
    let l = c.loop-tree in
    let fits = IsTreeAt c.args.offset in
    let pushed = c.in_ok-push-in-Some.ensures.items in
    let taken = one_taken fits tree_bytes l.rest.now c.read_tree.result c.in-Some.tree c.in-Some.behind c.in-Some.is c.read_tree.ensures in
    record {
      bytes = taken_more fits tree_bytes c.args.bytes.now l.rest.now c.in-Some.behind.now l.trees.items c.push.new.self.items c.in-Some.tree l.invariant.bytes taken.1 pushed;
      count = long_more fits tree_bytes l.trees.items c.push.new.self.items c.in-Some.tree l._tree l.invariant.count pushed;
      each = all_more fits tree_bytes l.trees.items c.push.new.self.items c.in-Some.tree l.invariant.each taken.0 pushed;
    }
