use Rattle.std.proofs.Common.{get_or}
use Rattle.std.proofs.lemmas.List.{get_or_default}
use Rattle.tree_laws.specs.declared.tree.Tree.{Tree}
use Rattle.index_items.specs.RootRecord.{IsTypedTree, tree_bytes}
use Rattle.index_items.proofs.Taking.{fit_more, put_more}
use Rattle.index_items.proofs.root_record.put_trees.Goals as goal

abbrev no_tree : Tree
no_tree = record { root = 0; height = 0; count = 0 }

pub loop-tree-preserved : goal.loop-tree-preserved
loop-tree-preserved c =
    let l = c.loop-tree in
    let trees = c.args.trees.now in
    let tree : Tree = get_or trees l.tree-index no_tree in
    let there = get_or_default trees l.tree-index no_tree tree c.loop-tree-test.true in
    record {
      bytes = put_more IsTypedTree tree_bytes trees l.tree-index tree c.args.out.now.items l.out.items c.put_tree.new.out.items c.loop-tree-test.true there l.invariant.bytes c.in_ok-put_tree.ensures.bytes;
      typed = fit_more IsTypedTree tree_bytes trees l.tree-index tree c.loop-tree-test.true there l.invariant.typed c.in_ok-put_tree.ensures.typed;
    }
