use Rattle.std.proofs.Common.{◌≡◌, ◌++◌, All, take}
use Rattle.std.specs.List.{flat_map}
use Rattle.index_items.specs.RootRecord.{IsTypedTree, tree_bytes}
use Rattle.index_items.proofs.root_record.put_trees.Given as goal

abbrev pub invariant-loop-tree : goal.invariant-loop-tree
invariant-loop-tree l = record {
  bytes : l.out.items ≡ l.fn.out.items ++ flat_map tree_bytes (take l.tree-index l.trees);
  typed : All IsTypedTree (take l.tree-index l.trees);
}
