use Rattle.std.proofs.Common.{◌≡◌, ◌++◌, All, length}
use Rattle.std.specs.List.{flat_map}
use Rattle.index_items.specs.RootRecord.{IsTreeAt, tree_bytes}
use Rattle.index_items.proofs.root_record.read_trees.Given as goal

-- these trees were taken, and the rest is left
abbrev pub invariant-loop-tree : goal.invariant-loop-tree
invariant-loop-tree l = record {
  bytes : l.bytes ≡ flat_map tree_bytes l.trees.items ++ l.rest;
  count : length l.trees.items ≡ l._tree;
  each : All (IsTreeAt l.offset) l.trees.items;
}
