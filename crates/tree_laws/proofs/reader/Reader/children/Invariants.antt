use Rattle.std.proofs.Common.{◌≡◌, ◌++◌, All, length}
use Rattle.std.specs.List.{flat_map}
use Rattle.tree_laws.specs.Nodes.{FitsChild, child_entry}
use Rattle.tree_laws.proofs.reader.Reader.children.Given as goal

abbrev pub invariant-loop-index : goal.invariant-loop-index
invariant-loop-index g l = record {
  bytes : l.fn.self ≡ flat_map (child_entry g.T.Item.spelled) l.children.items ++ l.self;
  count : length l.children.items ≡ l._index;
  fit : All (FitsChild g.T.Item.fits g.T.Item.spelled) l.children.items;
}
