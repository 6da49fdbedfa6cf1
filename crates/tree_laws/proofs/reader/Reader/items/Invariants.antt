use Rattle.std.proofs.Common.{◌≡◌, ◌++◌, All, length}
use Rattle.std.specs.List.{flat_map}
use Rattle.tree_laws.specs.Nodes.{FitsItem, item_entry}
use Rattle.tree_laws.proofs.reader.Reader.items.Given as goal

abbrev pub invariant-loop-index : goal.invariant-loop-index
invariant-loop-index g l = record {
  bytes : l.fn.self ≡ flat_map (item_entry g.T.Item.spelled) l.items.items ++ l.self;
  count : length l.items.items ≡ l._index;
  fit : All (FitsItem g.T.Item.fits g.T.Item.spelled) l.items.items;
}
