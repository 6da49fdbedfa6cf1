use Rattle.std.proofs.Common.{◌≡◌, ◌++◌, All, take}
use Rattle.std.specs.List.{flat_map}
use Rattle.tree_laws.specs.Nodes.{FitsItem, item_entry}
use Rattle.tree_laws.proofs.encode.put_items.Given as goal

abbrev pub invariant-loop-item : goal.invariant-loop-item
invariant-loop-item g l = record {
  bytes : l.out.items ≡ l.fn.out.items ++ flat_map (item_entry g.T.Item.spelled) (take l.item-index l.items);
  fit : All (FitsItem g.T.Item.fits g.T.Item.spelled) (take l.item-index l.items);
}
