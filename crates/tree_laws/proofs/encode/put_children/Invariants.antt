use Rattle.std.proofs.Common.{◌≡◌, ◌++◌, All, take}
use Rattle.std.specs.List.{flat_map}
use Rattle.tree_laws.specs.Nodes.{FitsChild, child_entry}
use Rattle.tree_laws.proofs.encode.put_children.Given as goal

abbrev pub invariant-loop-child : goal.invariant-loop-child
invariant-loop-child g l = record {
  bytes : l.out.items ≡ l.fn.out.items ++ flat_map (child_entry g.T.Item.spelled) (take l.child-index l.children);
  fit : All (FitsChild g.T.Item.fits g.T.Item.spelled) (take l.child-index l.children);
}
