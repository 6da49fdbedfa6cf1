use Rattle.std.proofs.Common.{◌≡◌, ◌+◌, ◌^◌, ◌≤◌, All, take}
use Rattle.std.specs.List.{sum_by}
use Rattle.tree_laws.proofs.fetch.have_items.Given as goal

-- what is left is to be that of the children to come
abbrev pub invariant-loop-child : goal.invariant-loop-child
invariant-loop-child g l = record {
  left : sum_by (λ child. child.count) (take l.child-index l.children) + l.left ≡ l.count;
  large : All (λ child. 8 ^ l.level ≤ child.count) (take l.child-index l.children);
}
