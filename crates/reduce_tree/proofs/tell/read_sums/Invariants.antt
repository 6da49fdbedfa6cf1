use Rattle.std.proofs.Common.{◌≡◌, take, map, All}
use Rattle.reduce_tree.proofs.tell.read_sums.Given as goal

abbrev pub invariant-loop-child : goal.invariant-loop-child
invariant-loop-child g l =
    record {
      spelled : map (λ child. child.sum) (take l.child-index l.children) ≡ map (g.M.Summer.meaning l.summer).spelled l.sums.items;
      fits : All (g.M.Summer.fits l.summer) l.sums.items;
    }
