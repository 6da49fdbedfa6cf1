use Rattle.std.proofs.Common.{sym, arith}
use Rattle.tree_index.proofs.Sizes.{same_number, same_sizes}
use Rattle.tree_index.proofs.index.Index.settle.Goals as goal

pub invariant_of-self : goal.invariant_of-self
invariant_of-self c =
    let last = c.set_trees.new.trees in
    let next = c.args.self.now.next in
    let number = same_number next last c.set_trees.ensures in
    record {
      few = omega (arith, c.args.self.now.few, number, c.args.self.now.same);
      same = sym number;
      last_sizes = same_sizes next last c.set_trees.ensures c.args.self.now.next_sizes;
      next_sizes = c.args.self.now.next_sizes;
    }
