use Rattle.tree_index.proofs.Sizes.{same_number, same_sizes}
use Rattle.tree_index.proofs.index.Index.roll_back.Goals as goal

pub invariant_of-self : goal.invariant_of-self
invariant_of-self c =
    let last = c.args.self.now.last in
    let next = c.set_trees.new.trees in
    record {
      few = c.args.self.now.few;
      same = same_number last next c.set_trees.ensures;
      last_sizes = c.args.self.now.last_sizes;
      next_sizes = same_sizes last next c.set_trees.ensures c.args.self.now.last_sizes;
    }
