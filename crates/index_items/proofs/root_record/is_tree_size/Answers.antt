-- A power of 8 is 1 at least, so a tree of some height has items.
use Rattle.std.proofs.Common.{◌≤◌, ◌-◌, ◌^◌, arith}
use Rattle.std.proofs.Math.Nat.{one-le-pow}
use Rattle.index_items.proofs.root_record.is_tree_size.Goals as goal

pub returns-then-tree-le-ITEM_LIMIT : goal.returns-then-tree-le-ITEM_LIMIT
returns-then-tree-le-ITEM_LIMIT c =
    let high = c.if-tree-eq0.false in (
      λ large.
          let least : 8 ^ (c.args.tree.height - 1) ≤ c.args.tree.count = c.is_large.ensures.0 large in
          let items = one-le-pow (c.args.tree.height - 1) 8 (omega arith) in
          record {
            most = c.if-tree-le-ITEM_LIMIT.true;
            empty = (λ none. absurd (high none), λ none. absurd (omega (arith, none, items, least)));
            least = λ higher. least;
          },
      λ size. c.is_large.ensures.1 (size.least (omega (arith, high))),
    )
