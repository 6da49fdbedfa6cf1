use Rattle.std.proofs.Common.{◌≡◌, ◌++◌, ◌+◌, ◌≤◌, true, drop, vec_len}
use Rattle.std.specs.List.Sorted.{IsStrictlySortedBy}
use Rattle.reduce_tree.specs.Applied.{applied, insertions, RemoveNone}
use Rattle.reduce_tree.proofs.leaf.merge.Given as goal

abbrev pub invariant-loop-edit : goal.invariant-loop-edit
invariant-loop-edit g l =
    let order = g.T.Item.order in
    record {
      sorted : IsStrictlySortedBy order l.fn.items.items → IsStrictlySortedBy order l.rest.items;
      items : IsStrictlySortedBy order l.fn.items.items → l.done.items ++ applied order (drop l.edit-index l.edits) l.rest.items ≡ applied order l.edits l.fn.items.items;
      count : vec_len l.done + (vec_len l.rest + insertions (drop l.edit-index l.edits)) ≤ vec_len l.fn.items + insertions l.edits;
      placed : insertions l.edits ≤ vec_len l.done + insertions (drop l.edit-index l.edits);
      inserts : l.same ≡ true → insertions l.edits ≡ insertions (drop l.edit-index l.edits);
      quiet : RemoveNone order l.edits l.fn.items.items → (l.same ≡ true) × RemoveNone order (drop l.edit-index l.edits) l.rest.items;
      same : l.same ≡ true → l.done.items ++ l.rest.items ≡ l.fn.items.items;
    }
