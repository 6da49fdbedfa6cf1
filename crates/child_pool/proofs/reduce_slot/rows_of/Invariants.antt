-- the rows of the items so far
use Rattle.std.proofs.Common.{◌≡◌, take}
use Rattle.std.specs.List.{AllByRecursion}
use Rattle.builtin_reduces.specs.Kept.{IsKept}
use Rattle.child_pool.proofs.reduce_slot.rows_of.Given as goal

abbrev pub invariant-loop-item : goal.invariant-loop-item
invariant-loop-item l = (l.rows.items ≡ take l.item-index l.items) × AllByRecursion IsKept (take l.item-index l.items)
