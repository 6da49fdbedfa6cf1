use Rattle.std.proofs.Common.{◌≡◌, take}
use Rattle.builtin_reduces.specs.Seen.{values}
use Rattle.builtin_reduces.specs.SumFits.{FitsUnder}
use Rattle.builtin_reduces.specs.Values.{value_of}
use Rattle.builtin_reduces.proofs.Appended.{AllTerms}
use Rattle.builtin_reduces.proofs.leaves.leaf_of_items.Given as goal

abbrev pub invariant-loop-item : goal.invariant-loop-item
invariant-loop-item l = record {
  total : l.total ≡ value_of l.kind (values (take l.item-index l.items));
  terms : AllTerms (values (take l.item-index l.items));
  fits : FitsUnder l.kind l.total;
}
