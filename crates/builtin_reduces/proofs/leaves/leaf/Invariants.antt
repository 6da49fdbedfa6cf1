use Rattle.std.proofs.Common.{◌≡◌, take}
use Rattle.builtin_reduces.specs.Seen.{values}
use Rattle.builtin_reduces.specs.Values.{value_of}
use Rattle.builtin_reduces.proofs.Appended.{AllTerms}
use Rattle.builtin_reduces.proofs.leaves.leaf.Given as goal

abbrev pub invariant-loop-row : goal.invariant-loop-row
invariant-loop-row l = record {
  total : l.total ≡ value_of l.kind (values (take l.row-index l.rows));
  terms : AllTerms (values (take l.row-index l.rows));
}
