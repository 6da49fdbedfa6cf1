use Rattle.std.proofs.Common.{◌≡◌, ◌≢◌, [], All, take, fold}
use Rattle.design_docs.specs.declared.design.Builtin.TheVariants.{Sum}
use Rattle.builtin_reduces.specs.Values.{value_of}
use Rattle.builtin_reduces.specs.Added.{IsFree, add_two}
use Rattle.builtin_reduces.specs.SumFits.{FitsUnder}
use Rattle.builtin_reduces.proofs.joins.join.Given as goal

abbrev pub invariant-loop-part : goal.invariant-loop-part
invariant-loop-part l = record {
  total : l.total ≡ fold add_two (value_of l.fn.kind []) (take l.part-index l.parts);
  free : l.fn.kind ≢ Sum → IsFree l.total;
  fits : All (FitsUnder l.fn.kind) l.parts → FitsUnder l.fn.kind l.total;
}
