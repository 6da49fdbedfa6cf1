-- The rows are added one by one.
use Rattle.std.proofs.Common.{◌<◌, ◌≤◌, ◌^◌, length, refl, arith}
use Rattle.builtin_reduces.proofs.Appended.{one_row_more}
use Rattle.builtin_reduces.proofs.leaves.leaf.Goals as goal

pub loop-row-preserved : goal.loop-row-preserved
loop-row-preserved c =
    let rows = c.args.rows.now in
    let i = c.loop-row.row-index in
    let below : i < length rows = omega arith in
    let few : length rows ≤ 2 ^ 63 = omega arith in
    let step = one_row_more c.args.kind rows i c.row-item.result c.loop-row.total _ c.in_ok-total.total below few c.row-item.is c.validity.ensures c.loop-row.invariant.total c.loop-row.invariant.terms refl c.in_ok-total.ensures.value in
    record { total = step.0; terms = step.1 }
