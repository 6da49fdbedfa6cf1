-- The rows before the start and those in range are rows of the list.
use Rattle.std.proofs.Common.{ap, arith, length}
use Rattle.view_model.proofs.Ends.{range_fits}
use Rattle.view_model.proofs.answers.range_offset.Goals as goal

pub overflow_add-result : goal.overflow_add-result
overflow_add-result c = omega (arith, range_fits c.args.query.now c.args.rows.now, ap length c.ranged.ensures)
