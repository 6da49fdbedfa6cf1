-- The rows aren't too deep for a line.
use Rattle.std.proofs.Common.{◌∙◌, sym}
use Rattle.child_pool.proofs.Reduced.{rows_depth}
use Rattle.child_pool.proofs.reducing.rows_line.Goals as goal

pub reduce_line-requires : goal.reduce_line-requires
reduce_line-requires c = rows_depth c.args.source.now c.args.rows.now (sym c.are_shallow_rows.ensures ∙ c.if-not-are_shallow_rows.false)
