-- The values aren't too deep for a line.
use Rattle.std.proofs.Common.{◌∙◌, sym}
use Rattle.child_pool.proofs.Reduced.{values_depth}
use Rattle.child_pool.proofs.reducing.values_line.Goals as goal

pub rereduce_line-requires : goal.rereduce_line-requires
rereduce_line-requires c = values_depth c.args.source.now c.args.values.now (sym c.are_shallow_values.ensures ∙ c.if-not-are_shallow_values.false)
