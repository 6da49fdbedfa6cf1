use Rattle.std.proofs.Common.{◌+◌, ◌*◌}
use Rattle.tree_query.proofs.range.+tail.Given as goal

abbrev pub decreases-tail : goal.decreases-tail
decreases-tail g l = 2 * l.level

abbrev pub decreases-tail_row : goal.decreases-tail_row
decreases-tail_row g l = 2 * l.low + 1
