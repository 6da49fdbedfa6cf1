use Rattle.std.proofs.Common.{◌+◌, ◌*◌}
use Rattle.tree_query.proofs.range.+head.Given as goal

abbrev pub decreases-head : goal.decreases-head
decreases-head g l = 2 * l.level

abbrev pub decreases-head_row : goal.decreases-head_row
decreases-head_row g l = 2 * l.low + 1
