use Rattle.std.proofs.Common.{◌-◌, ◌^◌}
use Rattle.reduce_tree.proofs.builder.+rise.Given as goal

abbrev pub decreases-rise : goal.decreases-rise
decreases-rise g l = 2 ^ 31 - l.level
