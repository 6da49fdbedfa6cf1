-- some rows are done
use Rattle.std.proofs.Common.{◌<◌, length, map}
use Rattle.json_terms.specs.Seen.{json}
use Rattle.child_pool.proofs.Folds.{Folding}
use Rattle.child_pool.proofs.reduce_slot.ReduceSlot.reduce.Given as goal

abbrev pub invariant-loop-left : goal.invariant-loop-left
invariant-loop-left g l = (length l.values.items < 32) × Folding g.C.Servers l.language l.source l.initial.self l.self l.items l.left (map json l.values.items)

abbrev pub decreases-loop-left : goal.decreases-loop-left
decreases-loop-left g l = length l.left
