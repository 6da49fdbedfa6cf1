-- some values are taken in
use Rattle.std.proofs.Common.{◌<◌, length, map, take}
use Rattle.json_terms.specs.Seen.{json}
use Rattle.child_pool.proofs.Folds.{Refolding}
use Rattle.child_pool.proofs.reduce_slot.ReduceSlot.rereduce.Given as goal

abbrev pub invariant-loop-sum : goal.invariant-loop-sum
invariant-loop-sum g l = (length l.values.items < 32) × Refolding g.C.Servers l.language l.source l.initial.self l.self (take l.sum-index l.sums) (map json l.values.items)
