use Rattle.std.proofs.Common.{arith}
use Rattle.crash_disk.proofs.Patches.{overwritten_next}
use Rattle.crash_disk.proofs.pending.Pending.overwritten.Goals as goal

pub loop-range-preserved : goal.loop-range-preserved
loop-range-preserved c =
    overwritten_next c.args.self.now.written.items c.deref-range-items.result.now c.loop-range.range-index _ _ _ _ c.deref-range-items.ensures.value (omega arith) c.loop-range.invariant c.fill.ensures
