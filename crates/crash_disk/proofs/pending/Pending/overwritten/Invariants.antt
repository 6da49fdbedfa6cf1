use Rattle.std.proofs.Common.{take}
use Rattle.crash_disk.specs.Chosen.{IsOverwritten}
use Rattle.crash_disk.proofs.pending.Pending.overwritten.Given as goal

abbrev pub invariant-loop-range : goal.invariant-loop-range
invariant-loop-range l = IsOverwritten (take l.range-index l.self.written.items) l.self.seen.items l.image.items
