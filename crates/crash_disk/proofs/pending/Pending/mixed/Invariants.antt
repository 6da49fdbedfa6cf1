use Rattle.view_ports.specs.File.{IsImage}
use Rattle.crash_disk.specs.Pending.{file_of}
use Rattle.crash_disk.proofs.pending.Pending.mixed.Given as goal

abbrev pub invariant-loop-range : goal.invariant-loop-range
invariant-loop-range l = IsImage (file_of l.self) l.image.items

abbrev pub invariant-loop-range-2 : goal.invariant-loop-range-2
invariant-loop-range-2 l = IsImage (file_of l.self) l.image.items
