use Rattle.std.proofs.Common.{take}
use Rattle.crash_disk.specs.PendingList.{AreMatched, IsSettled}
use Rattle.crash_disk.proofs.pending_lists.settled_list.Given as goal

abbrev pub invariant-loop-file : goal.invariant-loop-file
invariant-loop-file l = AreMatched IsSettled l.files.items (take l.file-index l.held)
