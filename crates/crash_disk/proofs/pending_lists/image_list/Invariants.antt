use Rattle.std.proofs.Common.{take}
use Rattle.crash_disk.specs.Chosen.{IsChosen}
use Rattle.crash_disk.specs.PendingList.{AreMatched}
use Rattle.crash_disk.proofs.pending_lists.image_list.Given as goal

abbrev pub invariant-loop-file : goal.invariant-loop-file
invariant-loop-file l = AreMatched (IsChosen l.choice) (take l.file-index l.files) l.held.items
