use Rattle.std.proofs.Common.{refl, subst}
use Rattle.crash_disk.specs.PendingList.{AreMatched, IsSettled}
use Rattle.crash_disk.proofs.PendingLists.{apart_left, matched_value}
use Rattle.crash_disk.proofs.pending_files.PendingFiles.settled.Goals as goal

pub invariant_of-result : goal.invariant_of-result
invariant_of-result c =
    let held = c.args.held.now in
    let matched = subst (AreMatched IsSettled _) c.deref.ensures.value c.in_ok-settled_list.ensures in
    record { apart = apart_left IsSettled _ held.files.items matched held.apart }

pub returns : goal.returns
returns c =
    let matched = subst (AreMatched IsSettled _) c.deref.ensures.value c.in_ok-settled_list.ensures in
    matched_value IsSettled refl _ c.args.held.now.files.items matched
