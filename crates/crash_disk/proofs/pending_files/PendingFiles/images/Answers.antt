use Rattle.std.proofs.Common.{subst, sym}
use Rattle.std.specs.List.{All}
use Rattle.crash_disk.specs.declared.pending_file.PendingFile.{PendingFile}
use Rattle.crash_disk.specs.Chosen.{IsChosen, IsSound}
use Rattle.crash_disk.specs.Pending.{file_of}
use Rattle.crash_disk.specs.PendingList.{AreMatched}
use Rattle.crash_disk.proofs.Patches.{chosen_none}
use Rattle.crash_disk.proofs.PendingLists.{apart_right, each_sound, matched_value}
use Rattle.crash_disk.proofs.pending_files.PendingFiles.images.Goals as goal

pub image_list-requires : goal.image_list-requires
image_list-requires c =
    let pending = c.args.self.now in
    subst (All (λ (file : PendingFile). IsSound (file_of file.pending))) (sym c.deref.ensures.value) (each_sound pending.files.items pending.apart c.requires)

pub invariant_of-result : goal.invariant_of-result
invariant_of-result c =
    let pending = c.args.self.now in
    let matched = subst (λ files. AreMatched (IsChosen c.args.choice) files c.in_ok-image_list.field-0.items) c.deref.ensures.value c.in_ok-image_list.ensures in
    record { apart = apart_right (IsChosen c.args.choice) pending.files.items _ matched pending.apart }

pub returns : goal.returns
returns c =
    let pending = c.args.self.now in
    let matched = subst (λ files. AreMatched (IsChosen c.args.choice) files c.in_ok-image_list.field-0.items) c.deref.ensures.value c.in_ok-image_list.ensures in
    matched_value (IsChosen c.args.choice) (chosen_none c.args.choice) pending.files.items c.in_ok-image_list.field-0.items matched
