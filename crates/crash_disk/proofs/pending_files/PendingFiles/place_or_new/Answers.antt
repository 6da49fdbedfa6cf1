use Rattle.std.proofs.Common.{ap, ◌∙◌}
use Rattle.crash_disk.specs.PendingList.{file_named}
use Rattle.crash_disk.proofs.PendingLists.{apart_pushed, file_push}
use Rattle.crash_disk.proofs.pending_files.PendingFiles.place_or_new.Goals as goal

pub invariant_of-self-2 : goal.invariant_of-self-2
invariant_of-self-2 c =
    let held = c.args.self.now in
    record { apart = apart_pushed held.files.items _ _ _ c.push.ensures.items held.apart c.in_default.ensures }

pub returns-clause-same : goal.returns-clause-same
returns-clause-same c = λ n. ap (λ files. file_named files n) c.in_ok-push.ensures.items ∙ file_push c.args.self.now.files.items _ n c.in_ok-settled.ensures
