use Rattle.std.proofs.Common.{ap, ◌∙◌}
use Rattle.crash_disk.specs.Held.{bytes_of}
use Rattle.crash_disk.proofs.HeldLists.{apart_pushed, bytes_push}
use Rattle.crash_disk.proofs.held_files.HeldFiles.place_or_new.Goals as goal

pub invariant_of-self : goal.invariant_of-self
invariant_of-self c =
    let held = c.args.self.now in
    record { apart = apart_pushed held.files.items _ _ _ c.push.ensures.items held.apart (c.in_default.ensures) }

pub returns-clause-same : goal.returns-clause-same
returns-clause-same c = λ n. ap (λ files. bytes_of files n) c.in_ok-push.ensures.items ∙ bytes_push c.args.self.now.files.items _ n c.new.ensures.items
