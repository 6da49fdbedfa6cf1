use Rattle.std.proofs.Common.{◌≡◌, length, ap, arith}
use Rattle.crash_disk.proofs.HeldLists.{absent_by_index}
use Rattle.crash_disk.proofs.held_files.HeldFiles.place.Goals as goal

pub returns : goal.returns
returns c =
    let long : length c.deref-file-items.result.now ≡ length c.args.self.now.files.items = ap length c.deref-file-items.ensures.value in
    absent_by_index c.args.name c.args.self.now.files.items (λ k d below. c.loop-at.invariant k d (omega arith))
