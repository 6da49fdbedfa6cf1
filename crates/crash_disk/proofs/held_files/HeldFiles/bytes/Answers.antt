use Rattle.std.proofs.Common.{sym, ap, ◌∙◌}
use Rattle.crash_disk.specs.declared.held_file.HeldFile.{HeldFile}
use Rattle.crash_disk.proofs.HeldLists.{bytes_at, bytes_absent}
use Rattle.crash_disk.proofs.held_files.HeldFiles.bytes.Goals as goal

pub returns-in-Some : goal.returns-in-Some
returns-in-Some c =
    let held = c.args.self.now in
    let file = c.index.result.now in
    c.deref.ensures.value ∙ ap (λ (f : HeldFile). f.bytes.items) c.index.ensures
    ∙ sym (bytes_at c.args.name held.files.items c.in-Some.at file held.apart c.in-Some.ensures.0 (c.in-Some.ensures.1 file))

pub returns-in-None : goal.returns-in-None
returns-in-None c = sym (bytes_absent c.args.name c.args.self.now.files.items c.in-None.ensures)
