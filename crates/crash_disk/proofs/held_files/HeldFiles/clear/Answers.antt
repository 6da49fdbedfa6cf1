use Rattle.std.proofs.Common.{[], refl, ap}
use Rattle.crash_disk.specs.declared.held_file.HeldFile.{HeldFile}
use Rattle.crash_disk.proofs.HeldLists.{apart_set, step_at, step_absent}
use Rattle.crash_disk.proofs.held_files.HeldFiles.clear.Goals as goal

pub invariant_of-self : goal.invariant_of-self
invariant_of-self c =
    let held = c.args.self.now in
    record { apart = apart_set held.files.items c.in-Some.place c.index_mut-file.result.now _ held.apart c.in-Some.ensures.0 (ap (λ (f : HeldFile). f.name) c.index_mut-file.ensures.value) }

pub returns-in-Some : goal.returns-in-Some
returns-in-Some c =
    let held = c.args.self.now in
    step_at c.args.name held.files.items c.in-Some.place c.index_mut-file.result.now _ (λ bytes. []) held.apart c.in-Some.ensures c.index_mut-file.ensures.value refl c.clear.ensures.items

pub returns-in_default : goal.returns-in_default
returns-in_default c = step_absent c.args.name c.args.self.now.files.items (λ bytes. []) (c.in_default.ensures) refl
