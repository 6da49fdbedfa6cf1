use Rattle.std.proofs.Common.{◌≡◌, ◌+◌, ◌≤◌, [], length, refl, sym, ap, ◌∙◌, subst, arith, length-append, length-take, length-drop}
use Rattle.std.proofs.lemmas.List.{nil_from_length}
use Rattle.view_ports.specs.File.{splice}
use Rattle.crash_disk.specs.Held.{bytes_of}
use Rattle.crash_disk.specs.declared.held_file.HeldFile.{HeldFile}
use Rattle.crash_disk.proofs.HeldLists.{apart_set, bytes_at, bytes_absent, step_at, step_absent}
use Rattle.crash_disk.proofs.held_files.HeldFiles.overwrite.Goals as goal

pub write_over-requires : goal.write_over-requires
write_over-requires c =
    let held = c.args.self.now in
    let file = c.index_mut-file.result.now in
    let same = bytes_at c.args.name held.files.items c.in-Some.place file held.apart c.in-Some.ensures.0 (c.in-Some.ensures.1 file) ∙ ap (λ (f : HeldFile). f.bytes.items) (sym c.index_mut-file.ensures.value) in
    subst (λ bytes. c.args.at + length c.args.from.now ≤ length bytes) same c.requires

pub invariant_of-self : goal.invariant_of-self
invariant_of-self c =
    let held = c.args.self.now in
    record { apart = apart_set held.files.items c.in-Some.place c.index_mut-file.result.now _ held.apart c.in-Some.ensures.0 (ap (λ (f : HeldFile). f.name) c.index_mut-file.ensures.value) }

pub returns-in-Some : goal.returns-in-Some
returns-in-Some c =
    let held = c.args.self.now in
    step_at c.args.name held.files.items c.in-Some.place c.index_mut-file.result.now _ (λ bytes. splice bytes c.args.at c.args.from.now) held.apart c.in-Some.ensures c.index_mut-file.ensures.value refl c.write_over.ensures

pub returns-in_default : goal.returns-in_default
returns-in_default c =
    let held = c.args.self.now in
    let absent = c.in_default.ensures in
    let none : bytes_of held.files.items c.args.name ≡ [] = bytes_absent c.args.name held.files.items absent in
    let room : c.args.at + length c.args.from.now ≤ 0 = subst (λ bytes. c.args.at + length c.args.from.now ≤ length bytes) none c.requires in
    step_absent c.args.name held.files.items (λ bytes. splice bytes c.args.at c.args.from.now) absent
    (nil_from_length _ (simp (length-append, length-take, length-drop) (omega (arith, room))))
