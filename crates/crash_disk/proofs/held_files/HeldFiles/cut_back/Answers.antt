use Rattle.std.proofs.Common.{◌≡◌, ◌-◌, take, length, refl, ap, ◌∙◌, arith}
use Rattle.std.proofs.Math.Seq.{take-nil}
use Rattle.crash_disk.specs.declared.held_file.HeldFile.{HeldFile}
use Rattle.crash_disk.proofs.HeldLists.{apart_set, step_at, step_absent}
use Rattle.crash_disk.proofs.held_files.HeldFiles.cut_back.Goals as goal

pub invariant_of-self : goal.invariant_of-self
invariant_of-self c =
    let held = c.args.self.now in
    record { apart = apart_set held.files.items c.in-Some.place c.index_mut-file.result.now _ held.apart c.in-Some.ensures.0 (ap (λ (f : HeldFile). f.name) c.index_mut-file.ensures.value) }

pub returns-in-Some : goal.returns-in-Some
returns-in-Some c =
    let held = c.args.self.now in
    let file = c.index_mut-file.result.now in
    let long : c.saturating_sub-long.result ≡ length file.bytes.items - c.args.by = omega (arith, c.index_mut-file.result.now.bytes.ok.0) in
    step_at c.args.name held.files.items c.in-Some.place file _ (λ bytes. take (length bytes - c.args.by) bytes) held.apart c.in-Some.ensures c.index_mut-file.ensures.value refl
    (c.truncate.ensures.items ∙ ap (λ n. take n file.bytes.items) long)

pub returns-in_default : goal.returns-in_default
returns-in_default c = step_absent c.args.name c.args.self.now.files.items (λ bytes. take (length bytes - c.args.by) bytes) (c.in_default.ensures) (take-nil _)
