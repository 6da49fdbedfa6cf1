use Rattle.std.proofs.Common.{cond, ap, refl, sym, subst, ◌∙◌}
use Rattle.std.proofs.lemmas.Result.{on_ok_weaker}
use Rattle.crash_disk.specs.declared.pending_file.PendingFile.{PendingFile}
use Rattle.crash_disk.specs.Names.{is_same}
use Rattle.crash_disk.specs.Moments.{FitsIn, stepped}
use Rattle.crash_disk.specs.Pending.{file_of}
use Rattle.crash_disk.proofs.PendingLists.{apart_set, file_at, step_at}
use Rattle.crash_disk.proofs.pending_files.PendingFiles.change.Goals as goal

pub apply-requires : goal.apply-requires
apply-requires c =
    let held = c.place_or_new.new.self in
    let file = c.index_mut-file.result.now in
    let at = c.in_ok-place.ensures.ok in
    let there = file_at c.args.name held.files.items c.in_ok-place.place file held.apart at.0 (at.1 file) in
    subst (FitsIn c.args.change.now) (sym (c.place_or_new.ensures.same c.args.name) ∙ there ∙ ap (λ (f : PendingFile). file_of f.pending) (sym c.index_mut-file.ensures.value)) c.requires

pub invariant_of-self : goal.invariant_of-self
invariant_of-self c =
    let held = c.place_or_new.new.self in
    record { apart = apart_set held.files.items c.in_ok-place.place c.index_mut-file.result.now _ held.apart c.in_ok-place.ensures.ok.0 (ap (λ (f : PendingFile). f.name) c.index_mut-file.ensures.value) }

pub returns : goal.returns
returns c =
    let held = c.place_or_new.new.self in
    on_ok_weaker c.apply.result
    (λ applied. λ n.
    step_at c.args.name held.files.items c.in_ok-place.place c.index_mut-file.result.now _ (stepped c.args.change.now) held.apart c.in_ok-place.ensures.ok c.index_mut-file.ensures.value refl applied n
    ∙ ap (λ file. cond (is_same c.args.name n) (stepped c.args.change.now file) file) (c.place_or_new.ensures.same n))
    c.apply.ensures
