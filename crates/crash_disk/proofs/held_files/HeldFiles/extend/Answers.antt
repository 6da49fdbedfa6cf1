use Rattle.std.proofs.Common.{◌++◌, replicate, cond, ap, refl, ◌∙◌}
use Rattle.std.proofs.lemmas.Result.{on_ok_weaker, on_err_weaker}
use Rattle.crash_disk.specs.declared.held_file.HeldFile.{HeldFile}
use Rattle.crash_disk.specs.Names.{is_same}
use Rattle.crash_disk.proofs.HeldLists.{apart_set, step_at}
use Rattle.crash_disk.proofs.NamedLists.{cond_same}
use Rattle.crash_disk.proofs.held_files.HeldFiles.extend.Goals as goal

pub invariant_of-self : goal.invariant_of-self
invariant_of-self c =
    let held = c.place_or_new.new.self in
    record { apart = apart_set held.files.items c.in_ok-place.place c.index_mut-file.result.now _ held.apart c.in_ok-place.ensures.ok.0 (ap (λ (f : HeldFile). f.name) c.index_mut-file.ensures.value) }

pub returns-clause-ok : goal.returns-clause-ok
returns-clause-ok c =
    let held = c.place_or_new.new.self in
    on_ok_weaker c.add_zeros.result
    (λ grown. λ n.
    step_at c.args.name held.files.items c.in_ok-place.place c.index_mut-file.result.now _ (λ bytes. bytes ++ replicate c.args.by 0) held.apart c.in_ok-place.ensures.ok c.index_mut-file.ensures.value refl grown n
    ∙ ap (λ bytes. cond (is_same c.args.name n) (bytes ++ replicate c.args.by 0) bytes) (c.place_or_new.ensures.same n))
    c.add_zeros.ensures.ok

pub returns-clause-err : goal.returns-clause-err
returns-clause-err c =
    let held = c.place_or_new.new.self in
    on_err_weaker c.add_zeros.result
    (λ stayed. λ n.
    step_at c.args.name held.files.items c.in_ok-place.place c.index_mut-file.result.now _ (λ bytes. bytes) held.apart c.in_ok-place.ensures.ok c.index_mut-file.ensures.value refl stayed n
    ∙ cond_same (is_same c.args.name n) _ ∙ c.place_or_new.ensures.same n)
    c.add_zeros.ensures.err
