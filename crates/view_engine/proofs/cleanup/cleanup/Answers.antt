-- A cleanup is what reading the live designs and removing the other indexes come to.
use Rattle.std.proofs.Common.{◌≡◌, ◌∙◌, ℕ, List, Ok, Err, sym, ap, subst, arith}
use Rattle.std.proofs.lemmas.Grind.{common_steps}
use Rattle.view_ports.proofs.Told.{told_now}
use Rattle.change_mapper.proofs.OnlyReading.{failed_as}
use Rattle.doc_file.specs.Docs.{bytes_in, IsAt}
use Rattle.view_engine.specs.Cleaning.{AreLiveSignatures, CleansUp}
use Rattle.view_engine.specs.HeldDesigns.{AreHeldSignatures}
use Rattle.view_engine.specs.declared.halt.Halt.TheVariants.{Stopped}
use Rattle.view_engine.specs.declared.halt.StepFault.TheVariants.{DiskFault, NoMemory}
use Rattle.view_engine.proofs.CleansThen.{cleans_none, cleans_then}
use Rattle.view_engine.proofs.Sparing.{removing_spared}
use Rattle.view_engine.proofs.StayOpen.{live_stay_open, stay_open}
use Rattle.view_engine.proofs.cleanup.cleanup.Goals as goal

pub returns-in_err-kept-clause-does : goal.returns-in_err-kept-clause-does
returns-in_err-kept-clause-does g c =
    let halt = c.in_err-kept.field-0.0 in
    let reads = c.in_err-kept.ensures.reads in
    subst (λ r. CleansUp g.F.Folder c.args.docs.now c.args.groups.now c.args.groups.now c.args.folder.now c.live_signatures.new.folder c.args.out.now.items c.args.out.now.items r)
    (sym (failed_as c.from_residual.result halt c.from_residual.ensures))
    (cleans_none g.F.Folder c.args.docs.now c.args.groups.now c.args.folder.now c.live_signatures.new.folder c.args.out.now.items halt c.in_err-kept.ensures.stopped reads.disk reads.why reads.later)

pub returns-in_err-append_done-clause-does : goal.returns-in_err-append_done-clause-does
returns-in_err-append_done-clause-does g c =
    let reads = c.in_ok-kept.ensures.reads in
    subst (λ (out : List ℕ). CleansUp g.F.Folder c.args.docs.now c.args.groups.now c.args.groups.now c.args.folder.now c.live_signatures.new.folder c.args.out.now.items out c.from_residual-in_err-append_done.result) (sym c.in_err-append_done.ensures.silent)
    (subst (λ r. CleansUp g.F.Folder c.args.docs.now c.args.groups.now c.args.groups.now c.args.folder.now c.live_signatures.new.folder c.args.out.now.items c.args.out.now.items r)
    (sym (failed_as c.from_residual-in_err-append_done.result (Stopped NoMemory) c.from_residual-in_err-append_done.ensures))
    (cleans_none g.F.Folder c.args.docs.now c.args.groups.now c.args.folder.now c.live_signatures.new.folder c.args.out.now.items (Stopped NoMemory) tt reads.disk tt reads.later))

pub returns-in-Ok-clause-does : goal.returns-in-Ok-clause-does
returns-in-Ok-clause-does g c =
    let docs = c.args.docs.now in
    let reads = c.in_ok-kept.ensures.reads in
    cleans_then g.F.Folder docs c.args.groups.now c.args.folder.now c.clean_up.new.self c.live_signatures.new.folder c.clean_up.new.folder c.as_slice.result.now reads.disk reads.later
    (λ history. told_now (g.F.Folder.disk c.args.folder.now) _ (λ d. IsAt docs d.now history → AreLiveSignatures history c.as_slice.result.now) (λ d live at. subst (AreLiveSignatures history) (sym c.as_slice.ensures.value) (live at)) (c.in_ok-kept.ensures.history history))
    (told_now (g.F.Folder.disk c.args.folder.now) _ (λ d. AreHeldSignatures docs (bytes_in docs d.now) c.as_slice.result.now) (λ d are. subst (AreHeldSignatures docs (bytes_in docs d.now)) (sym c.as_slice.ensures.value) are) c.in_ok-kept.ensures.held)
    (Ok tt) c.in-Ok.ensures c.in_ok-append_done.ensures.ok tt

pub returns-clause-does : goal.returns-clause-does
returns-clause-does g c =
    let docs = c.args.docs.now in
    let reads = c.in_ok-kept.ensures.reads in
    let silent : c.truncate.new.self.items ≡ c.args.out.now.items = grind (arith, common_steps) in
    rw c.halt_of.ensures (cleans_then g.F.Folder docs c.args.groups.now c.args.folder.now c.clean_up.new.self c.live_signatures.new.folder c.clean_up.new.folder c.as_slice.result.now reads.disk reads.later
    (λ history. told_now (g.F.Folder.disk c.args.folder.now) _ (λ d. IsAt docs d.now history → AreLiveSignatures history c.as_slice.result.now) (λ d live at. subst (AreLiveSignatures history) (sym c.as_slice.ensures.value) (live at)) (c.in_ok-kept.ensures.history history))
    (told_now (g.F.Folder.disk c.args.folder.now) _ (λ d. AreHeldSignatures docs (bytes_in docs d.now) c.as_slice.result.now) (λ d are. subst (AreHeldSignatures docs (bytes_in docs d.now)) (sym c.as_slice.ensures.value) are) c.in_ok-kept.ensures.held)
    (Err c.in-Err.fault) c.in-Err.ensures tt silent)

-- ---- no fault of the folder was counted, unless it ended the cleanup

pub returns-in_err-kept-clause-spares : goal.returns-in_err-kept-clause-spares
returns-in_err-kept-clause-spares g c = λ other.
    let halt = c.in_err-kept.field-0.0 in
    c.in_err-kept.ensures.spares (λ is. other (failed_as c.from_residual.result halt c.from_residual.ensures ∙ ap Err (let same : halt ≡ Stopped DiskFault = cc in same)))

pub returns-in_err-append_done-clause-spares : goal.returns-in_err-append_done-clause-spares
returns-in_err-append_done-clause-spares g c = λ other. c.in_ok-kept.ensures.spares (λ is. let no : ⊥ = cc in no)

pub returns-in-Ok-clause-spares : goal.returns-in-Ok-clause-spares
returns-in-Ok-clause-spares g c = λ other. c.in-Ok.ensures.cause.still (λ is. let no : ⊥ = cc in no) ∙ c.in_ok-kept.ensures.spares (λ is. let no : ⊥ = cc in no)

pub returns-clause-spares : goal.returns-clause-spares
returns-clause-spares g c = λ other.
    removing_spared g.F.Folder c.live_signatures.new.folder c.clean_up.new.folder c.in-Err.fault c.halt_of.result c.in-Err.ensures.cause c.halt_of.ensures other
    ∙ c.in_ok-kept.ensures.spares (λ is. let no : ⊥ = cc in no)

-- ---- open indexes of live signatures stay open

pub returns-in_err-kept-clause-stay : goal.returns-in_err-kept-clause-stay
returns-in_err-kept-clause-stay g c = stay_open g.F.Folder c.args.docs.now c.args.groups.now c.args.folder.now

pub returns-in_err-append_done-clause-stay : goal.returns-in_err-append_done-clause-stay
returns-in_err-append_done-clause-stay g c = stay_open g.F.Folder c.args.docs.now c.args.groups.now c.args.folder.now

pub returns-in-Ok-clause-stay : goal.returns-in-Ok-clause-stay
returns-in-Ok-clause-stay g c =
    live_stay_open g.F.Folder c.args.docs.now c.args.groups.now c.clean_up.new.self c.args.folder.now c.as_slice.result.now
    (told_now (g.F.Folder.disk c.args.folder.now) _ (λ d. AreHeldSignatures c.args.docs.now (bytes_in c.args.docs.now d.now) c.as_slice.result.now)
    (λ d are. subst (AreHeldSignatures c.args.docs.now (bytes_in c.args.docs.now d.now)) (sym c.as_slice.ensures.value) are) c.in_ok-kept.ensures.held)
    c.in-Ok.ensures.stay

pub returns-clause-stay : goal.returns-clause-stay
returns-clause-stay g c =
    live_stay_open g.F.Folder c.args.docs.now c.args.groups.now c.clean_up.new.self c.args.folder.now c.as_slice.result.now
    (told_now (g.F.Folder.disk c.args.folder.now) _ (λ d. AreHeldSignatures c.args.docs.now (bytes_in c.args.docs.now d.now) c.as_slice.result.now)
    (λ d are. subst (AreHeldSignatures c.args.docs.now (bytes_in c.args.docs.now d.now)) (sym c.as_slice.ensures.value) are) c.in_ok-kept.ensures.held)
    c.in-Err.ensures.stay
