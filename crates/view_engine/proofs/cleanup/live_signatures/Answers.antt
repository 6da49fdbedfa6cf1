-- Id by id.
use Rattle.std.proofs.Common.{take, take_all, ◌≡◌, ◌∙◌, ◌+◌, List, [], Err, refl, sym, ap, subst}
use Rattle.view_ports.proofs.Told.{told_all, told_now, told_pair}
use Rattle.change_mapper.proofs.OnlyReading.{failed_as}
use Rattle.doc_file.specs.Docs.{bytes_in, IsAt}
use Rattle.view_engine.specs.Cleaning.{IsSignatureOf}
use Rattle.doc_file.specs.Designs.{AreDesignIds, AreDesignsOf}
use Rattle.view_engine.specs.Disks.{Reads}
use Rattle.view_engine.specs.HeldDesigns.{AreHeldSignatures, IsSignatureIn}
use Rattle.view_engine.specs.declared.halt.Halt.TheVariants.{Stopped}
use Rattle.view_engine.specs.declared.halt.StepFault.TheVariants.{DiskFault, NoMemory}
use Rattle.view_engine.proofs.LiveSignatures.{at_history_before, files_before, held_signatures, live_signatures, no_signatures, one_signature_more, reads_done, reads_failed, reads_nothing, reads_spent, AreSignaturesOf}
use Rattle.view_engine.proofs.OnDisk.{reads_then}
use Rattle.view_engine.proofs.cleanup.live_signatures.Goals as goal

pub loop-id-init : goal.loop-id-init
loop-id-init g c = (
  reads_nothing g.F.Folder c.args.docs.now c.args.folder.now,
  λ history. told_all (g.F.Folder.disk c.args.folder.now) _ (λ d at. subst (AreSignaturesOf (IsSignatureOf history) []) (sym c.in_ok-signatures.ensures.items) (no_signatures (IsSignatureOf history))),
  refl,
  told_all (g.F.Folder.disk c.args.folder.now) _ (λ d. subst (AreSignaturesOf (IsSignatureIn c.args.docs.now (bytes_in c.args.docs.now d.now)) []) (sym c.in_ok-signatures.ensures.items)
      (no_signatures (IsSignatureIn c.args.docs.now (bytes_in c.args.docs.now d.now)))),
)

pub returns-in_err-signature_in-clause-reads : goal.returns-in_err-signature_in-clause-reads
returns-in_err-signature_in-clause-reads g c =
    let halt = c.in_err-signature_in.field-0.0 in
    subst (λ r. Reads g.F.Folder c.args.docs.now c.args.folder.now c.signature_in.new.folder r) (sym (failed_as c.from_residual-in_err-signature_in.result halt c.from_residual-in_err-signature_in.ensures))
    (reads_failed g.F.Folder c.args.docs.now c.args.folder.now c.signature_in.new.folder _ _ halt (reads_then c.loop-id.invariant.0 c.in_err-signature_in.ensures.reads))

pub returns-in_err-push-clause-reads : goal.returns-in_err-push-clause-reads
returns-in_err-push-clause-reads g c =
    let here = reads_then c.loop-id.invariant.0 c.in_ok-signature_in.ensures.reads in
    subst (λ r. Reads g.F.Folder c.args.docs.now c.args.folder.now c.signature_in.new.folder r) (sym (failed_as c.from_residual-in_err-push.result (Stopped NoMemory) c.from_residual-in_err-push.ensures))
    (reads_spent g.F.Folder c.args.docs.now c.args.folder.now c.signature_in.new.folder _ (record { disk = here.disk; why = tt; later = here.later }))

pub loop-id-preserved : goal.loop-id-preserved
loop-id-preserved g c =
    let docs = c.args.docs.now in
    let here = reads_then c.loop-id.invariant.0 c.in_ok-signature_in.ensures.reads in
    let disk = g.F.Folder.disk c.args.folder.now in
    let ids = c.deref-id-items.result.now in
    let i = c.loop-id.id-index in (
      record { disk = here.disk; why = tt; later = here.later },
      λ history. told_pair disk (λ d. IsAt docs d.now history → AreSignaturesOf (IsSignatureOf history) (take i ids) c.loop-id.signatures.items) _ (λ d. IsAt docs d.now history → AreSignaturesOf (IsSignatureOf history) (take (i + 1) ids) c.push.new.self.items)
          (λ d before one at. subst (AreSignaturesOf (IsSignatureOf history) (take (i + 1) ids)) (sym c.in_ok-push.ensures.items) (one_signature_more (IsSignatureOf history) ids c.loop-id.signatures.items i c.id-item.result c.in_ok-signature_in.field-0 c.loop-id-test.true c.id-item.is (before at)
          (subst (λ id. IsSignatureOf history id c.in_ok-signature_in.field-0) c.as_str.ensures (one at))))
          (c.loop-id.invariant.1 history)
          (at_history_before g.F.Folder docs c.args.folder.now c.loop-id.folder history _ (c.loop-id.invariant.0).disk (c.in_ok-signature_in.ensures.history history)),
      c.in_ok-signature_in.ensures.spares (λ is. let no : ⊥ = cc in no) ∙ c.loop-id.invariant.2,
      told_pair disk (λ d. AreSignaturesOf (IsSignatureIn docs (bytes_in docs d.now)) (take i ids) c.loop-id.signatures.items)
          (λ d. IsSignatureIn docs (bytes_in docs d.now) c.as_str.result.now c.in_ok-signature_in.field-0)
          (λ d. AreSignaturesOf (IsSignatureIn docs (bytes_in docs d.now)) (take (i + 1) ids) c.push.new.self.items)
          (λ d before one. subst (AreSignaturesOf (IsSignatureIn docs (bytes_in docs d.now)) (take (i + 1) ids)) (sym c.in_ok-push.ensures.items)
          (one_signature_more (IsSignatureIn docs (bytes_in docs d.now)) ids c.loop-id.signatures.items i c.id-item.result c.in_ok-signature_in.field-0 c.loop-id-test.true c.id-item.is before
          (subst (λ id. IsSignatureIn docs (bytes_in docs d.now) id c.in_ok-signature_in.field-0) c.as_str.ensures one)))
          c.loop-id.invariant.3
          (files_before g.F.Folder docs c.args.folder.now c.loop-id.folder (λ files. IsSignatureIn docs (bytes_in docs files) c.as_str.result.now c.in_ok-signature_in.field-0) (c.loop-id.invariant.0).disk c.in_ok-signature_in.ensures.held),
    )

pub returns-clause-history : goal.returns-clause-history
returns-clause-history g c = λ history.
    let docs = c.args.docs.now in
    let ids = c.deref-id-items.result.now in
    let whole : take c.loop-id.id-index ids ≡ ids = take_all c.loop-id.id-index ids c.loop-id-test.false in
    told_now (g.F.Folder.disk c.args.folder.now) (λ d. IsAt docs d.now history → AreSignaturesOf (IsSignatureOf history) (take c.loop-id.id-index ids) c.loop-id.signatures.items) _
    (λ d are at. live_signatures history ids c.loop-id.signatures.items (subst (AreDesignsOf history) (sym c.deref-id-items.ensures.value) (c.in_ok-ids.ensures.history d.now history at))
    (subst (λ (l : List (List _)). AreSignaturesOf (IsSignatureOf history) l c.loop-id.signatures.items) whole (are at))) (c.loop-id.invariant.1 history)

pub returns-clause-held : goal.returns-clause-held
returns-clause-held g c =
    let docs = c.args.docs.now in
    let ids = c.deref-id-items.result.now in
    let whole : take c.loop-id.id-index ids ≡ ids = take_all c.loop-id.id-index ids c.loop-id-test.false in
    told_now (g.F.Folder.disk c.args.folder.now) (λ d. AreSignaturesOf (IsSignatureIn docs (bytes_in docs d.now)) (take c.loop-id.id-index ids) c.loop-id.signatures.items)
    (λ d. AreHeldSignatures docs (bytes_in docs d.now) c.loop-id.signatures.items)
    (λ d are. held_signatures docs (bytes_in docs d.now) ids c.loop-id.signatures.items (subst (AreDesignIds docs) (sym c.deref-id-items.ensures.value) c.in_ok-ids.ensures.kept)
    (subst (λ (l : List (List _)). AreSignaturesOf (IsSignatureIn docs (bytes_in docs d.now)) l c.loop-id.signatures.items) whole are)) c.loop-id.invariant.3

pub returns-clause-reads : goal.returns-clause-reads
returns-clause-reads g c = reads_done g.F.Folder c.args.docs.now c.args.folder.now c.loop-id.folder _ c.loop-id.signatures c.loop-id.invariant.0

pub returns-in_err-signature_in-clause-spares : goal.returns-in_err-signature_in-clause-spares
returns-in_err-signature_in-clause-spares g c = λ other.
    let halt = c.in_err-signature_in.field-0.0 in
    c.in_err-signature_in.ensures.spares (λ is. other (failed_as c.from_residual-in_err-signature_in.result halt c.from_residual-in_err-signature_in.ensures ∙ ap Err (let same : halt ≡ Stopped DiskFault = cc in same)))
    ∙ c.loop-id.invariant.2

pub returns-in_err-push-clause-spares : goal.returns-in_err-push-clause-spares
returns-in_err-push-clause-spares g c = λ other. c.in_ok-signature_in.ensures.spares (λ is. let no : ⊥ = cc in no) ∙ c.loop-id.invariant.2

pub returns-clause-spares : goal.returns-clause-spares
returns-clause-spares g c = λ other. c.loop-id.invariant.2
