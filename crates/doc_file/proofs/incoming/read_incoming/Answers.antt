-- What is read fits, and a content has a design where its document does.
use Rattle.std.proofs.Common.{◌≡◌, ◌⊎◌, ⊎_elim, ◌∙◌, inl, inr, sym, ap, subst, rules}
use Rattle.std.specs.Prelude.{IfErr}
use Rattle.std.proofs.lemmas.Result.{err_from_is_err_and}
use Rattle.json_terms.specs.Seen.{json}
use Rattle.design_docs.specs.Documents.{id_of, is_design_id}
use Rattle.design_docs.specs.Faults.{design_fault, HasDesign}
use Rattle.doc_file.specs.declared.fault.DocFault.{DocFault}
use Rattle.doc_file.specs.declared.fault.DocFault.TheVariants.{NoMemory}
use Rattle.doc_file.specs.Incoming.{HasId, HasMembers, HasRevision, IsBadDesign, IsShallow, IsSmall, IsUnfit, NeedsDesign}
use Rattle.doc_file.proofs.Storable.{content_design, unfit_design}
use Rattle.doc_file.proofs.incoming.read_incoming.Goals as goal

pub returns-in_err-check_design-clause-err : goal.returns-in_err-check_design-clause-err
returns-in_err-check_design-clause-err c =
    let document = json c.args.document in
    let id : HasId document = search rules in
    let members : HasMembers document = search rules in
    let revision : HasRevision document = search rules in
    let small : IsSmall document = search rules in
    let shallow : IsShallow document = search rules in
    let named : c.as_str.result.now ≡ id_of document = c.as_str.ensures ∙ c.in_ok-id.ensures ∙ c.id_of-2.ensures in
    let stored = json c.in_ok-content.content in
    let err = err_from_is_err_and c.from_residual-in_err-check_design.result c.from_residual-in_err-check_design.ensures.1 in
    let fault : DocFault = err.0 in
    let why : IsBadDesign c.as_str.result.now c.deletes-deletes.result stored fault ⊎ (fault ≡ NoMemory) = search rules in
    let unfit : IsUnfit document fault ⊎ (fault ≡ NoMemory) =
    ⊎_elim (λ bad. inl (unfit_design document stored c.as_str.result.now c.deletes-deletes.result fault named c.deletes-deletes.ensures c.in_ok-content.ensures id members revision small shallow bad)) (λ spent. inr spent) why in
    subst (λ r. IfErr r (λ e. IsUnfit document e ⊎ (e ≡ NoMemory))) (sym err.1) unfit

pub returns-clause-ok : goal.returns-clause-ok
returns-clause-ok c =
    let document = json c.args.document in
    let id : HasId document = search rules in
    let members : HasMembers document = search rules in
    let revision : HasRevision document = search rules in
    let small : IsSmall document = search rules in
    let shallow : IsShallow document = search rules in
    let named : c.as_str.result.now ≡ id_of document = c.as_str.ensures ∙ c.in_ok-id.ensures ∙ c.id_of-2.ensures in
    let design : NeedsDesign document → HasDesign document = λ needs.
    sym (content_design document) ∙ ap design_fault (sym c.in_ok-content.ensures)
    ∙ c.in_ok-check_design.ensures.ok (ap is_design_id named ∙ needs.0, c.deletes-deletes.ensures ∙ needs.1) in
    record {
      writable = record { id = id; members = members; revision = revision; small = small; shallow = shallow; design = design };
      id = c.in_ok-id.ensures ∙ c.id_of-2.ensures;
      given = c.in_ok-given.ensures;
      deletes = c.deletes-deletes.ensures;
      content = c.in_ok-content.ensures;
    }
