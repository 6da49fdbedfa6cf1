-- A live document of the history is spelled at its place.
use Rattle.std.proofs.Common.{◌≡◌, ◌∙◌, ℕ, Some, Err, IfOk, subst, sym, ap}
use Rattle.json_terms.specs.Json.{Json}
use Rattle.json_terms.specs.Seen.{json}
use Rattle.view_ports.specs.declared.file_name.FileName.{FileName}
use Rattle.view_ports.proofs.Told.{told_now}
use Rattle.gate_file.specs.declared.fault.GateFault.TheVariants.{Damaged}
use Rattle.doc_file.specs.declared.fault.DocFault.TheVariants.{Gate}
use Rattle.doc_file.specs.Docs.{last_of, IsAt}
use Rattle.doc_file.specs.Held.{HasBody, find_last}
use Rattle.design_docs.specs.History.{live_document}
use Rattle.doc_file.proofs.Known.{body_is, is_spelled, ok_then, place_is}
use Rattle.doc_file.proofs.docs.Docs.get.Goals as goal

pub returns-else-last-clause-document : goal.returns-else-last-clause-document
returns-else-last-clause-document g c = λ history.
    let docs = c.args.self.now in
    let id = c.args.id.now in
    let last = c.in-Some.last in
    let found : last_of docs id ≡ Some last = ap (find_last id) (sym c.as_slice.ensures.value) ∙ sym c.find_last.ensures ∙ c.in-Some.is in
    told_now (g.F.Folder.disk c.args.folder.now)
    (λ d. IfOk c.load_body.result (λ t. HasBody id (d.now c.name.result).seen last (json t)))
    (λ d. IsAt docs d.now history → IfOk c.load_body.result (λ t. live_document history id ≡ Some (json t)))
    (λ d held at. ok_then c.load_body.result (λ t. HasBody id (d.now c.name.result).seen last (json t)) (λ t. live_document history id ≡ Some (json t))
    (λ t body. body_is docs d.now history at id last found c.if-last.false (json t) (subst (λ n. HasBody id (d.now n).seen last (json t)) c.name.ensures body)) held)
    c.load_body.ensures.held

pub returns-else-last-clause-sound : goal.returns-else-last-clause-sound
returns-else-last-clause-sound g c = λ history.
    let docs = c.args.self.now in
    let id = c.args.id.now in
    let last = c.in-Some.last in
    let found : last_of docs id ≡ Some last = ap (find_last id) (sym c.as_slice.ensures.value) ∙ sym c.find_last.ensures ∙ c.in-Some.is in
    told_now (g.F.Folder.disk c.args.folder.now)
    (λ d. c.load_body.result ≡ Err (Gate (Damaged c.name.result last.offset)) → (t : Json) → HasBody id (d.now c.name.result).seen last t → ⊥)
    (λ d. IsAt docs d.now history → (n : FileName) (at : ℕ) → c.load_body.result ≡ Err (Gate (Damaged n at)) → ⊥)
    (λ d none at n place failed. is_spelled docs d.now history at id last found c.if-last.false
    (λ t body. none (place_is c.load_body.result c.name.result n last.offset place c.load_body.ensures.faults failed) t (subst (λ name. HasBody id (d.now name).seen last t) (sym c.name.ensures) body)))
    c.load_body.ensures.damaged
