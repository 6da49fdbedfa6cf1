-- The signature is that of the live document's design.
use Rattle.std.proofs.Common.{◌≡◌, Some, sym}
use Rattle.json_terms.specs.Seen.{json}
use Rattle.view_ports.proofs.Told.{told_now}
use Rattle.doc_file.specs.Docs.{bytes_in, last_of, IsAt, IsLive}
use Rattle.design_docs.specs.History.{live_document}
use Rattle.view_engine.specs.Cleaning.{IsSignatureOf}
use Rattle.view_engine.specs.HeldDesigns.{IsSignatureIn}
use Rattle.view_engine.proofs.Reading.{read_of_get}
use Rattle.view_engine.proofs.Sparing.{documents_spared}
use Rattle.view_engine.proofs.cleanup.signature_in.Goals as goal

pub returns-in-Err-clause-reads : goal.returns-in-Err-clause-reads
returns-in-Err-clause-reads g c =
    rw c.from.ensures (read_of_get c.args.id.now c.in-Err.fault c.in-Err.ensures.disk c.in-Err.ensures.cause c.in-Err.ensures.deleted.1 c.in-Err.ensures.damaged c.in-Err.ensures.sound c.in-Err.ensures.faults)

pub returns-clause-history : goal.returns-clause-history
returns-clause-history g c = λ history.
    let docs = c.args.docs.now in
    let id = c.args.id.now in
    let document = json c.in-Ok.document in
    told_now (g.F.Folder.disk c.args.folder.now) (λ d. IsAt docs d.now history → live_document history id ≡ Some document) (λ d. IsAt docs d.now history → IsSignatureOf history id c.in_ok-signature.field-0)
    (λ d live at. (document, live at, sym (c.in_ok-signature.ensures.document document c.in_ok-design.ensures))) (c.in-Ok.ensures.document history)

pub returns-clause-held : goal.returns-clause-held
returns-clause-held g c =
    let docs = c.args.docs.now in
    let id = c.args.id.now in
    let document = json c.in-Ok.document in
    told_now (g.F.Folder.disk c.args.folder.now) (λ d. IsLive id (bytes_in docs d.now) (last_of docs id) document) (λ d. IsSignatureIn docs (bytes_in docs d.now) id c.in_ok-signature.field-0)
    (λ d live. (document, live, sym (c.in_ok-signature.ensures.document document c.in_ok-design.ensures))) c.in-Ok.ensures.live

pub returns-in-Err-clause-spares : goal.returns-in-Err-clause-spares
returns-in-Err-clause-spares g c = documents_spared g.F.Folder c.args.folder.now c.get.new.folder c.in-Err.fault c.from.result c.in-Err.ensures.cause c.from.ensures
