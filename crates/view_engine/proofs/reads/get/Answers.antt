-- The document that is printed is the live one, and a fault says what the documents' fault said.
use Rattle.std.proofs.Common.{◌≡◌, ◌++◌, ◌∙◌, Some, refl, rules}
use Rattle.json_terms.specs.Seen.{json}
use Rattle.json_terms.specs.Text.{text_of}
use Rattle.view_ports.specs.Lines.{ended}
use Rattle.view_ports.proofs.Told.{told_all, told_now}
use Rattle.doc_file.specs.Docs.{IsAt}
use Rattle.design_docs.specs.History.{live_document}
use Rattle.view_engine.specs.declared.refusal.Refusal.{Refusal}
use Rattle.view_engine.specs.declared.halt.Halt.TheVariants.{Refused}
use Rattle.view_engine.specs.Get.{not_live}
use Rattle.view_engine.specs.Halts.{halted_as}
use Rattle.view_engine.specs.InMemory.{state_at}
use Rattle.view_engine.proofs.Following.{get_refused, got_live, got_refused, got_stopped, same_docs}
use Rattle.view_engine.proofs.Reading.{read_done, read_spent, read_stopped, why_of_get}
use Rattle.view_engine.proofs.ReplyLines.{document_line}
use Rattle.view_engine.proofs.ServerFaults.{halted_unblamed}
use Rattle.view_engine.proofs.Sparing.{documents_spared}
use Rattle.view_engine.proofs.reads.get.Goals as goal

pub returns-in_err-end-in-Ok-clause-does : goal.returns-in_err-end-in-Ok-clause-does
returns-in_err-end-in-Ok-clause-does g c =
    let silent : c.end.new.out.items ≡ c.args.out.now.items = c.in_err-end-in-Ok.ensures.err ∙ c.put_term-written.ensures.before ∙ c.behind-reply.ensures.before in
    read_spent c.requires.open c.in-Ok.ensures.disk c.in-Ok.ensures.cause.later tt silent c.from_residual.ensures.1

pub returns-in_ok-end-in-Ok-clause-does : goal.returns-in_ok-end-in-Ok-clause-does
returns-in_ok-end-in-Ok-clause-does g c =
    let document = json c.in-Ok.document in
    let docs = c.args.docs.now in
    let appended : c.end.new.out.items ≡ c.args.out.now.items ++ ended (text_of document) = search rules in
    read_done c.requires.open c.in-Ok.ensures.disk c.in-Ok.ensures.cause.later tt (text_of document) (document_line document c.in-Ok.ensures.body.document_is) (λ other. cc)
    (got_live docs c.args.id.now c.in-Ok.document c.in-Ok.ensures.missing.1 c.in-Ok.ensures.deleted.1) (record { document = document; read = record { body = c.in-Ok.ensures.body; live = c.in-Ok.ensures.live }; is = refl }) tt (record { documents = same_docs docs; folder = λ none. absurd (none tt) }) appended (λ world.
    told_now (g.F.Folder.disk c.args.folder.now) (λ d. IsAt docs d.now world.history → live_document world.history c.args.id.now ≡ Some document) _ (λ d live at. ((document, live at, refl), refl))
    (c.in-Ok.ensures.document world.history))

pub returns-in-Err-clause-does : goal.returns-in-Err-clause-does
returns-in-Err-clause-does g c =
    let docs = c.args.docs.now in
    let refuses : (refusal : Refusal) → halted_as c.in-Err.fault ≡ Refused refusal → not_live (state_at docs c.args.id.now) ≡ Some refusal =
    λ refusal. got_refused docs c.args.id.now c.in-Err.fault refusal c.in-Err.ensures.missing.0 c.in-Err.ensures.deleted.0 c.in-Err.ensures.faults in
    rw c.from.ensures (read_stopped c.requires.open c.in-Err.ensures.disk c.in-Err.ensures.cause.later (halted_unblamed c.in-Err.fault) tt refl refuses
    (λ step is other. got_stopped docs c.args.id.now c.in-Err.fault step c.in-Err.ensures.missing.1 c.in-Err.ensures.deleted.1 is)
    (λ refusal is world. told_all (g.F.Folder.disk c.args.folder.now) _ (λ d at. get_refused docs d.now world at c.args.id.now refusal (refuses refusal is)))
    (why_of_get _ g.F.Folder c.args.docs.now c.args.folder.now c.get.new.folder c.args.id.now c.in-Err.fault c.in-Err.ensures.cause c.in-Err.ensures.deleted.1 c.in-Err.ensures.damaged c.in-Err.ensures.sound c.in-Err.ensures.faults))

pub returns-in_err-end-in-Ok-clause-spares : goal.returns-in_err-end-in-Ok-clause-spares
returns-in_err-end-in-Ok-clause-spares g c = λ other. c.in-Ok.ensures.cause.still (λ is. let no : ⊥ = cc in no)

pub returns-in_ok-end-in-Ok-clause-spares : goal.returns-in_ok-end-in-Ok-clause-spares
returns-in_ok-end-in-Ok-clause-spares g c = λ other. c.in-Ok.ensures.cause.still (λ is. let no : ⊥ = cc in no)

pub returns-in-Err-clause-spares : goal.returns-in-Err-clause-spares
returns-in-Err-clause-spares g c = documents_spared g.F.Folder c.args.folder.now c.get.new.folder c.in-Err.fault c.from.result c.in-Err.ensures.cause c.from.ensures
