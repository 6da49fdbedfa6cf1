-- A put is what the documents make of it.
use Rattle.std.proofs.Common.{◌≡◌, ◌++◌, ℕ, List, refl, subst, arith, rules}
use Rattle.json_terms.specs.Json.{Json, object, members_of}
use Rattle.std.proofs.lemmas.Grind.{common_steps}
use Rattle.view_ports.specs.Lines.{ended}
use Rattle.design_docs.specs.Documents.{id_of}
use Rattle.doc_file.specs.Accepted.{state_in}
use Rattle.doc_file.specs.Docs.{last_of}
use Rattle.doc_file.specs.Writes.{IsRefusedPut}
use Rattle.view_engine.specs.Calls.{IsReplyLine}
use Rattle.view_engine.specs.Replies.{accepted_reply}
use Rattle.doc_file.proofs.NotOfFile.{put_not_of_file}
use Rattle.view_engine.proofs.ServerFaults.{unlike_accepted}
use Rattle.view_engine.proofs.Stored.{spent_here, unwritten_here, wrote_here}
use Rattle.view_engine.proofs.Writing.{met, put_does, put_is_write, put_refused, reply_to}
use Rattle.view_engine.proofs.Sparing.{documents_spared}
use Rattle.view_engine.proofs.writes.put.Goals as goal

pub returns-in_err-append_accepted-clause-does : goal.returns-in_err-append_accepted-clause-does
returns-in_err-append_accepted-clause-does g c = spent_here c.requires.open c.in_err-append_accepted.ensures.silent c.from_residual.ensures.1

pub returns-in-Ok-clause-does : goal.returns-in-Ok-clause-does
returns-in-Ok-clause-does g c =
    let docs = c.args.docs.now in
    let json : Json = object (members_of c.args.document) in
    let appended : c.append_accepted.new.out.items ≡ c.args.out.now.items ++ ended (accepted_reply docs (id_of json)) = search rules in
    wrote_here (accepted_reply docs (id_of json)) (λ files world at accepted. put_does docs files world at json accepted (reply_to docs files world at c.id_of.result.now (id_of json) c.id_of.ensures (c.in_ok-append_accepted.ensures.history files world.history at)))
    (λ files world at accepted. put_is_write docs files world at c.args.document accepted (reply_to docs files world at c.id_of.result.now (id_of json) c.id_of.ensures (c.in_ok-append_accepted.ensures.history files world.history at))) tt (λ accepted. accepted) refl (λ has. has) (λ fits. fits) (subst (λ (i : List ℕ). IsReplyLine (accepted_reply docs i)) c.id_of.ensures c.in_ok-append_accepted.ensures.line) (λ other. unlike_accepted docs (id_of json)) appended c.in-Ok.ensures

pub returns-in-Err-clause-does : goal.returns-in-Err-clause-does
returns-in-Err-clause-does g c =
    let docs = c.args.docs.now in
    let json : Json = object (members_of c.args.document) in
    let silent : c.truncate.new.self.items ≡ c.args.out.now.items = grind (arith, common_steps) in
    rw c.from.ensures (unwritten_here (accepted_reply docs (id_of json)) (λ files world at accepted. put_does docs files world at json accepted (reply_to docs files world at c.id_of.result.now (id_of json) c.id_of.ensures (c.in_ok-append_accepted.ensures.history files world.history at)))
    (λ files world at accepted. put_is_write docs files world at c.args.document accepted (reply_to docs files world at c.id_of.result.now (id_of json) c.id_of.ensures (c.in_ok-append_accepted.ensures.history files world.history at))) tt (λ accepted. accepted) refl (λ has. has)
    (put_not_of_file (state_in (last_of docs (id_of json))) json) (λ fault is refusal same. met docs.file fault refusal (IsRefusedPut (state_in (last_of docs (id_of json))) json) is same)
    (λ files world at refusal is. put_refused docs files world at json refusal is) (λ name length full. full) (λ fits. fits) silent c.requires.open c.in-Err.ensures)

pub returns-in-Ok-clause-spares : goal.returns-in-Ok-clause-spares
returns-in-Ok-clause-spares g c = λ other. c.in-Ok.ensures.stored.cause.still (λ is. let no : ⊥ = cc in no)

pub returns-in-Err-clause-spares : goal.returns-in-Err-clause-spares
returns-in-Err-clause-spares g c = documents_spared g.F.Folder c.args.folder.now c.put.new.folder c.in-Err.fault c.from.result c.in-Err.ensures.stored.cause c.from.ensures
