-- A deletion is what the documents make of it.
use Rattle.std.specs.Prelude.{option_map}
use Rattle.std.proofs.Common.{◌≡◌, ◌∙◌, ◌++◌, ℕ, List, Option, Ok, Err, refl, sym, subst, arith, rules}
use Rattle.std.proofs.lemmas.Grind.{common_steps}
use Rattle.view_ports.specs.Lines.{ended}
use Rattle.doc_file.specs.Accepted.{state_in}
use Rattle.doc_file.specs.Docs.{last_of}
use Rattle.doc_file.specs.Writes.{IsRefusedDelete}
use Rattle.view_engine.specs.declared.request.Request.TheVariants.{Delete}
use Rattle.view_engine.specs.Calls.{ActsHere, IsReplyLine}
use Rattle.view_engine.specs.Halts.{halted_as}
use Rattle.view_engine.specs.Replies.{accepted_reply}
use Rattle.doc_file.proofs.NotOfFile.{delete_not_of_file}
use Rattle.view_engine.proofs.ServerFaults.{unlike_accepted}
use Rattle.view_engine.proofs.Stored.{spent_here, unwritten_here, wrote_here}
use Rattle.view_engine.proofs.Writing.{met, delete_does, delete_is_write, delete_refused, reply_to}
use Rattle.view_engine.proofs.Sparing.{documents_spared}
use Rattle.view_engine.proofs.writes.delete.Goals as goal

-- both arguments of the call
both : {i j : List ℕ} {a b : Option (List ℕ)} (P : List ℕ → Option (List ℕ) → Type 0) → i ≡ j → a ≡ b → P i a → P j b
both {i} {j} {a} {b} P is same holds = subst (P j) same (subst (λ n. P n a) is holds)

pub returns-in_err-append_accepted-clause-does : goal.returns-in_err-append_accepted-clause-does
returns-in_err-append_accepted-clause-does g c = spent_here c.requires.open c.in_err-append_accepted.ensures.silent c.from_residual.ensures.1

pub returns-in-Ok-clause-does : goal.returns-in-Ok-clause-does
returns-in-Ok-clause-does g c =
    let docs = c.args.docs.now in
    let id = c.as_str-2.result.now in
    let given = option_map (λ text. text.now) c.text_of.result in
    let appended : c.append_accepted.new.out.items ≡ c.args.out.now.items ++ ended (accepted_reply docs id) = search rules in
    both (λ i rev. ActsHere g.F.Folder docs c.delete.new.self c.args.folder.now c.delete.new.folder (Delete i rev) c.args.out.now.items c.append_accepted.new.out.items (Ok tt)) c.as_str-2.ensures c.text_of.ensures
    (wrote_here (accepted_reply docs id) (λ files world at accepted. delete_does docs files world at id given accepted (reply_to docs files world at c.as_str.result.now id (c.as_str.ensures ∙ sym c.as_str-2.ensures) (c.in_ok-append_accepted.ensures.history files world.history at)))
    (λ files world at accepted. delete_is_write docs files world at id given accepted (reply_to docs files world at c.as_str.result.now id (c.as_str.ensures ∙ sym c.as_str-2.ensures) (c.in_ok-append_accepted.ensures.history files world.history at))) tt (λ accepted. accepted) refl (λ has. has) (λ fits. fits) (subst (λ (i : List ℕ). IsReplyLine (accepted_reply docs i)) (c.as_str.ensures ∙ sym c.as_str-2.ensures) c.in_ok-append_accepted.ensures.line) (λ other. unlike_accepted docs id) appended c.in-Ok.ensures)

pub returns-clause-does : goal.returns-clause-does
returns-clause-does g c =
    let docs = c.args.docs.now in
    let id = c.as_str-2.result.now in
    let given = option_map (λ text. text.now) c.text_of.result in
    let silent : c.truncate.new.self.items ≡ c.args.out.now.items = grind (arith, common_steps) in
    rw c.from.ensures (both (λ i rev. ActsHere g.F.Folder docs c.delete.new.self c.args.folder.now c.delete.new.folder (Delete i rev) c.args.out.now.items c.truncate.new.self.items (Err (halted_as c.in-Err.fault)))
    c.as_str-2.ensures c.text_of.ensures (unwritten_here (accepted_reply docs id) (λ files world at accepted. delete_does docs files world at id given accepted (reply_to docs files world at c.as_str.result.now id (c.as_str.ensures ∙ sym c.as_str-2.ensures) (c.in_ok-append_accepted.ensures.history files world.history at)))
    (λ files world at accepted. delete_is_write docs files world at id given accepted (reply_to docs files world at c.as_str.result.now id (c.as_str.ensures ∙ sym c.as_str-2.ensures) (c.in_ok-append_accepted.ensures.history files world.history at))) tt (λ accepted. accepted) refl (λ has. has)
    (delete_not_of_file (state_in (last_of docs id)) given) (λ fault is refusal same. met docs.file fault refusal (IsRefusedDelete (state_in (last_of docs id)) given) is same)
    (λ files world at refusal is. delete_refused docs files world at id given refusal is) (λ name length full. full) (λ fits. fits) silent c.requires.open c.in-Err.ensures))

pub returns-in-Ok-clause-spares : goal.returns-in-Ok-clause-spares
returns-in-Ok-clause-spares g c = λ other. c.in-Ok.ensures.stored.cause.still (λ is. let no : ⊥ = cc in no)

pub returns-clause-spares : goal.returns-clause-spares
returns-clause-spares g c = documents_spared g.F.Folder c.args.folder.now c.delete.new.folder c.in-Err.fault c.from.result c.in-Err.ensures.stored.cause c.from.ensures
