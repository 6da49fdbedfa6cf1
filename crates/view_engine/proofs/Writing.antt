-- Writes that are accepted or refused, as the documents answer them.
use Rattle.std.proofs.Common.{◌≡◌, ◌⊎◌, ℕ, List, Option, None, Some, Ok, inl, inr, refl, sym, ap, ◌∙◌, subst}
use Rattle.json_terms.specs.Json.{Json, members_of, object}
use Rattle.view_ports.specs.File.{File}
use Rattle.view_ports.specs.declared.file_name.FileName.{FileName}
use Rattle.design_docs.specs.Documents.{id_of}
use Rattle.gate_file.specs.declared.gate.GateFile.{GateFile}
use Rattle.gate_file.specs.declared.fault.GateFault.TheVariants as gate
use Rattle.doc_file.specs.declared.docs.Docs.{Docs}
use Rattle.doc_file.specs.declared.fault.DocFault.{DocFault}
use Rattle.doc_file.specs.declared.fault.DocFault.TheVariants as doc
use Rattle.doc_file.specs.Accepted.{State, state_in, state_of}
use Rattle.doc_file.specs.Docs.{bytes_in, entries_of, last_of, IsAt}
use Rattle.doc_file.specs.Stored.{next_revision}
use Rattle.doc_file.specs.Writes.{IsAcceptedDelete, IsAcceptedPut, IsFileFault}
use Rattle.doc_file.proofs.Histories.{state_kept}
use Rattle.view_engine.specs.declared.halt.Halt.TheVariants.{Refused}
use Rattle.view_engine.specs.declared.request.Request.TheVariants.{Delete, Put}
use Rattle.view_engine.specs.declared.refusal.Refusal.{Refusal}
use Rattle.view_engine.specs.Answer.{write_text}
use Rattle.view_engine.specs.Delete.{delete_write, DoesDelete, IsDeleteRefused, IsDeleteRefusedIn}
use Rattle.view_engine.specs.Halts.{halted_as}
use Rattle.view_engine.specs.Put.{put_write, DoesPut, IsPutRefused, IsPutRefusedIn}
use Rattle.view_engine.specs.Refusals.{refused_as}
use Rattle.view_engine.specs.Replies.{accepted_reply}
use Rattle.view_engine.specs.Steps.{IsWrite}
use Rattle.view_engine.specs.World.{World, written}

-- a refusal is met as what the documents refuse
refusal_is : (fault : DocFault) (refusal : Refusal) → halted_as fault ≡ Refused refusal → refusal ≡ refused_as fault
refusal_is doc.BadId refusal is = cc
refusal_is (doc.BadMember name) refusal is = cc
refusal_is doc.BadRev refusal is = cc
refusal_is doc.TooLarge refusal is = cc
refusal_is doc.TooDeep refusal is = cc
refusal_is (doc.BadDesign fault) refusal is = cc
refusal_is doc.Conflict refusal is = cc
refusal_is doc.Missing refusal is = cc
refusal_is doc.Deleted refusal is = cc
refusal_is (doc.Gate gate.DiskFault) refusal is = absurd (cc)
refusal_is (doc.Gate (gate.Damaged name at)) refusal is = absurd (cc)
refusal_is (doc.Gate (gate.Full name length)) refusal is = absurd (cc)
refusal_is (doc.Gate gate.NoMemory) refusal is = absurd (cc)
refusal_is doc.NoMemory refusal is = absurd (cc)

-- a fault of the file is no refusal
file_fault : (file : GateFile) (fault : DocFault) (refusal : Refusal) → IsFileFault file fault → halted_as fault ≡ Refused refusal → ⊥
file_fault file fault refusal (inl is) met = let never : halted_as (doc.Gate gate.DiskFault) ≡ Refused refusal = ap halted_as (sym is) ∙ met in cc
file_fault file fault refusal (inr (inl is)) met = let never : halted_as (doc.Gate (gate.Full file.name (Some file.length))) ≡ Refused refusal = ap halted_as (sym is) ∙ met in cc
file_fault file fault refusal (inr (inr is)) met = let never : halted_as (doc.Gate (gate.Full file.name None)) ≡ Refused refusal = ap halted_as (sym is) ∙ met in cc

no_memory : (fault : DocFault) (refusal : Refusal) → fault ≡ doc.NoMemory → halted_as fault ≡ Refused refusal → ⊥
no_memory fault refusal is met = let never : halted_as doc.NoMemory ≡ Refused refusal = ap halted_as (sym is) ∙ met in cc

-- what is met of a fault is what the documents refuse
pub met : (file : GateFile) (fault : DocFault) (refusal : Refusal) (P : DocFault → Type 0) → P fault ⊎ IsFileFault file fault ⊎ (fault ≡ doc.NoMemory) → halted_as fault ≡ Refused refusal → (f : DocFault) × P f × (refusal ≡ refused_as f)
met file fault refusal P (inl is) same = (fault, is, refusal_is fault refusal same)
met file fault refusal P (inr (inl of_file)) same = absurd (file_fault file fault refusal of_file same)
met file fault refusal P (inr (inr spent)) same = absurd (no_memory fault refusal spent same)

module _ (docs : Docs) (files : FileName → File) (world : World) (at : IsAt docs files world.history) where
  put_accepted : (document : Json) → IsAcceptedPut (state_in (last_of docs (id_of document))) document → IsAcceptedPut (state_of world.history (id_of document)) document
  put_accepted document accepted = subst (λ (s : State). IsAcceptedPut s document) (state_kept world.history (bytes_in docs files) (entries_of docs) at.each (id_of document)) accepted

  -- an accepted put
  pub put_does : (document : Json) → IsAcceptedPut (state_in (last_of docs (id_of document))) document
      → accepted_reply docs (id_of document) ≡ write_text (id_of document) (next_revision world.history (id_of document))
      → DoesPut world document (accepted_reply docs (id_of document)) (written world (put_write world document))
  put_does document accepted reply = record { accepted = put_accepted document accepted; prints = reply; wrote = refl }

  -- it is the request's write
  pub put_is_write : (members : List (List ℕ × Json)) → IsAcceptedPut (state_in (last_of docs (id_of (object (members_of members))))) (object (members_of members))
      → accepted_reply docs (id_of (object (members_of members))) ≡ write_text (id_of (object (members_of members))) (next_revision world.history (id_of (object (members_of members))))
      → IsWrite world (Ok (Put members)) (put_write world (object (members_of members)))
  put_is_write members accepted reply =
      let document : Json = object (members_of members) in
      (accepted_reply docs (id_of document), (written world (put_write world document), put_does document accepted reply, refl))

  -- a reply to the write of an id
  pub reply_to : (i j : List ℕ) → i ≡ j → accepted_reply docs i ≡ write_text i (next_revision world.history i) → accepted_reply docs j ≡ write_text j (next_revision world.history j)
  reply_to i j same = subst (λ k. accepted_reply docs k ≡ write_text k (next_revision world.history k)) same

  -- an accepted deletion
  pub delete_does : (id : List ℕ) (given : Option (List ℕ)) → IsAcceptedDelete (state_in (last_of docs id)) given
      → accepted_reply docs id ≡ write_text id (next_revision world.history id)
      → DoesDelete world id given (accepted_reply docs id) (written world (delete_write world id))
  delete_does id given accepted reply = record {
    accepted = subst (λ (s : State). IsAcceptedDelete s given) (state_kept world.history (bytes_in docs files) (entries_of docs) at.each id) accepted;
    prints = reply;
    wrote = refl;
  }

  pub delete_is_write : (id : List ℕ) (given : Option (List ℕ)) → IsAcceptedDelete (state_in (last_of docs id)) given
      → accepted_reply docs id ≡ write_text id (next_revision world.history id)
      → IsWrite world (Ok (Delete id given)) (delete_write world id)
  delete_is_write id given accepted reply =
      (accepted_reply docs id, (written world (delete_write world id), delete_does id given accepted reply, refl))

  -- a write that is refused by what is kept in memory is refused in the world
  pub put_refused : (document : Json) (refusal : Refusal) → IsPutRefusedIn (state_in (last_of docs (id_of document))) document refusal → IsPutRefused world document refusal
  put_refused document refusal =
      subst (λ (s : State). IsPutRefusedIn s document refusal) (state_kept world.history (bytes_in docs files) (entries_of docs) at.each (id_of document))

  pub delete_refused : (id : List ℕ) (given : Option (List ℕ)) (refusal : Refusal) → IsDeleteRefusedIn (state_in (last_of docs id)) given refusal → IsDeleteRefused world id given refusal
  delete_refused id given refusal =
      subst (λ (s : State). IsDeleteRefusedIn s given refusal) (state_kept world.history (bytes_in docs files) (entries_of docs) at.each id)
