-- What a put does.
use Rattle.std.specs.Prelude.{◌≡◌, ℕ, List}
use Rattle.json_terms.specs.Json.{Json}
use Rattle.design_docs.specs.Documents.{id_of}
use Rattle.doc_file.specs.declared.fault.DocFault.{DocFault}
use Rattle.doc_file.specs.Accepted.{State, state_of}
use Rattle.design_docs.specs.History.{Write}
use Rattle.doc_file.specs.Stored.{next_revision, write_of}
use Rattle.doc_file.specs.Writes.{IsAcceptedPut, IsRefusedPut, content_of}
use Rattle.view_engine.specs.declared.refusal.Refusal.{Refusal}
use Rattle.view_engine.specs.World.{World, written}
use Rattle.view_engine.specs.Answer.{write_text}
use Rattle.view_engine.specs.Refusals.{refused_as}

-- a put is refused where the documents refuse it, by the state of its id
abbrev pub IsPutRefusedIn : State → Json → Refusal → Type 0
IsPutRefusedIn state document refusal = (fault : DocFault) × IsRefusedPut state document fault × (refusal ≡ refused_as fault)

abbrev pub IsPutRefused : World → Json → Refusal → Type 0
IsPutRefused world document = IsPutRefusedIn (state_of world.history (id_of document)) document

-- the next write of the document's id: the document under its revision, or a deletion
abbrev pub put_write : World → Json → Write
put_write world document = write_of world.history (id_of document) (content_of document)

-- an accepted put is the next write of its id
pub record DoesPut (world : World) (document : Json) (reply : List ℕ) (new : World) : Type 0 where
  pub accepted : IsAcceptedPut (state_of world.history (id_of document)) document
  pub prints : reply ≡ write_text (id_of document) (next_revision world.history (id_of document))
  pub wrote : new ≡ written world (put_write world document)
