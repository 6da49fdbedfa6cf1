-- What the requests `get` and `info` do.
use Rattle.std.specs.Prelude.{◌≡◌, ℕ, List, true, false, Option, Some, None}
use Rattle.json_terms.specs.Json.{Json}
use Rattle.json_terms.specs.Text.{text_of}
use Rattle.doc_file.specs.Accepted.{State, state_of}
use Rattle.doc_file.specs.Accepted.State.{known, unseen}
use Rattle.doc_file.specs.Docs.{info_in}
use Rattle.design_docs.specs.History.{live_document}
use Rattle.view_engine.specs.declared.refusal.Refusal.{Refusal}
use Rattle.view_engine.specs.declared.refusal.Refusal.TheVariants.{Missing, Deleted}
use Rattle.view_engine.specs.World.{World}
use Rattle.view_engine.specs.Answer.{info_text}

-- a document must have been written, and its last write mustn't be a deletion
abbrev pub not_live : State → Option Refusal
not_live unseen = Some Missing
not_live (known rev true) = Some Deleted
not_live (known rev false) = None

abbrev pub get_refusal : World → List ℕ → Option Refusal
get_refusal world id = not_live (state_of world.history id)

-- the live document is printed
abbrev pub DoesGet : World → List ℕ → List ℕ → Type 0
DoesGet world id reply = (document : Json) × (live_document world.history id ≡ Some document) × (reply ≡ text_of document)

-- the counts of the documents and the update sequence are printed
abbrev pub DoesInfo : World → List ℕ → Type 0
DoesInfo world reply = reply ≡ info_text (info_in world.history)
