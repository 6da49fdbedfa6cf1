-- What the documents that are kept in memory say of a request, whatever the folder tells: whether it is accepted, how it is refused, and
-- what is printed of it.
use Rattle.std.specs.Prelude.{◌≡◌, ◌≢◌, ◌⊎◌, ◌++◌, ℕ, List, [], ◌∷◌, Option, Some, None, Result, Ok, Err}
use Rattle.json_terms.specs.Json.{Json, object, members_of}
use Rattle.json_terms.specs.Text.{text_of}
use Rattle.view_ports.specs.Disk.{IfTold}
use Rattle.view_ports.specs.Lines.{ended}
use Rattle.view_ports.specs.declared.folder.Folder.{Ghosts as Folders}
use Rattle.design_docs.specs.Design.{source_of}
use Rattle.design_docs.specs.Documents.{id_of}
use Rattle.doc_file.specs.declared.docs.Docs.{Docs}
use Rattle.doc_file.specs.Calls.{HasWritten}
use Rattle.doc_file.specs.Accepted.{State, state_in}
use Rattle.doc_file.specs.Docs.{bytes_in, info_of, last_of, IsLive, IsSame}
use Rattle.doc_file.specs.Held.{IsBodyOf}
use Rattle.doc_file.specs.declared.rev.Rev.{Rev}
use Rattle.doc_file.specs.Writes.{content_of, IsAcceptedDelete, IsAcceptedPut}
use Rattle.query_args.specs.declared.fault.QueryFault.TheVariants as query
use Rattle.view_engine.specs.declared.halt.Halt.{Halt}
use Rattle.view_engine.specs.declared.halt.Halt.TheVariants.{Refused, Stopped}
use Rattle.view_engine.specs.declared.halt.StepFault.{StepFault}
use Rattle.view_engine.specs.declared.halt.StepFault.TheVariants.{DiskFault, NoMemory}
use Rattle.view_engine.specs.declared.refusal.Refusal.{Refusal}
use Rattle.view_engine.specs.declared.refusal.Refusal.TheVariants.{BadQuery, CompilationError, MissingNamedView, NotBuiltYet, ServerFault, ServerReply, UnknownLanguage}
use Rattle.view_engine.specs.declared.request.Request.{Request}
use Rattle.view_engine.specs.declared.request.Request.TheVariants.{Put, Delete, Get, View, Info, Cleanup}
use Rattle.view_engine.specs.Answer.{info_text}
use Rattle.view_engine.specs.Cleanup.{done_text}
use Rattle.view_engine.specs.Delete.{IsDeleteRefusedIn}
use Rattle.view_engine.specs.Disks.{ReadsDocuments}
use Rattle.view_engine.specs.Get.{not_live}
use Rattle.view_engine.specs.Halts.{Writes}
use Rattle.view_engine.specs.Put.{IsPutRefusedIn}
use Rattle.view_engine.specs.Refusals.{first_of, refusal_text}
use Rattle.view_engine.specs.Replies.{accepted_reply}
use Rattle.view_engine.specs.View.{bad_query, design_id, no_language, no_view}
use Rattle.view_engine.specs.ViewQuery.{ViewQuery}

-- ---- what they say of a request

-- the state of an id, by its last write
abbrev pub state_at : Docs → List ℕ → State
state_at docs id = state_in (last_of docs id)

-- the last write of the id is there, and is no deletion
abbrev pub IsLiveIn : Docs → List ℕ → Type 0
IsLiveIn docs id = not_live (state_at docs id) ≡ None

-- a write is accepted by the state of its id, a `get` where the document is live, a view where its design document is, and a request that
-- isn't built yet never
abbrev pub IsAcceptedBy : Docs → Request → Type 0
IsAcceptedBy docs (Put document) = IsAcceptedPut (state_at docs (id_of (object (members_of document)))) (object (members_of document))
IsAcceptedBy docs (Delete id given) = IsAcceptedDelete (state_at docs id) given
IsAcceptedBy docs (Get id) = IsLiveIn docs id
IsAcceptedBy docs (View view query) = IsLiveIn docs (design_id view.design)
IsAcceptedBy docs Info = Unit {0}
IsAcceptedBy docs Cleanup = Unit {0}
IsAcceptedBy docs other = ⊥

-- the refusals that a view of a live design document, with this id, may meet
abbrev pub IsOfView : List ℕ → Refusal → Type 0
IsOfView id MissingNamedView = Unit {0}
IsOfView id (BadQuery fault) = fault ≢ query.NoMemory
IsOfView id (UnknownLanguage language) = Unit {0}
IsOfView id (CompilationError named) = named ≡ id
IsOfView id ServerFault = Unit {0}
IsOfView id (ServerReply line) = Unit {0}
IsOfView id other = ⊥

-- a view is refused as missing or deleted where its design document is, and else for one of these
abbrev pub IsViewRefusedBy : Docs → List ℕ → Refusal → Type 0
IsViewRefusedBy docs id refusal = (not_live (state_at docs id) ≡ Some refusal) ⊎ (IsLiveIn docs id × IsOfView id refusal)

-- why a view is refused whose design document is this one: it has no such view, or else the parameters are no query of it, or else its
-- language has no path
abbrev pub own_refusal : List (List ℕ × List ℕ) → ViewQuery → Json → Option Refusal
own_refusal languages name document =
    first_of (no_view (source_of name.view document) ∷ bad_query name (Some document) ∷ no_language languages (Some document) ∷ [])

-- a document that may stand under the id, and that stands there where the folder tells
pub record IsReadUnder {F : Type 0} (f : Folders F) (docs : Docs) (folder : F) (id : List ℕ) (document : Json) : Type 0 where
  pub body : IsBodyOf id document
  pub live : IfTold (f.disk folder) (λ d. IsLive id (bytes_in docs d.now) (last_of docs id) document)

-- so says the document of the view's design
pub record IsSaidByDesign {F : Type 0} (f : Folders F) (docs : Docs) (languages : List (List ℕ × List ℕ)) (folder : F) (name : ViewQuery) (said : Option Refusal) : Type 0 where
  pub document : Json
  pub read : IsReadUnder f docs folder (design_id name.design) document
  pub says : own_refusal languages name document ≡ said

-- why a request is refused
abbrev pub IsRefusedBy : Docs → Request → Refusal → Type 0
IsRefusedBy docs (Put document) refusal = IsPutRefusedIn (state_at docs (id_of (object (members_of document)))) (object (members_of document)) refusal
IsRefusedBy docs (Delete id given) refusal = IsDeleteRefusedIn (state_at docs id) given refusal
IsRefusedBy docs (Get id) refusal = not_live (state_at docs id) ≡ Some refusal
IsRefusedBy docs (View view query) refusal = IsViewRefusedBy docs (design_id view.design) refusal
IsRefusedBy docs Info refusal = ⊥
IsRefusedBy docs Cleanup refusal = ⊥
IsRefusedBy docs other refusal = refusal ≡ NotBuiltYet

-- the text is that of the document under the id
pub record IsTextOfLive {F : Type 0} (f : Folders F) (docs : Docs) (folder : F) (id text : List ℕ) : Type 0 where
  pub document : Json
  pub read : IsReadUnder f docs folder id document
  pub is : text ≡ text_of document

-- what is printed of a request that is done: the next revision of the id that is written, the document of the id that is read, or the
-- counts; of a view nothing is said here
abbrev pub IsReplyBy : {F : Type 0} → Folders F → Docs → F → Request → List ℕ → Type 0
IsReplyBy f docs folder (Put document) reply = reply ≡ accepted_reply docs (id_of (object (members_of document)))
IsReplyBy f docs folder (Delete id given) reply = reply ≡ accepted_reply docs id
IsReplyBy f docs folder (Get id) reply = IsTextOfLive f docs folder id reply
IsReplyBy f docs folder Info reply = reply ≡ info_text (info_of docs)
IsReplyBy f docs folder Cleanup reply = reply ≡ done_text
IsReplyBy f docs folder other reply = Unit {0}

-- the next write of this id with this content is written, under its revision
abbrev pub IsWritten : Docs → Docs → List ℕ → Option Json → Type 0
IsWritten docs docs' id content = (rev : Rev) × HasWritten docs docs' id content rev

-- so it is of a request that writes
abbrev pub IsWrittenBy : Docs → Docs → Request → Type 0
IsWrittenBy docs docs' (Put document) = IsWritten docs docs' (id_of (object (members_of document))) (content_of (object (members_of document)))
IsWrittenBy docs docs' (Delete id given) = IsWritten docs docs' id None
IsWrittenBy docs docs' other = Unit {0}

-- ---- what a request does by them

module _ {F : Type 0} (docs docs' : Docs) (old new : F) where
  -- the documents are as they were, and so is the folder, unless the request reads documents from it
  pub record IsUntouchedBy (request : Result Request Refusal) : Type 0 where
    pub documents : IsSame docs docs'
    pub folder : (ReadsDocuments request → ⊥) → new ≡ old

module _ {F : Type 0} (f : Folders F) (docs docs' : Docs) (old new : F) where
  module _ (out out' : List ℕ) where
    -- It is done, so it was accepted, and its reply line is appended. Only a write changes the documents, which have it then.
    pub record IsDoneBy (request : Request) : Type 0 where
      pub accepted : IsAcceptedBy docs request
      pub reply : List ℕ
      pub is : IsReplyBy f docs old request reply
      pub appended : out' ≡ out ++ ended reply
      pub kept : (Writes (Ok request) → ⊥) → IsUntouchedBy docs docs' old new (Ok request)
      pub wrote : IsWrittenBy docs docs' request

    -- It is stopped: all but a fault of the disk in a write leaves them as they were, and a fault that isn't want of memory is met only by
    -- what they accept.
    abbrev pub IsStoppedBy : Request → StepFault → Type 0
    IsStoppedBy request NoMemory = IsUntouchedBy docs docs' old new (Ok request)
    IsStoppedBy request DiskFault = IsAcceptedBy docs request × ((Writes (Ok request) → ⊥) → IsUntouchedBy docs docs' old new (Ok request))
    IsStoppedBy request other = IsAcceptedBy docs request × IsUntouchedBy docs docs' old new (Ok request)

    -- a request does as they say, by how it ends
    abbrev pub FollowsDocuments : Request → Result (Unit {0}) Halt → Type 0
    FollowsDocuments request (Ok done) = IsDoneBy request
    FollowsDocuments request (Err (Refused refusal)) = IsRefusedBy docs request refusal × IsUntouchedBy docs docs' old new (Ok request)
    FollowsDocuments request (Err (Stopped fault)) = IsStoppedBy request fault

    -- and what is no request changes nothing
    abbrev pub FollowsRequest : Result Request Refusal → Result (Unit {0}) Halt → Type 0
    FollowsRequest (Ok request) result = FollowsDocuments request result
    FollowsRequest (Err refusal) result = IsUntouchedBy docs docs' old new (Err refusal)

    module _ (Fits : Option Refusal → Type 0) where
      -- it is refused, and its refusal is appended, which fits what else is left
      pub record IsToldBy (request : Request) : Type 0 where
        pub refusal : Refusal
        pub refused : IsRefusedBy docs request refusal
        pub appended : out' ≡ out ++ ended (refusal_text refusal)
        pub kept : IsUntouchedBy docs docs' old new (Ok request)
        pub fits : Fits (Some refusal)

      -- a line is answered as they say of its request, and what is done fits too
      abbrev pub AnswersRequest : Result Request Refusal → Result (Unit {0}) StepFault → Type 0
      AnswersRequest (Ok request) (Ok done) = (IsDoneBy request × Fits None) ⊎ IsToldBy request
      AnswersRequest (Ok request) (Err fault) = IsStoppedBy request fault
      AnswersRequest (Err refusal) result = IsUntouchedBy docs docs' old new (Err refusal)
