-- Refusals: their texts, and which of several comes.
use Rattle.std.specs.Prelude.{ℕ, List, [], ◌∷◌, ◌++◌, nat_lt, length, codes, Option, Some, None, Result, Ok, Err, ok_or, if◌then◌else◌}
use Rattle.json_terms.specs.Json.{Json, string}
use Rattle.json_terms.specs.Reading.{reading}
use Rattle.json_terms.specs.Text.{text_of}
use Rattle.json_terms.specs.declared.fault.TermFault.{TermFault}
use Rattle.json_terms.specs.declared.fault.TermFault.TheVariants as fault
use Rattle.doc_file.specs.declared.fault.DocFault.{DocFault}
use Rattle.doc_file.specs.declared.fault.DocFault.TheVariants as doc
use Rattle.view_engine.specs.declared.request.Request.{Request}
use Rattle.view_engine.specs.declared.refusal.Refusal.{Refusal}
use Rattle.view_engine.specs.declared.refusal.Refusal.TheVariants.{LineTooLong, NotJson, NotWhole, TooDeep, UnknownRequest, NotBuiltYet, BadId, BadMember, BadRev, DocumentTooLarge, DocumentTooDeep, InvalidDesign, Missing, Deleted, MissingNamedView, Conflict, BadQuery, UnknownLanguage, CompilationError, ServerFault, ServerReply, NoMemory}
use Rattle.view_engine.specs.DesignReasons.{design_reason}
use Rattle.view_engine.specs.QueryReasons.{query_reason}
use Rattle.view_engine.specs.Requests.{form_of}

-- the longest request line, in bytes
unfoldable pub request_limit : ℕ
request_limit = 2097152

abbrev pub error_name : Refusal → List ℕ
error_name LineTooLong = codes "line_too_long"
error_name NotJson = codes "bad_request"
error_name NotWhole = codes "bad_request"
error_name TooDeep = codes "bad_request"
error_name UnknownRequest = codes "bad_request"
error_name NotBuiltYet = codes "bad_request"
error_name BadId = codes "bad_id"
error_name (BadMember name) = codes "bad_member"
error_name BadRev = codes "bad_rev"
error_name DocumentTooLarge = codes "too_large"
error_name DocumentTooDeep = codes "too_deep"
error_name (InvalidDesign fault) = codes "invalid_design_doc"
error_name Missing = codes "not_found"
error_name Deleted = codes "not_found"
error_name MissingNamedView = codes "not_found"
error_name Conflict = codes "conflict"
error_name (BadQuery fault) = codes "query_parse_error"
error_name (UnknownLanguage language) = codes "unknown_language"
error_name (CompilationError id) = codes "compilation_error"
error_name ServerFault = codes "server_fault"
error_name (ServerReply line) = codes "server_reply"
error_name NoMemory = codes "no_memory"

-- a text that needs no escapes, in quotes
abbrev pub in_quotes : List ℕ → List ℕ
in_quotes text = codes "\"" ++ text ++ codes "\""

-- the reason, as a JSON string
abbrev pub error_reason : Refusal → List ℕ
error_reason LineTooLong = in_quotes (codes "line passes 2097152 bytes")
error_reason NotJson = in_quotes (codes "line is not JSON")
error_reason NotWhole = in_quotes (codes "number is not whole")
error_reason TooDeep = in_quotes (codes "line is too deep")
error_reason UnknownRequest = in_quotes (codes "unknown request")
error_reason NotBuiltYet = in_quotes (codes "not built yet")
error_reason BadId = in_quotes (codes "document id is not allowed")
error_reason (BadMember name) = text_of (string name)
error_reason BadRev = in_quotes (codes "revision is not well formed")
error_reason DocumentTooLarge = in_quotes (codes "document passes 524288 bytes")
error_reason DocumentTooDeep = in_quotes (codes "document passes depth 64")
error_reason (InvalidDesign fault) = text_of (string (design_reason fault))
error_reason Missing = in_quotes (codes "missing")
error_reason Deleted = in_quotes (codes "deleted")
error_reason MissingNamedView = in_quotes (codes "missing_named_view")
error_reason Conflict = in_quotes (codes "Document update conflict.")
error_reason (BadQuery fault) = text_of (string (query_reason fault))
error_reason (UnknownLanguage language) = text_of (string language)
error_reason (CompilationError id) = text_of (string id)
error_reason ServerFault = in_quotes (codes "query server failed twice")
error_reason (ServerReply line) = text_of (string line)
error_reason NoMemory = in_quotes (codes "out of memory")

abbrev pub refusal_text : Refusal → List ℕ
refusal_text refusal = codes "{\"error\":\"" ++ error_name refusal ++ codes "\",\"reason\":" ++ error_reason refusal ++ codes "}"

-- the first refusal that stands
abbrev pub first_of : List (Option Refusal) → Option Refusal
first_of [] = None
first_of (None ∷ others) = first_of others
first_of (Some refusal ∷ others) = Some refusal

-- a refusal of the documents, as a reply names it; faults of the file are no refusals
abbrev pub refused_as : DocFault → Refusal
refused_as doc.BadId = BadId
refused_as (doc.BadMember name) = BadMember name
refused_as doc.BadRev = BadRev
refused_as doc.TooLarge = DocumentTooLarge
refused_as doc.TooDeep = DocumentTooDeep
refused_as (doc.BadDesign fault) = InvalidDesign fault
refused_as doc.Conflict = Conflict
refused_as doc.Missing = Missing
refused_as doc.Deleted = Deleted
refused_as (doc.Gate fault) = NoMemory
refused_as doc.NoMemory = NoMemory

abbrev pub unread : TermFault → Refusal
unread fault.NotJson = NotJson
unread fault.NotWhole = NotWhole
unread fault.TooDeep = TooDeep
unread fault.NoMemory = NoMemory

abbrev pub request_in : Result Json TermFault → Result Request Refusal
request_in (Ok term) = ok_or (form_of term) UnknownRequest
request_in (Err why) = Err (unread why)

-- the request that the line is, or the first of these refusals: too long, no term, no form
unfoldable pub request_of : List ℕ → Result Request Refusal
request_of line = if nat_lt request_limit (length line) then Err LineTooLong else request_in (reading line)
