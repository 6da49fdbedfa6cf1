-- Each reply is one line, which isn't empty.
use Rattle.std.proofs.Common.{◌≡◌, ◌≢◌, ◌<◌, ◌^◌, ◌++◌, ℕ, List, [], Bool, true, false, codes, decimal, refl, sym, ◌∙◌}
use Rattle.json_terms.specs.Json.{Json, array, is_false, is_null, is_true, number, object, string}
use Rattle.json_terms.specs.Text.{text_of}
use Rattle.json_terms.specs.declared.term.Row.{Row}
use Rattle.json_terms.proofs.OneLine.{line-quoted, line-text_of}
use Rattle.view_ports.specs.Lines.{IsLine}
use Rattle.view_model.proofs.Lines.{is_line, line, lines3, lines5, lines7}
use Rattle.doc_file.specs.declared.docs.Info.{Info}
use Rattle.doc_file.specs.Held.{IsDocument, IsObject}
use Rattle.design_docs.proofs.Decimals.{line-decimal}
use Rattle.view_engine.specs.declared.refusal.Refusal.{Refusal}
use Rattle.view_engine.specs.declared.refusal.Refusal.TheVariants.{LineTooLong, NotJson, NotWhole, TooDeep, UnknownRequest, NotBuiltYet, BadId, BadMember, BadRev, DocumentTooLarge, DocumentTooDeep, InvalidDesign, Missing, Deleted, MissingNamedView, Conflict, BadQuery, UnknownLanguage, CompilationError, ServerFault, ServerReply, NoMemory}
use Rattle.query_args.specs.declared.query.Query.{Query}
use Rattle.view_model.specs.Answer.{groups_answer, keyed, rows_answer, IsAnswer}
use Rattle.view_model.specs.Groups.{picked_groups}
use Rattle.view_engine.specs.Answer.{info_text, write_text}
use Rattle.view_engine.specs.Calls.{IsReplyLine}
use Rattle.view_engine.specs.Cleanup.{done_text}
use Rattle.view_engine.specs.DesignReasons.{design_reason}
use Rattle.view_engine.specs.QueryReasons.{query_reason}
use Rattle.view_engine.specs.Refusals.{error_name, error_reason, refusal_text}

-- ---- refusals

line-quotes : (text : List ℕ) → is_line text ≡ true → IsLine (codes "\"" ++ text ++ codes "\"")
line-quotes text plain = lines3 (codes "\"") text (codes "\"") (line (codes "\"") refl) (line text plain) (line (codes "\"") refl)

line-name : (refusal : Refusal) → IsLine (error_name refusal)
line-name LineTooLong = line (codes "line_too_long") refl
line-name NotJson = line (codes "bad_request") refl
line-name NotWhole = line (codes "bad_request") refl
line-name TooDeep = line (codes "bad_request") refl
line-name UnknownRequest = line (codes "bad_request") refl
line-name NotBuiltYet = line (codes "bad_request") refl
line-name BadId = line (codes "bad_id") refl
line-name (BadMember name) = line (codes "bad_member") refl
line-name BadRev = line (codes "bad_rev") refl
line-name DocumentTooLarge = line (codes "too_large") refl
line-name DocumentTooDeep = line (codes "too_deep") refl
line-name (InvalidDesign fault) = line (codes "invalid_design_doc") refl
line-name Missing = line (codes "not_found") refl
line-name Deleted = line (codes "not_found") refl
line-name MissingNamedView = line (codes "not_found") refl
line-name Conflict = line (codes "conflict") refl
line-name (BadQuery fault) = line (codes "query_parse_error") refl
line-name (UnknownLanguage language) = line (codes "unknown_language") refl
line-name (CompilationError id) = line (codes "compilation_error") refl
line-name ServerFault = line (codes "server_fault") refl
line-name (ServerReply line_) = line (codes "server_reply") refl
line-name NoMemory = line (codes "no_memory") refl

line-reason : (refusal : Refusal) → IsLine (error_reason refusal)
line-reason LineTooLong = line-quotes (codes "line passes 2097152 bytes") refl
line-reason NotJson = line-quotes (codes "line is not JSON") refl
line-reason NotWhole = line-quotes (codes "number is not whole") refl
line-reason TooDeep = line-quotes (codes "line is too deep") refl
line-reason UnknownRequest = line-quotes (codes "unknown request") refl
line-reason NotBuiltYet = line-quotes (codes "not built yet") refl
line-reason BadId = line-quotes (codes "document id is not allowed") refl
line-reason (BadMember name) = line-quoted name
line-reason BadRev = line-quotes (codes "revision is not well formed") refl
line-reason DocumentTooLarge = line-quotes (codes "document passes 524288 bytes") refl
line-reason DocumentTooDeep = line-quotes (codes "document passes depth 64") refl
line-reason (InvalidDesign fault) = line-quoted (design_reason fault)
line-reason Missing = line-quotes (codes "missing") refl
line-reason Deleted = line-quotes (codes "deleted") refl
line-reason MissingNamedView = line-quotes (codes "missing_named_view") refl
line-reason Conflict = line-quotes (codes "Document update conflict.") refl
line-reason (BadQuery fault) = line-quoted (query_reason fault)
line-reason (UnknownLanguage language) = line-quoted language
line-reason (CompilationError id) = line-quoted id
line-reason ServerFault = line-quotes (codes "query server failed twice") refl
line-reason (ServerReply line_) = line-quoted line_
line-reason NoMemory = line-quotes (codes "out of memory") refl

pub refusal_line : (refusal : Refusal) → IsReplyLine (refusal_text refusal)
refusal_line refusal = record {
  some = λ none. cc;
  plain = lines5 (codes "{\"error\":\"") (error_name refusal) (codes "\",\"reason\":") (error_reason refusal) (codes "}")
      (line (codes "{\"error\":\"") refl) (line-name refusal) (line (codes "\",\"reason\":") refl) (line-reason refusal) (line (codes "}") refl);
}

-- ---- requests that are done

pub write_line : (id rev : List ℕ) → IsLine rev → IsReplyLine (write_text id rev)
write_line id rev plain = record {
  some = λ none. cc;
  plain = lines5 (codes "{\"ok\":true,\"id\":") (text_of (string id)) (codes ",\"rev\":\"") rev (codes "\"}")
      (line (codes "{\"ok\":true,\"id\":") refl) (line-quoted id) (line (codes ",\"rev\":\"") refl) plain (line (codes "\"}") refl);
}

pub done_line : IsReplyLine done_text
done_line = record { some = λ none. cc; plain = line done_text refl }

pub info_line : (info : Info) → info.doc_count < 2 ^ 64 → info.doc_del_count < 2 ^ 64 → info.update_seq < 2 ^ 64 → IsReplyLine (info_text info)
info_line info few few_deleted few_writes = record {
  some = λ none. cc;
  plain = lines7 (codes "{\"doc_count\":") (decimal info.doc_count) (codes ",\"doc_del_count\":") (decimal info.doc_del_count) (codes ",\"update_seq\":") (decimal info.update_seq) (codes "}")
      (line (codes "{\"doc_count\":") refl) (line-decimal info.doc_count few) (line (codes ",\"doc_del_count\":") refl) (line-decimal info.doc_del_count few_deleted)
      (line (codes ",\"update_seq\":") refl) (line-decimal info.update_seq few_writes) (line (codes "}") refl);
}

object_some : (document : Json) → IsObject document → text_of document ≢ []
object_some (object ms) is none = cc
object_some (number n) is none = absurd is
object_some is_false is none = absurd is
object_some is_null is none = absurd is
object_some is_true is none = absurd is
object_some (array ts) is none = absurd is
object_some (string s) is none = absurd is

pub document_line : (document : Json) → IsDocument document → IsReplyLine (text_of document)
document_line document is = record { some = object_some document is.object; plain = line-text_of document is.term }

-- ---- answers

-- the answer of a query begins with a brace
pub answer_line : (IsValue : List Row → List ℕ → Type 0) (query : Query) (seq : ℕ) (rows : List Row) (reply : List ℕ) → IsAnswer IsValue query seq rows reply → IsLine reply → IsReplyLine reply
answer_line IsValue query seq rows reply is plain = record { some = some query.reduced refl; plain = plain }
  where
    some : (reduced : Bool) → query.reduced ≡ reduced → reply ≢ []
    some true reduced none = let never : groups_answer query seq (keyed query.level (picked_groups query rows) (is.reduced reduced).values) ≡ [] = sym (is.reduced reduced).is ∙ none in cc
    some false whole none = let never : rows_answer query seq rows ≡ [] = sym (is.whole whole) ∙ none in cc
