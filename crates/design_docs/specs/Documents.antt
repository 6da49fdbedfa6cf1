-- The ids of documents, and how large these may be.
use Rattle.std.specs.Prelude.{ℕ, List, [], Bool, nat_eq, codes, option_and_then, unwrap_or}
use Rattle.std.specs.List.{starts_with}
use Rattle.json_terms.specs.Json.{Json}
use Rattle.json_terms.specs.Find.{member_of}
use Rattle.json_terms.specs.Kinds.{text_in}

-- the text of the `_id`, or the empty text where it is none
abbrev pub id_of : Json → List ℕ
id_of document = unwrap_or (option_and_then text_in (member_of (codes "_id") document)) []

-- names that begin so are kept for the database
abbrev pub is_special : List ℕ → Bool
is_special name = starts_with nat_eq name (codes "_")

-- design documents are those whose ids begin so
abbrev pub is_design_id : List ℕ → Bool
is_design_id id = starts_with nat_eq id (codes "_design/")

-- the greatest length of a document's text, in bytes, and its greatest depth
abbrev pub size_limit : ℕ
size_limit = 524288

abbrev pub document_depth_limit : ℕ
document_depth_limit = 64
