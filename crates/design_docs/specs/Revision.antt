-- Revisions, and the document that is stored under one.
use Rattle.std.specs.Prelude.{ℕ, List, ◌++◌, codes, decimal}
use Rattle.std.specs.Int.{w128, to_be_bytes}
use Rattle.hex.specs.Hex.{encode_lower}
use Rattle.json_terms.specs.Json.{Json, object, string}
use Rattle.json_terms.specs.Find.{with_member}

-- the generation in decimal, a dash, and the number of the write in 32 hexadecimal digits
unfoldable pub revision : ℕ → ℕ → List ℕ
revision generation seq = decimal generation ++ codes "-" ++ encode_lower (to_be_bytes w128 seq)

-- the document that is stored under this revision
abbrev pub stored_document : Json → List ℕ → Json
stored_document (object members) rev = object (with_member (codes "_rev") (string rev) members)
stored_document other rev = other
