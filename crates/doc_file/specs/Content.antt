-- What of a document is stored: all of its members but those that the database gives.
use Rattle.std.specs.Prelude.{codes}
use Rattle.json_terms.specs.Json.{Json, object}
use Rattle.view_ports.specs.Stored.{without}

-- the document without its `_rev` and `_deleted`
abbrev pub content : Json → Json
content (object members) = object (without (codes "_deleted") (without (codes "_rev") members))
content other = other
