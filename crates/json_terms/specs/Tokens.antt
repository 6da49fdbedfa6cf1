-- The tokens of a term's text.
use Rattle.std.specs.Prelude.{List}
use Rattle.json.specs.Token.{Token}
use Rattle.json.specs.Tree as tree
use Rattle.serde_json.specs.Written.{outline, items_outline, members_outline}
use Rattle.json_terms.specs.Json.{Json, Items, Members}
use Rattle.json_terms.specs.Text.{serde_of, items_serde_of, members_serde_of}

abbrev pub tokens_of : Json → List Token
tokens_of t = tree.json_tokens (outline (serde_of t))

-- with the closing bracket
abbrev pub items_tokens_of : Items → List Token
items_tokens_of ts = tree.items_tokens (items_outline (items_serde_of ts))

abbrev pub members_tokens_of : Members → List Token
members_tokens_of ms = tree.members_tokens (members_outline (members_serde_of ms))
