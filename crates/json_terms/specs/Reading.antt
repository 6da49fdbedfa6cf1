-- What a text reads as: JSON (RFC 8259) as serde_json reads it, with whole numbers alone and a bounded depth.
use Rattle.std.specs.Prelude.{ℕ, List, true, false, nat_le, if◌then◌else◌, Option, Some, None, option_map, option_and_then, Result, Ok, Err}
use Rattle.std.specs.Str.{is_utf8}
use Rattle.serde_json.specs.Data as serde
use Rattle.serde_json.specs.Find.{as_i64}
use Rattle.serde_json.specs.Read.{read}
use Rattle.json_terms.specs.declared.fault.TermFault.{TermFault}
use Rattle.json_terms.specs.declared.fault.TermFault.TheVariants.{NotJson, NotWhole, TooDeep}
use Rattle.json_terms.specs.Json.{Json, number, is_false, is_null, is_true, object, array, string, Items, no_items, item, Members, no_members, member, depth}

-- The deepest term that is read.
abbrev pub depth_limit : ℕ
depth_limit = 100

-- what serde_json reads from the bytes, if they are UTF-8 and JSON
abbrev pub data_of : List ℕ → Option serde.Data
data_of bytes = if is_utf8 bytes then read bytes else None

-- the value that the data is, unless it holds a number that is no `i64`
abbrev mutual
  pub value_of : serde.Data → Option Json
  value_of serde.null = Some is_null
  value_of (serde.boolean true) = Some is_true
  value_of (serde.boolean false) = Some is_false
  value_of (serde.number n) = option_map number (as_i64 n)
  value_of (serde.string s) = Some (string s)
  value_of (serde.array ds) = option_map array (items_value_of ds)
  value_of (serde.object ms) = option_map object (members_value_of ms)

  pub items_value_of : serde.Items → Option Items
  items_value_of serde.no_items = Some no_items
  items_value_of (serde.item d ds) = option_and_then (λ t. option_map (item t) (items_value_of ds)) (value_of d)

  pub members_value_of : serde.Members → Option Members
  members_value_of serde.no_members = Some no_members
  members_value_of (serde.member n d ms) = option_and_then (λ t. option_map (member n t) (members_value_of ms)) (value_of d)

abbrev pub unless_deep : Json → Result Json TermFault
unless_deep t = if nat_le (depth t) depth_limit then Ok t else Err TooDeep

abbrev pub unless_fractional : Option Json → Result Json TermFault
unless_fractional None = Err NotWhole
unless_fractional (Some t) = unless_deep t

abbrev pub unless_unread : Option serde.Data → Result Json TermFault
unless_unread None = Err NotJson
unless_unread (Some d) = unless_fractional (value_of d)

-- the term that the bytes spell, or the first of these faults
unfoldable pub reading : List ℕ → Result Json TermFault
reading bytes = unless_unread (data_of bytes)
