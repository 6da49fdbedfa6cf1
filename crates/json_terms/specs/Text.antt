-- The text of a term: its compact JSON text as serde_json writes it.
use Rattle.std.specs.Prelude.{ℕ, List, true, false}
use Rattle.serde_json.specs.Data as serde
use Rattle.serde_json.specs.Find.{of_integer}
use Rattle.serde_json.specs.Written.{compact_text}
use Rattle.json_terms.specs.Json.{Json, number, is_false, is_null, is_true, object, array, string, Items, no_items, item, Members, no_members, member}

-- the same value in serde_json's terms
abbrev mutual
  pub serde_of : Json → serde.Data
  serde_of (number n) = serde.number (of_integer n)
  serde_of is_false = serde.boolean false
  serde_of is_null = serde.null
  serde_of is_true = serde.boolean true
  serde_of (object ms) = serde.object (members_serde_of ms)
  serde_of (array ts) = serde.array (items_serde_of ts)
  serde_of (string s) = serde.string s

  pub items_serde_of : Items → serde.Items
  items_serde_of no_items = serde.no_items
  items_serde_of (item t ts) = serde.item (serde_of t) (items_serde_of ts)

  pub members_serde_of : Members → serde.Members
  members_serde_of no_members = serde.no_members
  members_serde_of (member n t ms) = serde.member n (serde_of t) (members_serde_of ms)

abbrev pub text_of : Json → List ℕ
text_of t = compact_text (serde_of t)
