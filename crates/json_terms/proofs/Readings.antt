-- What bytes read as, from what serde_json reads.
use Rattle.std.proofs.Common.{◌≡◌, ◌<◌, ◌≤◌, ℕ, List, Bool, true, false, Some, None, Ok, Err, IsUtf8, refl, ap, ◌∙◌, le-leb}
use Rattle.std.proofs.lemmas.Bool.{lt-leb}
use Rattle.std.specs.Str.{is_utf8}
use Rattle.std.proofs.lemmas.Str.{IsUtf8-from_is_utf8, is_utf8-from_IsUtf8}
use Rattle.serde_json.specs.Data as serde
use Rattle.serde_json.specs.Read.{read}
use Rattle.json_terms.specs.declared.fault.TermFault.TheVariants.{NotJson, NotWhole, TooDeep}
use Rattle.json_terms.specs.Json.{Json, depth}
use Rattle.json_terms.specs.Reading.{depth_limit, reading, data_of, value_of, unless_unread, unless_fractional}

data_of-none : (bytes : List ℕ) (b : Bool) → is_utf8 bytes ≡ b → (IsUtf8 bytes → read bytes ≡ None) → data_of bytes ≡ None
data_of-none bytes true utf8 unread = rw utf8 (unread (IsUtf8-from_is_utf8 bytes utf8))
data_of-none bytes false utf8 unread = rw utf8

data_of-some : (bytes : List ℕ) (d : serde.Data) → IsUtf8 bytes → read bytes ≡ Some d → data_of bytes ≡ Some d
data_of-some bytes d utf8 is = rw (is_utf8-from_IsUtf8 bytes utf8) is

-- Bytes that serde_json does not read are no JSON.
pub reading-NotJson : (bytes : List ℕ) → (IsUtf8 bytes → read bytes ≡ None) → reading bytes ≡ Err NotJson
unfolding reading
reading-NotJson bytes unread = ap unless_unread (data_of-none bytes (is_utf8 bytes) refl unread)

-- With another number in them they are not whole.
pub reading-NotWhole : (bytes : List ℕ) (d : serde.Data) → IsUtf8 bytes → read bytes ≡ Some d → value_of d ≡ None → reading bytes ≡ Err NotWhole
unfolding reading
reading-NotWhole bytes d utf8 is none = ap unless_unread (data_of-some bytes d utf8 is) ∙ ap unless_fractional none

-- A term past the limit is too deep.
pub reading-TooDeep : (bytes : List ℕ) (d : serde.Data) (t : Json) → IsUtf8 bytes → read bytes ≡ Some d → value_of d ≡ Some t → depth_limit < depth t → reading bytes ≡ Err TooDeep
unfolding reading
reading-TooDeep bytes d t utf8 is value deep = ap unless_unread (data_of-some bytes d utf8 is) ∙ ap unless_fractional value ∙ rw (lt-leb (depth t) depth_limit deep)

-- Any other is the reading.
pub reading-Ok : (bytes : List ℕ) (d : serde.Data) (t : Json) → IsUtf8 bytes → read bytes ≡ Some d → value_of d ≡ Some t → depth t ≤ depth_limit → reading bytes ≡ Ok t
unfolding reading
reading-Ok bytes d t utf8 is value within = ap unless_unread (data_of-some bytes d utf8 is) ∙ ap unless_fractional value ∙ rw (le-leb (depth t) depth_limit within)
