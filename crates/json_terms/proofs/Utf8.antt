-- A term's text is UTF-8.
use Rattle.std.proofs.Common.{pos, negsuc, [], ◌∷◌, Bool, true, false, IsUtf8, refl}
use Rattle.std.proofs.lemmas.Fmt.{IsAscii-signed}
use Rattle.std.proofs.lemmas.Str.{IsUtf8-append, IsUtf8-nil, IsUtf8-from_ascii}
use Rattle.json.proofs.Printed.Utf8.{IsUtf8-are_ascii, IsUtf8-quoted, IsUtf8-boolean}
use Rattle.serde_json.specs.Written.{comma_if, items_text, members_text}
use Rattle.json_terms.specs.Json.{Json, number, is_false, is_null, is_true, object, array, string, Items, no_items, item, Members, no_members, member}
use Rattle.json_terms.specs.Terms.{IsTerm, AreTerms, AreMembers}
use Rattle.json_terms.specs.Text.{text_of, items_serde_of, members_serde_of}

IsUtf8-comma_if : (later : Bool) → IsUtf8 (comma_if later)
IsUtf8-comma_if true = IsUtf8-are_ascii (44 ∷ []) refl
IsUtf8-comma_if false = IsUtf8-nil

mutual
  pub IsUtf8-text_of : (t : Json) → IsTerm t → IsUtf8 (text_of t)
  IsUtf8-text_of (number (pos n)) h = IsUtf8-from_ascii _ (IsAscii-signed (pos n) h.sfits)
  IsUtf8-text_of (number (negsuc n)) h = IsUtf8-from_ascii _ (IsAscii-signed (negsuc n) h.sfits)
  IsUtf8-text_of is_false h = IsUtf8-boolean false
  IsUtf8-text_of is_null h = IsUtf8-are_ascii _ refl
  IsUtf8-text_of is_true h = IsUtf8-boolean true
  IsUtf8-text_of (object ms) h = IsUtf8-append (123 ∷ []) _ (IsUtf8-are_ascii _ refl) (IsUtf8-members_text false ms h)
  IsUtf8-text_of (array ts) h = IsUtf8-append (91 ∷ []) _ (IsUtf8-are_ascii _ refl) (IsUtf8-items_text false ts h)
  IsUtf8-text_of (string s) h = IsUtf8-quoted s h

  IsUtf8-items_text : (later : Bool) (ts : Items) → AreTerms ts → IsUtf8 (items_text later (items_serde_of ts))
  IsUtf8-items_text later no_items h = IsUtf8-are_ascii _ refl
  IsUtf8-items_text later (item t ts) h =
      IsUtf8-append (comma_if later) _ (IsUtf8-comma_if later) (IsUtf8-append (text_of t) _ (IsUtf8-text_of t h.0) (IsUtf8-items_text true ts h.1))

  IsUtf8-members_text : (later : Bool) (ms : Members) → AreMembers ms → IsUtf8 (members_text later (members_serde_of ms))
  IsUtf8-members_text later no_members h = IsUtf8-are_ascii _ refl
  IsUtf8-members_text later (member n t ms) h =
      let rest = IsUtf8-append (text_of t) _ (IsUtf8-text_of t h.2) (IsUtf8-members_text true ms h.3) in
      IsUtf8-append (comma_if later) _ (IsUtf8-comma_if later) (IsUtf8-append _ _ (IsUtf8-quoted n h.0) (IsUtf8-append (58 ∷ []) _ (IsUtf8-are_ascii _ refl) rest))
