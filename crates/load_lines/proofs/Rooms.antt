-- A bound of the length of a term's text: a number has 20 bytes at most, and a byte of a text or of a name 6 at most.
use Rattle.std.proofs.Common.{◌+◌, ◌*◌, ◌/◌, ◌%◌, ◌≤◌, nat_lt, ℕ, suc, pos, negsuc, List, [], ◌∷◌, ◌++◌, length, Bool, true, false, cond, arith, length-append}
use Rattle.std.specs.Char.{digit_char}
use Rattle.std.proofs.lemmas.Fmt.{length-decimal-le}
use Rattle.json.specs.Print.{escape_letter, escape_byte, escape, quoted}
use Rattle.serde_json.specs.Written.{comma_if, items_text, members_text}
use Rattle.json_terms.specs.Json.{Json, number, is_false, is_null, is_true, object, array, string, Items, no_items, item, Members, no_members, member}
use Rattle.json_terms.specs.Terms.{IsTerm, AreTerms, AreMembers}
use Rattle.json_terms.specs.Text.{text_of, items_serde_of, members_serde_of}

abbrev mutual
  pub room : Json → ℕ
  room (number n) = 20
  room is_false = 5
  room is_null = 4
  room is_true = 4
  room (object ms) = suc (members_room ms)
  room (array ts) = suc (items_room ts)
  room (string s) = 6 * length s + 2

  -- with commas and the closing bracket
  pub items_room : Items → ℕ
  items_room no_items = 1
  items_room (item t ts) = 1 + room t + items_room ts

  pub members_room : Members → ℕ
  members_room no_members = 1
  members_room (member n t ms) = 6 * length n + 4 + room t + members_room ms

either : (b : Bool) (xs ys : List ℕ) → length xs ≤ 6 → length ys ≤ 6 → length (cond b xs ys) ≤ 6
either true xs ys p q = p
either false xs ys p q = q

length-escape_byte : (x : ℕ) → length (escape_byte x) ≤ 6
unfolding escape_byte
length-escape_byte x =
    let coded : List ℕ = 92 ∷ 117 ∷ 48 ∷ 48 ∷ digit_char (x / 16) ∷ digit_char (x % 16) ∷ [] in
    either (nat_lt 0 (escape_letter x)) (92 ∷ escape_letter x ∷ []) (cond (nat_lt x 32) coded (x ∷ [])) (omega arith) (either (nat_lt x 32) coded (x ∷ []) (omega arith) (omega arith))

length-escape : (s : List ℕ) → length (escape s) ≤ 6 * length s
length-escape [] = omega arith
length-escape (x ∷ s) = omega (arith, length-escape_byte x, length-escape s, length-append (escape_byte x) (escape s))

length-quoted : (s : List ℕ) → length (quoted s) ≤ 6 * length s + 2
length-quoted s = omega (arith, length-escape s, length-append (escape s) (34 ∷ []))

length-comma_if : (later : Bool) → length (comma_if later) ≤ 1
length-comma_if true = omega arith
length-comma_if false = omega arith

mutual
  pub length-text_of : (t : Json) → IsTerm t → length (text_of t) ≤ room t
  length-text_of (number (pos n)) h = length-decimal-le 20 n (omega arith) (omega (arith, h.sfits)) (omega (arith, h.sfits))
  length-text_of (number (negsuc n)) h = let digits = length-decimal-le 19 (suc n) (omega arith) (omega (arith, h.sfits)) (omega (arith, h.sfits)) in omega arith
  length-text_of is_false h = omega arith
  length-text_of is_null h = omega arith
  length-text_of is_true h = omega arith
  length-text_of (object ms) h = omega (arith, length-members_text false ms h)
  length-text_of (array ts) h = omega (arith, length-items_text false ts h)
  length-text_of (string s) h = length-quoted s

  length-items_text : (later : Bool) (ts : Items) → AreTerms ts → length (items_text later (items_serde_of ts)) ≤ items_room ts
  length-items_text later no_items h = omega arith
  length-items_text later (item t ts) h =
      let inner = length-append (text_of t) (items_text true (items_serde_of ts)) in
      let whole = length-append (comma_if later) (text_of t ++ items_text true (items_serde_of ts)) in
      omega (arith, length-comma_if later, length-text_of t h.0, length-items_text true ts h.1)

  length-members_text : (later : Bool) (ms : Members) → AreMembers ms → length (members_text later (members_serde_of ms)) ≤ members_room ms
  length-members_text later no_members h = omega arith
  length-members_text later (member n t ms) h =
      let inner = length-append (text_of t) (members_text true (members_serde_of ms)) in
      let behind = length-append (quoted n) (58 ∷ (text_of t ++ members_text true (members_serde_of ms))) in
      let whole = length-append (comma_if later) (quoted n ++ 58 ∷ (text_of t ++ members_text true (members_serde_of ms))) in
      omega (arith, length-comma_if later, length-quoted n, length-text_of t h.2, length-members_text true ms h.3)
