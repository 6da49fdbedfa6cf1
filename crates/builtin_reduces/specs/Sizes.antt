-- The counts and lengths of a term with a short text fit their bytes.
use Rattle.std.proofs.Common.{◌≡◌, ◌+◌, ◌/◌, ◌%◌, ◌<◌, ◌≤◌, ◌^◌, nat_lt, ℕ, List, [], ◌∷◌, ◌++◌, length, Bool, true, false, cond, arith, length-append}
use Rattle.std.specs.Char.{digit_char}
use Rattle.json.specs.Print.{escape_letter, escape_byte, escape, quoted}
use Rattle.serde_json.specs.Written.{comma_if, items_text, members_text}
use Rattle.json_terms.specs.Json.{Json, number, is_false, is_null, is_true, object, array, string, Items, no_items, item, Members, no_members, member}
use Rattle.json_terms.specs.Text.{text_of, items_serde_of, members_serde_of}
use Rattle.term_codec.specs.Spelling.{items_count, members_count}
use Rattle.term_codec.specs.SpelledAt.{IsWithin, CountsFit, ItemsFit, MembersFit}
use Rattle.view_ports.specs.Functions.{IsWithinBounds}

pub one_of : (b : Bool) (xs ys : List ℕ) → 1 ≤ length xs → 1 ≤ length ys → 1 ≤ length (cond b xs ys)
one_of true xs ys p q = p
one_of false xs ys p q = q

-- each byte of a string takes one byte at least
length-escape_byte : (x : ℕ) → 1 ≤ length (escape_byte x)
unfolding escape_byte
length-escape_byte x =
    let coded : List ℕ = 92 ∷ 117 ∷ 48 ∷ 48 ∷ digit_char (x / 16) ∷ digit_char (x % 16) ∷ [] in
    one_of (nat_lt 0 (escape_letter x)) (92 ∷ escape_letter x ∷ []) (cond (nat_lt x 32) coded (x ∷ [])) (omega arith) (one_of (nat_lt x 32) coded (x ∷ []) (omega arith) (omega arith))

length-escape : (s : List ℕ) → length s ≤ length (escape s)
length-escape [] = omega arith
length-escape (x ∷ s) =
    let first = length-escape_byte x in
    let others = length-escape s in
    let whole = length-append (escape_byte x) (escape s) in
    omega arith

pub length-quoted : (s : List ℕ) → length s + 2 ≤ length (quoted s)
length-quoted s =
    let inner = length-escape s in
    let whole = length-append (escape s) (34 ∷ []) in
    omega arith

pub length-items_text : (later : Bool) (t : Json) (ts : Items) → length (items_text later (items_serde_of (item t ts))) ≡ length (comma_if later) + (length (text_of t) + length (items_text true (items_serde_of ts)))
length-items_text later t ts =
    let inner = length-append (text_of t) (items_text true (items_serde_of ts)) in
    let whole = length-append (comma_if later) (text_of t ++ items_text true (items_serde_of ts)) in
    omega arith

pub length-members_text : (later : Bool) (n : List ℕ) (t : Json) (ms : Members) → length (members_text later (members_serde_of (member n t ms)))
    ≡ length (comma_if later) + (length (quoted n) + (1 + (length (text_of t) + length (members_text true (members_serde_of ms)))))
length-members_text later n t ms =
    let inner = length-append (text_of t) (members_text true (members_serde_of ms)) in
    let behind = length-append (quoted n) (58 ∷ (text_of t ++ members_text true (members_serde_of ms))) in
    let whole = length-append (comma_if later) (quoted n ++ 58 ∷ (text_of t ++ members_text true (members_serde_of ms))) in
    omega arith

-- behind another each element has a comma, and the last has a bracket behind it
items_count-le : (ts : Items) → items_count ts + 1 ≤ length (items_text true (items_serde_of ts))
items_count-le no_items = omega arith
items_count-le (item t ts) =
    let others = items_count-le ts in
    let text = length-items_text true t ts in
    omega arith

members_count-le : (ms : Members) → members_count ms + 1 ≤ length (members_text true (members_serde_of ms))
members_count-le no_members = omega arith
members_count-le (member n t ms) =
    let others = members_count-le ms in
    let text = length-members_text true n t ms in
    omega arith

-- there are no more parts than the whole text has bytes
items_count-fits : (ts : Items) → items_count ts ≤ length (text_of (array ts))
items_count-fits no_items = omega arith
items_count-fits (item t ts) =
    let others = items_count-le ts in
    let text = length-items_text false t ts in
    omega arith

members_count-fits : (ms : Members) → members_count ms ≤ length (text_of (object ms))
members_count-fits no_members = omega arith
members_count-fits (member n t ms) =
    let others = members_count-le ms in
    let text = length-members_text false n t ms in
    omega arith

mutual
  -- the counts and lengths of a term with a short text fit
  CountsFit-short : (t : Json) → length (text_of t) < 2 ^ 32 → CountsFit t
  CountsFit-short (number n) short = tt
  CountsFit-short is_false short = tt
  CountsFit-short is_null short = tt
  CountsFit-short is_true short = tt
  CountsFit-short (object ms) short = let few = members_count-fits ms in (omega arith, MembersFit-short false ms (omega arith))
  CountsFit-short (array ts) short = let few = items_count-fits ts in (omega arith, ItemsFit-short false ts (omega arith))
  CountsFit-short (string s) short = let text = length-quoted s in omega arith

  ItemsFit-short : (later : Bool) (ts : Items) → length (items_text later (items_serde_of ts)) < 2 ^ 32 → ItemsFit ts
  ItemsFit-short later no_items short = tt
  ItemsFit-short later (item t ts) short =
      let text = length-items_text later t ts in
      (CountsFit-short t (omega arith), ItemsFit-short true ts (omega arith))

  MembersFit-short : (later : Bool) (ms : Members) → length (members_text later (members_serde_of ms)) < 2 ^ 32 → MembersFit ms
  MembersFit-short later no_members short = tt
  MembersFit-short later (member n t ms) short =
      let text = length-members_text later n t ms in
      let name = length-quoted n in
      (omega arith, CountsFit-short t (omega arith), MembersFit-short true ms (omega arith))

-- a part within the bounds has a spelling
pub part_within : (t : Json) → IsWithinBounds t → IsWithin t
part_within t part = record { depth = omega (arith, part.nested); counts = CountsFit-short t (omega (arith, part.size)) }
