-- The counts and lengths of a term with a short text fit their bytes.
use Rattle.std.proofs.Common.{◌≡◌, ◌+◌, ◌/◌, ◌%◌, ◌<◌, ◌≤◌, ◌^◌, nat_lt, ℕ, List, [], ◌∷◌, ◌++◌, length, Bool, true, false, cond, arith, length-append}
use Rattle.std.specs.Char.{digit_char}
use Rattle.json.specs.Print.{escape_letter, escape_byte, escape, quoted}
use Rattle.serde_json.specs.Written.{comma_if, items_text, members_text}
use Rattle.json_terms.specs.Json.{Json, number, is_false, is_null, is_true, object, array, string, Items, no_items, item, Members, no_members, member}
use Rattle.json_terms.specs.Text.{text_of, items_serde_of, members_serde_of}
use Rattle.term_codec.specs.Spelling.{items_count, members_count}
use Rattle.term_codec.specs.SpelledAt.{IsWithin, CountsFit, ItemsFit, MembersFit}
use Rattle.view_ports.specs.Functions.{IsWithinBounds}

-- ---- each byte of a string takes one byte at least

one_of : (b : Bool) (xs ys : List ℕ) → 1 ≤ length xs → 1 ≤ length ys → 1 ≤ length (cond b xs ys)
one_of true xs ys p q = p
one_of false xs ys p q = q

length-escape_byte : (x : ℕ) → 1 ≤ length (escape_byte x)
unfolding escape_byte
length-escape_byte x =
    let coded : List ℕ = 92 ∷ 117 ∷ 48 ∷ 48 ∷ digit_char (x / 16) ∷ digit_char (x % 16) ∷ [] in
    one_of (nat_lt 0 (escape_letter x)) (92 ∷ escape_letter x ∷ []) (cond (nat_lt x 32) coded (x ∷ [])) (omega arith) (one_of (nat_lt x 32) coded (x ∷ []) (omega arith) (omega arith))

length-escape : (s : List ℕ) → length s ≤ length (escape s)
length-escape [] = omega arith
length-escape (x ∷ s) = omega (arith, length-escape_byte x, length-escape s, length-append (escape_byte x) (escape s))

length-quoted : (s : List ℕ) → length s + 2 ≤ length (quoted s)
length-quoted s = omega (arith, length-escape s, length-append (escape s) (34 ∷ []))

-- ---- a part takes its text, and a comma where it comes later

length-items_text : (later : Bool) (t : Json) (ts : Items) → length (items_text later (items_serde_of (item t ts))) ≡ length (comma_if later) + (length (text_of t) + length (items_text true (items_serde_of ts)))
length-items_text later t ts =
    let rest : List ℕ = items_text true (items_serde_of ts) in
    omega (arith, length-append (text_of t) rest, length-append (comma_if later) (text_of t ++ rest))

length-members_text : (later : Bool) (n : List ℕ) (t : Json) (ms : Members) → length (members_text later (members_serde_of (member n t ms)))
    ≡ length (comma_if later) + (length (quoted n) + (1 + (length (text_of t) + length (members_text true (members_serde_of ms)))))
length-members_text later n t ms =
    let rest : List ℕ = members_text true (members_serde_of ms) in
    omega (arith, length-append (text_of t) rest, length-append (quoted n) (58 ∷ (text_of t ++ rest)), length-append (comma_if later) (quoted n ++ 58 ∷ (text_of t ++ rest)))

comma_is_short : (later : Bool) → length (comma_if later) ≤ 1
comma_is_short true = omega arith
comma_is_short false = omega arith

-- so there are no more parts than bytes
items_are_few : (later : Bool) (ts : Items) → items_count ts + length (comma_if later) ≤ length (items_text later (items_serde_of ts))
items_are_few later no_items = omega (arith, comma_is_short later)
items_are_few later (item t ts) = let others = items_are_few true ts in omega (arith, others, length-items_text later t ts)

members_are_few : (later : Bool) (ms : Members) → members_count ms + length (comma_if later) ≤ length (members_text later (members_serde_of ms))
members_are_few later no_members = omega (arith, comma_is_short later)
members_are_few later (member n t ms) = let others = members_are_few true ms in omega (arith, others, length-members_text later n t ms)

-- ---- terms

mutual
  counts_fit : (t : Json) → length (text_of t) < 2 ^ 32 → CountsFit t
  counts_fit (number n) short = tt
  counts_fit is_false short = tt
  counts_fit is_null short = tt
  counts_fit is_true short = tt
  counts_fit (object ms) short = (omega (arith, short, members_are_few false ms), members_fit false ms (omega (arith, short)))
  counts_fit (array ts) short = (omega (arith, short, items_are_few false ts), items_fit false ts (omega (arith, short)))
  counts_fit (string s) short = omega (arith, short, length-quoted s)

  items_fit : (later : Bool) (ts : Items) → length (items_text later (items_serde_of ts)) < 2 ^ 32 → ItemsFit ts
  items_fit later no_items short = tt
  items_fit later (item t ts) short =
      let text = length-items_text later t ts in
      (counts_fit t (omega (arith, short, text)), items_fit true ts (omega (arith, short, text)))

  members_fit : (later : Bool) (ms : Members) → length (members_text later (members_serde_of ms)) < 2 ^ 32 → MembersFit ms
  members_fit later no_members short = tt
  members_fit later (member n t ms) short =
      let text = length-members_text later n t ms in
      (omega (arith, short, text, length-quoted n), counts_fit t (omega (arith, short, text)), members_fit true ms (omega (arith, short, text)))

-- a term within the bounds has a spelling
pub bounds_within : (t : Json) → IsWithinBounds t → IsWithin t
bounds_within t bounds = record { depth = omega (arith, bounds.nested); counts = counts_fit t (omega (arith, bounds.size)) }
