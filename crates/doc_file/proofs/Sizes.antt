-- How long the spelling of a term is and how large its counts are, by the length of its text.
use Rattle.std.proofs.Common.{◌≡◌, ◌+◌, ◌*◌, ◌/◌, ◌%◌, ◌<◌, ◌≤◌, ◌^◌, nat_lt, ℕ, suc, pos, negsuc, List, [], ◌∷◌, ◌++◌, length, Bool, true, false, cond, arith, length-append}
use Rattle.std.proofs.lemmas.Fmt.{decimal_nonempty}
use Rattle.std.specs.Char.{digit_char}
use Rattle.json.specs.Print.{escape_letter, escape_byte, escape, quoted}
use Rattle.serde_json.specs.Written.{comma_if, items_text, members_text}
use Rattle.json_terms.specs.Json.{Json, number, is_false, is_null, is_true, object, array, string, Items, no_items, item, Members, no_members, member}
use Rattle.json_terms.specs.Terms.{IsTerm, AreTerms, AreMembers}
use Rattle.json_terms.specs.Text.{text_of, items_serde_of, members_serde_of}
use Rattle.term_codec.specs.Spelling.{spelling, items_spelling, members_spelling, items_count, members_count, count_bytes, text_bytes}
use Rattle.term_codec.specs.SpelledAt.{CountsFit, ItemsFit, MembersFit}
use Rattle.term_codec.proofs.Words.{length-count_bytes, length-number_bytes}

-- ---- texts

one_of : (b : Bool) (xs ys : List ℕ) → 1 ≤ length xs → 1 ≤ length ys → 1 ≤ length (cond b xs ys)
one_of true xs ys p q = p
one_of false xs ys p q = q

-- each byte of a string takes one byte at least
length-escape_byte : (x : ℕ) → 1 ≤ length (escape_byte x)
unfolding escape_byte
length-escape_byte x =
    let coded : List ℕ = 92 ∷ 117 ∷ 48 ∷ 48 ∷ digit_char (x / 16) ∷ digit_char (x % 16) ∷ [] in
    one_of (nat_lt 0 (escape_letter x)) (92 ∷ escape_letter x ∷ []) (cond (nat_lt x 32) coded (x ∷ [])) (omega arith) (one_of (nat_lt x 32) coded (x ∷ []) (omega arith) (omega arith))

length-escape : (s : List ℕ) → length s ≤ length (escape s)
length-escape [] = omega arith
length-escape (x ∷ s) =
    let first = length-escape_byte x in
    let others = length-escape s in
    let whole = length-append (escape_byte x) (escape s) in
    omega arith

pub length-quoted : (s : List ℕ) → length s + 2 ≤ length (quoted s)
length-quoted s =
    let inner = length-escape s in
    let whole = length-append (escape s) (34 ∷ []) in
    omega arith

length-items_text : (later : Bool) (t : Json) (ts : Items) → length (items_text later (items_serde_of (item t ts))) ≡ length (comma_if later) + (length (text_of t) + length (items_text true (items_serde_of ts)))
length-items_text later t ts =
    let inner = length-append (text_of t) (items_text true (items_serde_of ts)) in
    let whole = length-append (comma_if later) (text_of t ++ items_text true (items_serde_of ts)) in
    omega arith

length-members_text : (later : Bool) (n : List ℕ) (t : Json) (ms : Members) → length (members_text later (members_serde_of (member n t ms)))
    ≡ length (comma_if later) + (length (quoted n) + (1 + (length (text_of t) + length (members_text true (members_serde_of ms)))))
length-members_text later n t ms =
    let inner = length-append (text_of t) (members_text true (members_serde_of ms)) in
    let behind = length-append (quoted n) (58 ∷ (text_of t ++ members_text true (members_serde_of ms))) in
    let whole = length-append (comma_if later) (quoted n ++ 58 ∷ (text_of t ++ members_text true (members_serde_of ms))) in
    omega arith

-- ---- spellings

pub length-text_bytes : (s : List ℕ) → length (text_bytes s) ≡ length s + 4
length-text_bytes s =
    let count = length-count_bytes (length s) in
    let whole = length-append (count_bytes (length s)) s in
    omega arith

mutual
  -- a spelling has nine times the bytes of the text at most
  pub length-spelling : (t : Json) → IsTerm t → length (spelling t) ≤ 9 * length (text_of t)
  length-spelling (number (pos n)) h =
      let some = decimal_nonempty n (omega (arith, h.sfits)) in
      let size = length-number_bytes (pos n) in
      omega arith
  length-spelling (number (negsuc n)) h =
      let some = decimal_nonempty (suc n) (omega (arith, h.sfits)) in
      let size = length-number_bytes (negsuc n) in
      omega arith
  length-spelling is_false h = omega arith
  length-spelling is_null h = omega arith
  length-spelling is_true h = omega arith
  length-spelling (object ms) h =
      let count = length-count_bytes (members_count ms) in
      let whole = length-append (count_bytes (members_count ms)) (members_spelling ms) in
      let parts = length-members_spelling false ms h in
      omega arith
  length-spelling (array ts) h =
      let count = length-count_bytes (items_count ts) in
      let whole = length-append (count_bytes (items_count ts)) (items_spelling ts) in
      let parts = length-items_spelling false ts h in
      omega arith
  length-spelling (string s) h =
      let text = length-quoted s in
      let size = length-text_bytes s in
      omega arith

  length-items_spelling : (later : Bool) (ts : Items) → AreTerms ts → length (items_spelling ts) ≤ 9 * length (items_text later (items_serde_of ts))
  length-items_spelling later no_items h = omega arith
  length-items_spelling later (item t ts) h =
      let first = length-spelling t h.0 in
      let others = length-items_spelling true ts h.1 in
      let text = length-items_text later t ts in
      let whole = length-append (spelling t) (items_spelling ts) in
      omega arith

  length-members_spelling : (later : Bool) (ms : Members) → AreMembers ms → length (members_spelling ms) ≤ 9 * length (members_text later (members_serde_of ms))
  length-members_spelling later no_members h = omega arith
  length-members_spelling later (member n t ms) h =
      let name = length-quoted n in
      let size = length-text_bytes n in
      let first = length-spelling t h.2 in
      let others = length-members_spelling true ms h.3 in
      let text = length-members_text later n t ms in
      let inner = length-append (spelling t) (members_spelling ms) in
      let whole = length-append (text_bytes n) (spelling t ++ members_spelling ms) in
      omega arith

-- ---- counts

-- behind another each element has a comma, and the last has a bracket behind it
items_count-le : (ts : Items) → items_count ts + 1 ≤ length (items_text true (items_serde_of ts))
items_count-le no_items = omega arith
items_count-le (item t ts) =
    let others = items_count-le ts in
    let text = length-items_text true t ts in
    omega arith

members_count-le : (ms : Members) → members_count ms + 1 ≤ length (members_text true (members_serde_of ms))
members_count-le no_members = omega arith
members_count-le (member n t ms) =
    let others = members_count-le ms in
    let text = length-members_text true n t ms in
    omega arith

-- there are no more parts than the whole text has bytes
items_count-fits : (ts : Items) → items_count ts ≤ length (text_of (array ts))
items_count-fits no_items = omega arith
items_count-fits (item t ts) =
    let others = items_count-le ts in
    let text = length-items_text false t ts in
    omega arith

pub members_count-fits : (ms : Members) → members_count ms ≤ length (text_of (object ms))
members_count-fits no_members = omega arith
members_count-fits (member n t ms) =
    let others = members_count-le ms in
    let text = length-members_text false n t ms in
    omega arith

mutual
  -- the counts and lengths of a term with a short text fit
  pub CountsFit-short : (t : Json) → length (text_of t) < 2 ^ 32 → CountsFit t
  CountsFit-short (number n) short = tt
  CountsFit-short is_false short = tt
  CountsFit-short is_null short = tt
  CountsFit-short is_true short = tt
  CountsFit-short (object ms) short = let few = members_count-fits ms in (omega arith, MembersFit-short false ms (omega arith))
  CountsFit-short (array ts) short = let few = items_count-fits ts in (omega arith, ItemsFit-short false ts (omega arith))
  CountsFit-short (string s) short = let text = length-quoted s in omega arith

  ItemsFit-short : (later : Bool) (ts : Items) → length (items_text later (items_serde_of ts)) < 2 ^ 32 → ItemsFit ts
  ItemsFit-short later no_items short = tt
  ItemsFit-short later (item t ts) short =
      let text = length-items_text later t ts in
      (CountsFit-short t (omega arith), ItemsFit-short true ts (omega arith))

  MembersFit-short : (later : Bool) (ms : Members) → length (members_text later (members_serde_of ms)) < 2 ^ 32 → MembersFit ms
  MembersFit-short later no_members short = tt
  MembersFit-short later (member n t ms) short =
      let text = length-members_text later n t ms in
      let name = length-quoted n in
      (omega arith, CountsFit-short t (omega arith), MembersFit-short true ms (omega arith))
