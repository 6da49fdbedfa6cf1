-- The spelling of a term is not much longer than its text.
use Rattle.std.proofs.Common.{◌≡◌, ◌+◌, ◌*◌, ◌/◌, ◌%◌, ◌==◌, ◌≤◌, ℕ, zero, suc, ℤ, pos, negsuc, List, [], ◌∷◌, ◌++◌, length, true, false, decimal, arith, length-append}
use Rattle.std.specs.Fmt.{digit_glyph, digits, digits_onto}
use Rattle.serde_json.specs.Written.{items_text, members_text}
use Rattle.json_terms.specs.Json.{Json, number, is_false, is_null, is_true, object, array, string, Items, no_items, item, Members, no_members, member}
use Rattle.json_terms.specs.Text.{text_of, items_serde_of, members_serde_of}
use Rattle.term_codec.specs.Spelling.{spelling, items_spelling, members_spelling, items_count, members_count, count_bytes, text_bytes}
use Rattle.term_codec.proofs.Words.{length-count_bytes, length-number_bytes}
use Rattle.builtin_reduces.specs.Sizes.{one_of, length-quoted, length-items_text, length-members_text}

-- ---- a number has one digit at least

length-digits_onto : (k n : ℕ) (after : List ℕ) → 1 ≤ length after → 1 ≤ length (digits_onto k 10 false n after)
length-digits_onto zero n after some = some
length-digits_onto (suc k) n after some =
    let glyph = digit_glyph false (n % 10) in
    one_of (n / 10 == 0) (glyph ∷ after) (digits_onto k 10 false (n / 10) (glyph ∷ after)) (omega arith) (length-digits_onto k (n / 10) (glyph ∷ after) (omega arith))

length-decimal : (n : ℕ) → 1 ≤ length (decimal n)
unfolding digits
length-decimal n =
    let glyph = digit_glyph false (n % 10) in
    one_of (n / 10 == 0) (glyph ∷ []) (digits_onto 63 10 false (n / 10) (glyph ∷ [])) (omega arith) (length-digits_onto 63 (n / 10) (glyph ∷ []) (omega arith))

pub length-number : (n : ℤ) → 1 ≤ length (text_of (number n))
length-number (pos n) = length-decimal n
length-number (negsuc n) = omega arith

-- ---- a term

length-text_bytes : (s : List ℕ) → length (text_bytes s) ≡ 4 + length s
length-text_bytes s =
    let head = length-count_bytes (length s) in
    let whole = length-append (count_bytes (length s)) s in
    omega arith

mutual
  -- a byte of the text stands for 5 bytes at most, and 4 more may come for the whole
  pub spelling_le : (t : Json) → length (spelling t) ≤ 5 * length (text_of t) + 4
  spelling_le (number n) =
      let text = length-number n in
      let bytes = length-number_bytes n in
      omega arith
  spelling_le is_false = omega arith
  spelling_le is_null = omega arith
  spelling_le is_true = omega arith
  spelling_le (object ms) =
      let parts = object_le ms in
      let head = length-count_bytes (members_count ms) in
      let whole = length-append (count_bytes (members_count ms)) (members_spelling ms) in
      omega arith
  spelling_le (array ts) =
      let parts = array_le ts in
      let head = length-count_bytes (items_count ts) in
      let whole = length-append (count_bytes (items_count ts)) (items_spelling ts) in
      omega arith
  spelling_le (string s) =
      let text = length-quoted s in
      let bytes = length-text_bytes s in
      omega arith

  array_le : (ts : Items) → length (items_spelling ts) + 1 ≤ 5 * length (text_of (array ts))
  array_le no_items = omega arith
  array_le (item t ts) =
      let one = spelling_le t in
      let others = later_items_le ts in
      let text = length-items_text false t ts in
      let whole = length-append (spelling t) (items_spelling ts) in
      omega arith

  later_items_le : (ts : Items) → length (items_spelling ts) + 1 ≤ 5 * length (items_text true (items_serde_of ts))
  later_items_le no_items = omega arith
  later_items_le (item t ts) =
      let one = spelling_le t in
      let others = later_items_le ts in
      let text = length-items_text true t ts in
      let whole = length-append (spelling t) (items_spelling ts) in
      omega arith

  object_le : (ms : Members) → length (members_spelling ms) + 1 ≤ 5 * length (text_of (object ms))
  object_le no_members = omega arith
  object_le (member n t ms) =
      let name = length-quoted n in
      let one = spelling_le t in
      let others = later_members_le ms in
      let text = length-members_text false n t ms in
      let bytes = length-text_bytes n in
      let behind = length-append (spelling t) (members_spelling ms) in
      let whole = length-append (text_bytes n) (spelling t ++ members_spelling ms) in
      omega arith

  later_members_le : (ms : Members) → length (members_spelling ms) + 1 ≤ 5 * length (members_text true (members_serde_of ms))
  later_members_le no_members = omega arith
  later_members_le (member n t ms) =
      let name = length-quoted n in
      let one = spelling_le t in
      let others = later_members_le ms in
      let text = length-members_text true n t ms in
      let bytes = length-text_bytes n in
      let behind = length-append (spelling t) (members_spelling ms) in
      let whole = length-append (text_bytes n) (spelling t ++ members_spelling ms) in
      omega arith
