-- No byte of a term's text is a newline: a string's are escaped.
use Rattle.std.proofs.Common.{◌≡◌, ◌≢◌, ◌<◌, ◌^◌, ◌==◌, ◌&&◌, ℕ, zero, suc, pos, negsuc, List, [], ◌∷◌, Bool, true, false, not, inl, inr, decimal, refl, arith}
use Rattle.std.specs.List.{All}
use Rattle.std.proofs.lemmas.Bool.{and_parts, cases_eq, cases_lt, eqb-false}
use Rattle.std.proofs.lemmas.Fmt.{decimal_is_IsNumeral}
use Rattle.std.proofs.lemmas.List.Elements.{All-nil, All-cons, All-append, All-from_get_or}
use Rattle.std.proofs.lemmas.Str.Parse.{digit_at}
use Rattle.json.specs.Print.{escape_byte, escape, quoted}
use Rattle.json.proofs.Printed.Strings.{escape_byte_plain}
use Rattle.serde_json.specs.Written.{comma_if, items_text, members_text}
use Rattle.json_terms.specs.Json.{Json, number, is_false, is_null, is_true, object, array, string, Items, no_items, item, Members, no_members, member}
use Rattle.json_terms.specs.Terms.{IsTerm, AreTerms, AreMembers}
use Rattle.json_terms.specs.Text.{text_of, items_serde_of, members_serde_of}

abbrev Other : ℕ → Type 0
Other byte = byte ≢ 10

abbrev is_line : List ℕ → Bool
is_line [] = true
is_line (x ∷ xs) = not (x == 10) && is_line xs

is_other : (x : ℕ) (b : Bool) → (x == 10) ≡ b → not b ≡ true → Other x
is_other x true e h = cc
is_other x false e h = eqb-false x 10 e

line : (xs : List ℕ) → is_line xs ≡ true → All Other xs
line [] e = All-nil Other
line (x ∷ xs) e = let p = and_parts _ _ e in All-cons Other x xs (is_other x (x == 10) refl p.0) (line xs p.1)

-- ---- strings

abbrev are_lines_below : ℕ → Bool
are_lines_below zero = true
are_lines_below (suc n) = is_line (escape_byte n) && are_lines_below n

line_below : (n : ℕ) → are_lines_below n ≡ true → (x : ℕ) → x < n → is_line (escape_byte x) ≡ true
line_below zero e x h = absurd (omega arith)
line_below (suc n) e x h =
    let p = and_parts _ _ e in
    elim (cases_eq x n) [ inl same ↦ rw same p.0 | inr other ↦ line_below n p.1 x (omega arith) ]

ascii_lines : are_lines_below 128 ≡ true
unfolding escape_byte
ascii_lines = refl

line-escape_byte : (x : ℕ) → All Other (escape_byte x)
line-escape_byte x = elim (cases_lt x 128) [
  | inl small ↦ line (escape_byte x) (line_below 128 ascii_lines x small)
  | inr big ↦
      rw (escape_byte_plain x (λ e. omega arith) (λ e. omega arith) (omega arith)) (All-cons Other x [] (λ e. omega arith) (All-nil Other))
]

line-escape : (s : List ℕ) → All Other (escape s)
line-escape [] = All-nil Other
line-escape (x ∷ s) = All-append Other (escape_byte x) (escape s) (line-escape_byte x) (line-escape s)

pub line-quoted : (s : List ℕ) → All (λ byte. byte ≢ 10) (quoted s)
line-quoted s = All-cons Other 34 _ (λ e. omega arith) (All-append Other (escape s) (34 ∷ []) (line-escape s) (line (34 ∷ []) refl))

-- ---- numbers

line-decimal : (n : ℕ) → n < 2 ^ 64 → All Other (decimal n)
line-decimal n h = All-from_get_or Other (decimal n) 0 (λ i below. let digit = digit_at (decimal n) i (decimal_is_IsNumeral n h).0.1 below in λ e. omega (arith, digit.0))

-- ---- terms

line-comma_if : (later : Bool) → All Other (comma_if later)
line-comma_if true = line (44 ∷ []) refl
line-comma_if false = All-nil Other

mutual
  pub line-text_of : (t : Json) → IsTerm t → All (λ byte. byte ≢ 10) (text_of t)
  line-text_of (number (pos n)) h = line-decimal n (omega (arith, h.sfits))
  line-text_of (number (negsuc n)) h = All-cons Other 45 (decimal (suc n)) (λ e. omega arith) (line-decimal (suc n) (omega (arith, h.sfits)))
  line-text_of is_false h = line (text_of is_false) refl
  line-text_of is_null h = line (text_of is_null) refl
  line-text_of is_true h = line (text_of is_true) refl
  line-text_of (object ms) h = All-cons Other 123 _ (λ e. omega arith) (line-members_text false ms h)
  line-text_of (array ts) h = All-cons Other 91 _ (λ e. omega arith) (line-items_text false ts h)
  line-text_of (string s) h = line-quoted s

  line-items_text : (later : Bool) (ts : Items) → AreTerms ts → All Other (items_text later (items_serde_of ts))
  line-items_text later no_items h = line (93 ∷ []) refl
  line-items_text later (item t ts) h =
      All-append Other (comma_if later) _ (line-comma_if later) (All-append Other (text_of t) _ (line-text_of t h.0) (line-items_text true ts h.1))

  line-members_text : (later : Bool) (ms : Members) → AreMembers ms → All Other (members_text later (members_serde_of ms))
  line-members_text later no_members h = line (125 ∷ []) refl
  line-members_text later (member n t ms) h =
      let rest = All-append Other (text_of t) _ (line-text_of t h.2) (line-members_text true ms h.3) in
      All-append Other (comma_if later) _ (line-comma_if later) (All-append Other (quoted n) _ (line-quoted n) (All-cons Other 58 _ (λ e. omega arith) rest))
