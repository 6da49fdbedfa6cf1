-- A member of an object: its text is no longer than the object's, it is less deep, and it is a term.
use Rattle.std.proofs.Common.{◌≡◌, ◌+◌, ◌*◌, ◌<◌, ◌≤◌, ◌&&◌, ℕ, zero, suc, nat_le, refl, [], List, ◌∷◌, ◌++◌, Bool, true, false, Some, length, bytes_eq, cond, arith, length-append, subst, inl, inr, ◌⊎◌}
use Rattle.serde_json.specs.Written.{comma_if, members_text, items_text}
use Rattle.json.specs.Print.{quoted, escape, escape_byte}
use Rattle.json.proofs.Printed.Strings.{escape_byte_plain}
use Rattle.std.proofs.lemmas.Bool.{and_parts, cases_eq, cases_lt, leb-true}
use Rattle.json_terms.specs.Json.{Json, object, array, string, Items, no_items, item, Members, no_members, member, depth, members_depth}
use Rattle.json_terms.specs.Text.{text_of, members_serde_of, items_serde_of}
use Rattle.json_terms.specs.Terms.{IsTerm, AreMembers}
use Rattle.json_terms.specs.Find.{find}

found_or : (b : Bool) (t v : Json) (rest : Members) (name : List ℕ) → cond b (Some t) (find name rest) ≡ Some v → (t ≡ v) ⊎ (find name rest ≡ Some v)
found_or true t v rest name h = inl cc
found_or false t v rest name h = inr h

longer : (later : Bool) (ms : Members) (name : List ℕ) (v : Json) → find name ms ≡ Some v → length (text_of v) ≤ length (members_text later (members_serde_of ms))
longer later no_members name v h = absurd cc
longer later (member n t ms) name v h =
    let rest : List ℕ = members_text true (members_serde_of ms) in
    let whole : length (comma_if later ++ (quoted n ++ 58 ∷ (text_of t ++ rest))) ≡ length (comma_if later) + (length (quoted n) + (1 + (length (text_of t) + length rest))) = simp length-append (omega arith) in
    elim (found_or (bytes_eq n name) t v ms name h) [
      | inl same ↦ let e : length (text_of t) ≡ length (text_of v) = cc in omega arith
      | inr found ↦ let e = longer true ms name v found in omega arith
    ]

-- the text of a member is no longer than that of the object
pub length-text_of-find : (ms : Members) (name : List ℕ) (v : Json) → find name ms ≡ Some v → length (text_of v) ≤ length (text_of (object ms))
length-text_of-find ms name v h = let e = longer false ms name v h in omega arith

-- a member nests less deep than the object
pub depth-find : (ms : Members) (name : List ℕ) (v : Json) → find name ms ≡ Some v → depth v ≤ members_depth ms
depth-find no_members name v h = absurd cc
depth-find (member n t ms) name v h = elim (found_or (bytes_eq n name) t v ms name h) [
  | inl same ↦ let e : depth t ≡ depth v = cc in omega arith
  | inr found ↦ let e = depth-find ms name v found in omega arith
]

-- a member of a term is a term
pub IsTerm-find : (ms : Members) (name : List ℕ) (v : Json) → AreMembers ms → find name ms ≡ Some v → IsTerm v
IsTerm-find no_members name v terms h = absurd cc
IsTerm-find (member n t ms) name v terms h = elim (found_or (bytes_eq n name) t v ms name h) [
  | inl same ↦ subst IsTerm same terms.2
  | inr found ↦ IsTerm-find ms name v terms.3 found
]

-- ---- the length of an array's text

-- each element takes its text and a byte
abbrev pub items_size : Items → ℕ
items_size no_items = 0
items_size (item t ts) = 1 + length (text_of t) + items_size ts

comma_is_short : (later : Bool) → length (comma_if later) ≤ 1
comma_is_short true = omega arith
comma_is_short false = omega arith

items_are_short : (later : Bool) (ts : Items) → length (items_text later (items_serde_of ts)) ≤ 1 + items_size ts
items_are_short later no_items = omega arith
items_are_short later (item t ts) =
    let comma = comma_is_short later in
    let others = items_are_short true ts in
    let rest : List ℕ = items_text true (items_serde_of ts) in
    let whole : length (comma_if later ++ (text_of t ++ rest)) ≡ length (comma_if later) + (length (text_of t) + length rest) = simp length-append (omega arith) in
    omega arith

pub length-text_of-array : (ts : Items) → length (text_of (array ts)) ≤ 2 + items_size ts
length-text_of-array ts = let e = items_are_short false ts in omega arith

-- ---- the length of a string's text

abbrev are_short_below : ℕ → Bool
are_short_below zero = true
are_short_below (suc n) = nat_le (length (escape_byte n)) 6 && are_short_below n

short_below : (n : ℕ) → are_short_below n ≡ true → (x : ℕ) → x < n → length (escape_byte x) ≤ 6
short_below zero e x h = absurd (omega arith)
short_below (suc n) e x h =
    let p = and_parts _ _ e in elim (cases_eq x n) [
      | inl same ↦ rw same (omega (arith, leb-true (length (escape_byte n)) 6 p.0))
      | inr other ↦ short_below n p.1 x (omega arith)
    ]

ascii_are_short : are_short_below 128 ≡ true
unfolding escape_byte
ascii_are_short = refl

length-escape_byte : (x : ℕ) → length (escape_byte x) ≤ 6
length-escape_byte x = elim (cases_lt x 128) [
  | inl small ↦ short_below 128 ascii_are_short x small
  | inr big ↦ rw (escape_byte_plain x (λ e. omega arith) (λ e. omega arith) (omega arith)) (omega arith)
]

length-escape : (s : List ℕ) → length (escape s) ≤ 6 * length s
length-escape [] = omega arith
length-escape (x ∷ s) =
    let first = length-escape_byte x in
    let others = length-escape s in
    let whole = length-append (escape_byte x) (escape s) in
    omega arith

-- each byte of a string takes six bytes at most
pub length-text_of-string : (s : List ℕ) → length (text_of (string s)) ≤ 2 + 6 * length s
length-text_of-string s = let e = length-escape s in let whole = length-append (escape s) (34 ∷ []) in omega arith
