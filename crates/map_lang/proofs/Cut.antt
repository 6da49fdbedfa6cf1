-- The token that stands first, by its length.
use Rattle.std.specs.Prelude.{◌≡◌, ℕ, zero, suc, ◌+◌, ◌-◌, ◌≤◌, ◌<◌, List, [], ◌∷◌, ◌++◌, length, take, drop, Bool, true, false, cond, refl, ℤ, FitsSigned, IsUtf8}
use Rattle.std.proofs.Common.{◌∙◌, sym, ap, subst, inl, inr, arith, get_or, eqb, ltb, eq-eqb, add-one, length-append}
use Rattle.std.proofs.lemmas.Bool.{false≢true}
use Rattle.std.proofs.lemmas.Bool.Decides.{nat_tests}
use Rattle.std.specs.Int.{w64}
use Rattle.std.specs.Str.{IsCharBoundary}
use Rattle.std.specs.Fmt.{signed_decimal}
use Rattle.std.proofs.lemmas.List.{take-append-drop, append-nil}
use Rattle.std.proofs.lemmas.Str.{IsCharBoundary-after_ascii, IsCharBoundary-before_ascii}
use Rattle.map_lang.specs.declared.token.Token.{Token}
use Rattle.map_lang.specs.declared.token.Token.TheVariants.{Word, Integer, Text, Mark}
use Rattle.map_lang.specs.declared.token.Mark as marks
use Rattle.map_lang.specs.declared.token.Mark.TheVariants.{Comma, Equals, Dot, OpenBrace, CloseBrace, OpenBracket, CloseBracket}
use Rattle.map_lang.specs.Tokens.{IsWhole, text_of, mark_text, all_pass, first_passes, is_blank, is_letter, is_digit, is_in_word, is_in_text}
use Rattle.map_lang.specs.Lexing.{IsTokenAt, IsDigitRun, IsSignedRun}
use Rattle.map_lang.proofs.Lexed.{either, and_parts, or_left, boundary_after, digit_ascii, word_ascii, text_some, text_behind, lead, kind, lead_of, blank_lead}

abbrev is_ascii : ℕ → Bool
is_ascii c = ltb c 128

all_pass-weaker : (p q : ℕ → Bool) → ((c : ℕ) → p c ≡ true → q c ≡ true) → (xs : List ℕ) → all_pass p xs ≡ true → all_pass q xs ≡ true
all_pass-weaker p q f [] h = refl
all_pass-weaker p q f (x ∷ xs) h =
    let parts = and_parts (p x) (all_pass p xs) h in
    let first = f x parts.0 in
    let rest = all_pass-weaker p q f xs parts.1 in
    rw first rest

digit_is_ascii : (c : ℕ) → is_digit c ≡ true → is_ascii c ≡ true
digit_is_ascii c h = grind (arith, nat_tests)

ascii_below : (c : ℕ) → is_ascii c ≡ true → c < 128
ascii_below c h = grind (arith, nat_tests)

signed_ascii : (bs : List ℕ) (n : ℕ) → get_or bs 0 0 ≡ 45 → IsSignedRun bs n → all_pass is_ascii (take n bs) ≡ true
signed_ascii bs zero e run = absurd (omega (arith, run.0))
signed_ascii [] (suc k) e run = refl
signed_ascii (b ∷ bs) (suc k) e run =
    let same : suc k - 1 ≡ k = omega arith in
    let sign : is_ascii b ≡ true = ap is_ascii e in
    let digits : all_pass is_digit (take k bs) ≡ true = subst (λ i. all_pass is_digit (take i bs) ≡ true) same run.1.0 in
    let rest = all_pass-weaker is_digit is_ascii digit_is_ascii (take k bs) digits in
    rw sign rest

not_sign : (c : ℕ) → eqb c 45 ≡ false → c ≡ 45 → ⊥
not_sign c h e = false≢true (sym h ∙ eq-eqb c 45 e)

is_sign : (c : ℕ) → eqb c 45 ≡ true → c ≡ 45
is_sign c h = grind (arith, nat_tests)

pub number_boundary : (bs : List ℕ) (n : ℕ) → IsUtf8 bs → n ≤ length bs → (get_or bs 0 0 ≡ 45 → IsSignedRun bs n) → ((get_or bs 0 0 ≡ 45 → ⊥) → IsDigitRun bs n) → IsCharBoundary bs n
number_boundary bs n u within signed plain =
    elim (either (eqb (get_or bs 0 0) 45)) [
      | inl h ↦ let e = is_sign (get_or bs 0 0) h in boundary_after is_ascii ascii_below bs n u within (signed_ascii bs n e (signed e))
      | inr h ↦ boundary_after is_digit digit_ascii bs n u within (plain (not_sign (get_or bs 0 0) h)).0
    ]

signed_end : (bs : List ℕ) (n : ℕ) → IsSignedRun bs n → first_passes is_digit (drop n bs) ≡ false
signed_end bs zero run = absurd (omega (arith, run.0))
signed_end [] (suc k) run = refl
signed_end (b ∷ bs) (suc k) run = let same : suc k - 1 ≡ k = omega arith in subst (λ i. first_passes is_digit (drop i bs) ≡ false) same run.1.1

number_ends : (bs : List ℕ) (n : ℕ) → (get_or bs 0 0 ≡ 45 → IsSignedRun bs n) → ((get_or bs 0 0 ≡ 45 → ⊥) → IsDigitRun bs n) → first_passes is_digit (drop n bs) ≡ false
number_ends bs n signed plain =
    elim (either (eqb (get_or bs 0 0) 45)) [ inl h ↦ signed_end bs n (signed (is_sign (get_or bs 0 0) h)) | inr h ↦ (plain (not_sign (get_or bs 0 0) h)).1 ]

length_positive : (bs : List ℕ) → (bs ≡ [] → ⊥) → 0 < length bs
length_positive [] h = absurd (h refl)
length_positive (b ∷ bs) h = omega arith

taken_some : (n : ℕ) (bs : List ℕ) → 0 < length (take n bs) → 0 < n
taken_some zero bs h = absurd (omega arith)
taken_some (suc n) bs h = omega arith

pub number_found : (bs : List ℕ) (n : ℕ) (z : ℤ) → IsUtf8 bs → n ≤ length bs → (get_or bs 0 0 ≡ 45 → IsSignedRun bs n) → ((get_or bs 0 0 ≡ 45 → ⊥) → IsDigitRun bs n) → take n bs ≡ signed_decimal z → FitsSigned w64 z → IsTokenAt bs (Integer z) n
number_found bs n z u within signed plain printed fits =
    let ends = number_ends bs n signed plain in
    let whole : bs ≡ signed_decimal z ++ drop n bs = sym (take-append-drop n bs) ∙ ap (λ t. t ++ drop n bs) printed in
    let some : 0 < length (signed_decimal z) = length_positive (signed_decimal z) (λ e. text_some (Integer z) [] (fits, refl) (append-nil (signed_decimal z) ∙ e)) in
    record {
      some = taken_some n bs (subst (λ t. 0 < length t) (sym printed) some);
      within = within;
      whole = whole;
      token_whole = (fits, ends);
      boundary = number_boundary bs n u within signed plain;
    }

pub word_found : (bs : List ℕ) (n : ℕ) → IsUtf8 bs → n ≤ length bs → first_passes is_letter bs ≡ true → all_pass is_in_word (take n bs) ≡ true → first_passes is_in_word (drop n bs) ≡ false → IsTokenAt bs (Word (take n bs)) n
word_found [] n u within letter all ends = absurd (false≢true letter)
word_found (b ∷ bs) zero u within letter all ends = absurd (false≢true (sym ends ∙ or_left (is_letter b) (is_digit b) letter))
word_found (b ∷ bs) (suc n) u within letter all ends = record {
  some = omega arith;
  within = within;
  whole = sym (take-append-drop (suc n) (b ∷ bs));
  token_whole = (letter, all, ends);
  boundary = boundary_after is_in_word word_ascii (b ∷ bs) (suc n) u within all;
}

-- Texts in quotes.

not_in_text : (c : ℕ) → is_in_text c ≡ false → c ≡ 39
not_in_text c h = grind (arith, nat_tests)

quote_at : (bs : List ℕ) (n : ℕ) → n < length bs → first_passes is_in_text (drop n bs) ≡ false → get_or bs n 0 ≡ 39
quote_at [] n within h = absurd (omega arith)
quote_at (b ∷ bs) zero within h = not_in_text b h
quote_at (b ∷ bs) (suc n) within h = quote_at bs n (omega arith) h

drop_quote : (bs : List ℕ) (n : ℕ) → n < length bs → get_or bs n 0 ≡ 39 → drop n bs ≡ 39 ∷ drop (suc n) bs
drop_quote [] n within h = absurd (omega arith)
drop_quote (b ∷ bs) zero within h = ap (λ c. c ∷ bs) h
drop_quote (b ∷ bs) (suc n) within h = drop_quote bs n (omega arith) h

pub text_found : (bs : List ℕ) (n : ℕ) → IsUtf8 bs → get_or bs 0 0 ≡ 39 → suc n < length bs → all_pass is_in_text (take n (drop 1 bs)) ≡ true → first_passes is_in_text (drop n (drop 1 bs)) ≡ false → IsTokenAt bs (Text (take n (drop 1 bs))) (n + 2)
text_found [] n u quote within all ends = absurd (omega arith)
text_found (b ∷ bs) n u quote within all ends =
    let closing : get_or bs n 0 ≡ 39 = quote_at bs n (omega arith) ends in
    let two : n + 2 ≡ suc (suc n) = omega arith in
    let up : suc n + 1 ≡ suc (suc n) = omega arith in
    let rest : drop n bs ≡ 39 ∷ drop (suc n) bs = drop_quote bs n (omega arith) closing in
    let whole : b ∷ bs ≡ 39 ∷ (take n bs ++ 39 ∷ drop (suc n) bs) = ap (λ c. c ∷ bs) quote ∙ ap (λ ts. 39 ∷ ts) (sym (take-append-drop n bs) ∙ ap (λ ts. take n bs ++ ts) rest) in
    subst (λ k. IsTokenAt (b ∷ bs) (Text (take n bs)) k) (sym two) (record {
      some = omega arith;
      within = omega arith;
      whole = whole ∙ sym (text_behind (take n bs) (drop (suc n) bs));
      token_whole = all;
      boundary = subst (IsCharBoundary (b ∷ bs)) up (IsCharBoundary-after_ascii (b ∷ bs) (suc n) u within (omega (arith, closing)));
    })

-- what is cut before the closing quote
pub text_bounds : (bs : List ℕ) (n : ℕ) → IsUtf8 bs → get_or bs 0 0 ≡ 39 → n + 1 < length bs → first_passes is_in_text (drop n (drop 1 bs)) ≡ false → IsCharBoundary bs 1 × IsCharBoundary bs (n + 1)
text_bounds [] n u quote within ends = absurd (omega arith)
text_bounds (b ∷ bs) n u quote within ends =
    let closing : get_or bs n 0 ≡ 39 = quote_at bs n (omega arith) ends in (
      IsCharBoundary-after_ascii (b ∷ bs) 0 u (omega arith) (omega (arith, quote)),
      rw add-one (IsCharBoundary-before_ascii (b ∷ bs) (suc n) (omega arith) (omega (arith, closing))),
    )

-- Marks.

mark_ascii : (m : marks.Mark) → all_pass is_ascii (mark_text m) ≡ true
mark_ascii Comma = refl
mark_ascii Equals = refl
mark_ascii Dot = refl
mark_ascii OpenBrace = refl
mark_ascii CloseBrace = refl
mark_ascii OpenBracket = refl
mark_ascii CloseBracket = refl

append_front : (xs ys zs : List ℕ) → length xs ≡ length ys → xs ++ zs ≡ ys ++ zs → xs ≡ ys
append_front [] [] zs l e = refl
append_front [] (y ∷ ys) zs l e = absurd (omega arith)
append_front (x ∷ xs) [] zs l e = absurd (omega arith)
append_front (x ∷ xs) (y ∷ ys) zs l e =
    let heads : x ≡ y = cc in
    let tails : xs ++ zs ≡ ys ++ zs = cc in
    let shorter : length xs ≡ length ys = omega arith in
    let same = append_front xs ys zs shorter tails in
    cc

front_same : (xs bs : List ℕ) (n : ℕ) → bs ≡ xs ++ drop n bs → take n bs ≡ xs
front_same xs bs n e =
    let lengths : length (take n bs) ≡ length xs = omega (arith, ap length e, ap length (take-append-drop n bs), length-append (take n bs) (drop n bs), length-append xs (drop n bs)) in
    append_front (take n bs) xs (drop n bs) lengths (take-append-drop n bs ∙ e)

pub mark_found : (bs : List ℕ) (m : marks.Mark) (n : ℕ) → IsUtf8 bs → n ≤ length bs → 0 < n → bs ≡ mark_text m ++ drop n bs → IsTokenAt bs (Mark m) n
mark_found bs m n u within some whole =
    let front = front_same (mark_text m) bs n whole in
    let boundary = boundary_after is_ascii ascii_below bs n u within (ap (all_pass is_ascii) front ∙ mark_ascii m) in
    record { some = some; within = within; whole = whole; token_whole = tt; boundary = boundary }

-- The first byte rules out the other kinds.

not_equal : (c n : ℕ) → (c ≡ n → ⊥) → eqb c n ≡ false
not_equal c n h = grind (arith, nat_tests)

lead_other : (c : ℕ) → is_letter c ≡ false → (c ≡ 45 → ⊥) → is_digit c ≡ false → (c ≡ 39 → ⊥) → (k : ℕ) → 0 < k → k < 4 → lead c ≡ k → ⊥
lead_other c l s d q k some low e =
    let sign = not_equal c 45 s in
    let quoted = not_equal c 39 q in
    let reduced : lead c ≡ cond (is_blank c) 4 0 = rw (l, sign, d, quoted) refl in
    elim (either (is_blank c)) [
      | inl h ↦ let v : lead c ≡ 4 = blank_lead c h in omega arith
      | inr h ↦ let v : lead c ≡ 0 = reduced ∙ ap (λ b. cond b 4 0) h in omega arith
    ]

pub only_mark : (bs : List ℕ) → is_letter (get_or bs 0 0) ≡ false → (get_or bs 0 0 ≡ 45 → ⊥) → is_digit (get_or bs 0 0) ≡ false → (get_or bs 0 0 ≡ 39 → ⊥) → ((m : marks.Mark) (r : List ℕ) → bs ≡ mark_text m ++ r → ⊥) → (t : Token) (r : List ℕ) → bs ≡ text_of t ++ r → IsWhole t r → ⊥
only_mark bs l s d q none (Word w) r e h = lead_other (get_or bs 0 0) l s d q 1 (omega arith) (omega arith) (ap (λ b. lead (get_or b 0 0)) e ∙ lead_of (Word w) r h)
only_mark bs l s d q none (Integer n) r e h = lead_other (get_or bs 0 0) l s d q 2 (omega arith) (omega arith) (ap (λ b. lead (get_or b 0 0)) e ∙ lead_of (Integer n) r h)
only_mark bs l s d q none (Text t) r e h = lead_other (get_or bs 0 0) l s d q 3 (omega arith) (omega arith) (ap (λ b. lead (get_or b 0 0)) e ∙ lead_of (Text t) r h)
only_mark bs l s d q none (Mark m) r e h = none m r e

-- the token has the kind that its first byte tells
pub kind_at : (bs : List ℕ) (t : Token) (r : List ℕ) (k : ℕ) → lead (get_or bs 0 0) ≡ k → bs ≡ text_of t ++ r → IsWhole t r → kind t ≡ k
kind_at bs t r k l e h = sym (lead_of t r h) ∙ ap (λ b. lead (get_or b 0 0)) (sym e) ∙ l

pub only_text : (bs : List ℕ) → get_or bs 0 0 ≡ 39 → ((t r : List ℕ) → bs ≡ 39 ∷ t ++ 39 ∷ r → all_pass is_in_text t ≡ true → ⊥) → (t : Token) (r : List ℕ) → bs ≡ text_of t ++ r → IsWhole t r → ⊥
only_text bs q none (Word w) r e h = let k : kind (Word w) ≡ 3 = kind_at bs (Word w) r 3 (ap lead q) e h in omega arith
only_text bs q none (Integer n) r e h = let k : kind (Integer n) ≡ 3 = kind_at bs (Integer n) r 3 (ap lead q) e h in omega arith
only_text bs q none (Text t) r e h = none t r (e ∙ text_behind t r) h
only_text bs q none (Mark m) r e h = let k : kind (Mark m) ≡ 3 = kind_at bs (Mark m) r 3 (ap lead q) e h in omega arith

number_lead : (c : ℕ) → (c ≡ 45) → lead c ≡ 2
number_lead c e = ap lead e

pub only_number : (bs : List ℕ) → lead (get_or bs 0 0) ≡ 2 → ((n : ℤ) (r : List ℕ) → bs ≡ signed_decimal n ++ r → IsWhole (Integer n) r → ⊥) → (t : Token) (r : List ℕ) → bs ≡ text_of t ++ r → IsWhole t r → ⊥
only_number bs q none (Word w) r e h = let k : kind (Word w) ≡ 2 = kind_at bs (Word w) r 2 q e h in omega arith
only_number bs q none (Integer n) r e h = none n r e h
only_number bs q none (Text t) r e h = let k : kind (Text t) ≡ 2 = kind_at bs (Text t) r 2 q e h in omega arith
only_number bs q none (Mark m) r e h = let k : kind (Mark m) ≡ 2 = kind_at bs (Mark m) r 2 q e h in omega arith
