-- Each source either has tokens, and these have proper texts and numbers, or it has none.
use Rattle.std.specs.Prelude.{◌≡◌, ℕ, zero, suc, ◌+◌, ◌-◌, ◌≤◌, ◌<◌, ◌^◌, List, [], ◌∷◌, ◌++◌, length, take, drop, Bool, true, false, cond, ◌&&◌, ◌||◌, refl, ℤ, pos, negsuc, FitsSigned, decimal, ◌⊎◌, IsUtf8, bytes_eq}
use Rattle.std.proofs.Common.{◌∙◌, sym, ap, subst, inl, inr, arith, get_or, eqb, leb, length-drop}
use Rattle.std.specs.List.{AllByRecursion}
use Rattle.std.specs.Int.{w64}
use Rattle.std.specs.Fmt.{signed_decimal}
use Rattle.std.specs.Str.Parse.{digits_value}
use Rattle.std.proofs.lemmas.Bool.{false≢true, cases_Bool, cases_lt, cases_eq, and_parts, and_from, eqb-true, eqb-false, ne_eqb, leb-true, le-leb, or_parts}
use Rattle.std.proofs.lemmas.Int.{ints}
use Rattle.std.proofs.lemmas.Fmt.{decimal_is_IsNumeral, decimal_digit, first_decimal}
use Rattle.std.proofs.lemmas.List.{take-append-drop}
use Rattle.std.proofs.lemmas.Slice.Eq.{bytes_eq-Decides}
use Rattle.std.proofs.lemmas.Str.{IsUtf8-drop, IsUtf8-between}
use Rattle.map_lang.specs.declared.token.Token.{Token}
use Rattle.map_lang.specs.declared.token.Token.TheVariants.{Word, Integer, Text, Mark}
use Rattle.map_lang.specs.declared.token.Mark as marks
use Rattle.map_lang.specs.declared.token.Mark.TheVariants.{Comma, Equals, Dot, OpenBrace, CloseBrace, OpenBracket, CloseBracket}
use Rattle.map_lang.specs.Tokens.{AreTokens, Begins, IsWhole, text_of, mark_text, all_pass, first_passes, is_blank, is_letter, is_digit, is_in_word, is_in_text}
use Rattle.map_lang.specs.Lexing.{IsTokenAt, IsBlankBefore, IsDigitRun, IsSignedRun}
use Rattle.map_lang.proofs.Lexed.{span_unique, boundary_after, blank_ascii, lead, number_run, skip, unskip, begins_unique, tokens_start, tokens_refused}
use Rattle.map_lang.proofs.Cut.{word_found, number_found, text_found, text_bounds, mark_found, only_mark, only_text, only_number}

-- the text is UTF-8, and the number has 64 bits
abbrev pub IsProperToken : Token → Type 0
IsProperToken (Word w) = Unit {0}
IsProperToken (Integer n) = FitsSigned w64 n
IsProperToken (Text t) = IsUtf8 t
IsProperToken (Mark m) = Unit {0}

-- ---- runs of bytes

-- how many bytes that pass stand first
run_len : (ℕ → Bool) → List ℕ → ℕ
run_len p [] = 0
run_len p (c ∷ cs) = cond (p c) (suc (run_len p cs)) 0

record IsRun (p : ℕ → Bool) (bs : List ℕ) (n : ℕ) : Type 0 where
  within : n ≤ length bs
  passing : all_pass p (take n bs) ≡ true
  ends : first_passes p (drop n bs) ≡ false

run_of_one : (p : ℕ → Bool) (c : ℕ) (cs : List ℕ) (b : Bool) → p c ≡ b → IsRun p cs (run_len p cs) → IsRun p (c ∷ cs) (cond b (suc (run_len p cs)) 0)
run_of_one p c cs true e r = record { within = omega (arith, r.within); passing = and_from (p c) (all_pass p (take (run_len p cs) cs)) e r.passing; ends = r.ends }
run_of_one p c cs false e r = record { within = omega arith; passing = refl; ends = e }

is_run : (p : ℕ → Bool) (bs : List ℕ) → IsRun p bs (run_len p bs)
unfolding run_len
is_run p [] = record { within = omega arith; passing = refl; ends = refl }
is_run p (c ∷ cs) = run_of_one p c cs (p c) refl (is_run p cs)

-- ---- numbers

-- the number that a sign and digits are
number_of_sign : Bool → List ℕ → ℤ
number_of_sign true bs = negsuc (digits_value 10 (drop 1 bs) - 1)
number_of_sign false bs = pos (digits_value 10 bs)

number_of : List ℕ → ℤ
number_of bs = number_of_sign (eqb (get_or bs 0 0) 45) bs

fits : ℤ → Bool
fits (pos n) = leb (n + 1) (2 ^ 63)
fits (negsuc n) = leb (n + 1) (2 ^ 63)

fits-sound : (z : ℤ) → fits z ≡ true → FitsSigned w64 z
unfolding fits
fits-sound (pos n) h = let e = leb-true (n + 1) (2 ^ 63) h in omega (arith, ints)
fits-sound (negsuc n) h = let e = leb-true (n + 1) (2 ^ 63) h in omega (arith, ints)

fits-complete : (z : ℤ) → FitsSigned w64 z → fits z ≡ true
unfolding fits
fits-complete (pos n) h = le-leb (n + 1) (2 ^ 63) (omega (arith, ints))
fits-complete (negsuc n) h = le-leb (n + 1) (2 ^ 63) (omega (arith, ints))

small_pos : (n : ℕ) → FitsSigned w64 (pos n) → n < 2 ^ 64
small_pos n h = omega (arith, ints)

small_neg : (n : ℕ) → FitsSigned w64 (negsuc n) → suc n < 2 ^ 64
small_neg n h = omega (arith, ints)

-- a number's text begins with no sign
decimal_sign : (n : ℕ) → n < 2 ^ 64 → eqb (get_or (decimal n) 0 0) 45 ≡ false
decimal_sign n small =
    elim (cases_lt 0 n) [
      | inl some ↦ ne_eqb (get_or (decimal n) 0 0) 45 (λ h. omega (arith, first_decimal n some small))
      | inr none ↦
          let zeroth : n ≡ 0 = omega arith in
          ap (λ ds. eqb (get_or ds 0 0) 45) (ap decimal zeroth ∙ decimal_digit 0 (omega arith))
    ]

-- a number's text is read as it
number_back : (z : ℤ) → FitsSigned w64 z → number_of (signed_decimal z) ≡ z
unfolding number_of number_of_sign
number_back (pos n) h =
    let small = small_pos n h in
    let sign : eqb (get_or (decimal n) 0 0) 45 ≡ false = decimal_sign n small in
    ap (λ b. number_of_sign b (decimal n)) sign ∙ ap pos (decimal_is_IsNumeral n small).1
number_back (negsuc n) h =
    let small = small_neg n h in
    let value : digits_value 10 (decimal (suc n)) ≡ suc n = (decimal_is_IsNumeral (suc n) small).1 in
    let less : digits_value 10 (decimal (suc n)) - 1 ≡ n = omega arith in
    ap negsuc less

-- whether the bytes are the text of a number of 64 bits
abbrev NumberText : List ℕ → Type 0
NumberText bs = ((z : ℤ) × (bs ≡ signed_decimal z) × FitsSigned w64 z) ⊎ ((z : ℤ) → bs ≡ signed_decimal z → FitsSigned w64 z → ⊥)

is_number : List ℕ → Bool
is_number bs = bytes_eq (signed_decimal (number_of bs)) bs && fits (number_of bs)

is_number-complete : (bs : List ℕ) (z : ℤ) → bs ≡ signed_decimal z → FitsSigned w64 z → is_number bs ≡ true
unfolding is_number
is_number-complete bs z e h =
    let same : number_of bs ≡ z = ap number_of e ∙ number_back z h in
    let text : signed_decimal (number_of bs) ≡ bs = ap signed_decimal same ∙ sym e in
    and_from (bytes_eq (signed_decimal (number_of bs)) bs) (fits (number_of bs)) ((bytes_eq-Decides (signed_decimal (number_of bs)) bs).1 text) (ap fits same ∙ fits-complete z h)

number_text_of : (bs : List ℕ) (b : Bool) → is_number bs ≡ b → NumberText bs
unfolding is_number
number_text_of bs true e =
    let parts = and_parts (bytes_eq (signed_decimal (number_of bs)) bs) (fits (number_of bs)) e in
    inl (number_of bs, sym ((bytes_eq-Decides (signed_decimal (number_of bs)) bs).0 parts.0), fits-sound (number_of bs) parts.1)
number_text_of bs false e = inr (λ z is h. false≢true (sym e ∙ is_number-complete bs z is h))

number_text : (bs : List ℕ) → NumberText bs
number_text bs = number_text_of bs (is_number bs) refl

-- ---- the first token

-- whether a token stands first
abbrev TokenHere : List ℕ → Type 0
TokenHere bs = ((t : Token) × (n : ℕ) × IsTokenAt bs t n × IsProperToken t) ⊎ ((t : Token) (r : List ℕ) → bs ≡ text_of t ++ r → IsWhole t r → ⊥)

integer_len : Bool → List ℕ → ℕ
integer_len true bs = suc (run_len is_digit (drop 1 bs))
integer_len false bs = run_len is_digit bs

signed_run : (bs : List ℕ) → IsSignedRun bs (suc (run_len is_digit (drop 1 bs)))
signed_run bs =
    let r = is_run is_digit (drop 1 bs) in
    let same : suc (run_len is_digit (drop 1 bs)) - 1 ≡ run_len is_digit (drop 1 bs) = omega arith in
    (omega arith, subst (IsDigitRun (drop 1 bs)) (sym same) (r.passing, r.ends))

record IsIntegerLen (bs : List ℕ) (n : ℕ) : Type 0 where
  within : n ≤ length bs
  signed : get_or bs 0 0 ≡ 45 → IsSignedRun bs n
  plain : (get_or bs 0 0 ≡ 45 → ⊥) → IsDigitRun bs n

is_integer_len : (bs : List ℕ) (b : Bool) → 0 < length bs → eqb (get_or bs 0 0) 45 ≡ b → IsIntegerLen bs (integer_len b bs)
unfolding integer_len
is_integer_len bs true some e =
    let r = is_run is_digit (drop 1 bs) in record {
      within = omega (arith, r.within, length-drop 1 bs);
      signed = λ _. signed_run bs;
      plain = λ h. absurd (h (eqb-true (get_or bs 0 0) 45 e));
    }
is_integer_len bs false some e =
    let r = is_run is_digit bs in record {
      within = r.within;
      signed = λ h. absurd (eqb-false (get_or bs 0 0) 45 e h);
      plain = λ _. (r.passing, r.ends);
    }

number_at : (bs : List ℕ) (n : ℕ) → IsUtf8 bs → lead (get_or bs 0 0) ≡ 2 → IsIntegerLen bs n → NumberText (take n bs) → TokenHere bs
number_at bs n u l r (inl (z, e, h)) = inl (Integer z, n, number_found bs n z u r.within r.signed r.plain e h, h)
number_at bs n u l r (inr none) = inr (only_number bs l (λ z rest e whole. none z (number_run bs n z rest e whole.0 whole.1 r.signed r.plain) whole.0))

word_at : (bs : List ℕ) → IsUtf8 bs → first_passes is_letter bs ≡ true → TokenHere bs
word_at bs u letter =
    let r = is_run is_in_word bs in
    inl (Word (take (run_len is_in_word bs) bs), run_len is_in_word bs, word_found bs (run_len is_in_word bs) u r.within letter r.passing r.ends, tt)

-- what stands between two quotes is UTF-8
text_utf8 : (bs : List ℕ) (n : ℕ) → IsUtf8 bs → get_or bs 0 0 ≡ 39 → n + 1 < length bs → first_passes is_in_text (drop n (drop 1 bs)) ≡ false → IsUtf8 (take n (drop 1 bs))
text_utf8 bs n u quote within ends =
    let bounds = text_bounds bs n u quote within ends in
    let same : n + 1 - 1 ≡ n = omega arith in
    subst (λ (k : ℕ). IsUtf8 (take k (drop 1 bs))) same (IsUtf8-between bs 1 (n + 1) u (omega arith) bounds.0 bounds.1)

no_quote : (cs : List ℕ) (n : ℕ) → length cs ≤ n → IsRun is_in_text cs n → (t r : List ℕ) → cs ≡ t ++ 39 ∷ r → all_pass is_in_text t ≡ true → ⊥
no_quote cs n short run t r e all =
    let same = span_unique is_in_text (take n cs) t (drop n cs) (39 ∷ r) (take-append-drop n cs ∙ e) run.passing all run.ends refl in
    let lengths = ap length same.1 in
    omega (arith, length-drop n cs)

text_at : (c : ℕ) (cs : List ℕ) → IsUtf8 (c ∷ cs) → c ≡ 39 → TokenHere (c ∷ cs)
text_at c cs u quote =
    let n = run_len is_in_text cs in
    let run = is_run is_in_text cs in
    elim (cases_lt n (length cs)) [
      | inl more ↦
          inl (
            Text (take n cs),
            n + 2,
            text_found (c ∷ cs) n u quote (omega arith) run.passing run.ends,
            text_utf8 (c ∷ cs) n u quote (omega arith) run.ends,
          )
      | inr all ↦ inr (only_text (c ∷ cs) quote (λ t r e h. no_quote cs n all run t r (ap (drop 1) e) h))
    ]

-- ---- marks

mark_at : (c : ℕ) (cs : List ℕ) (m : marks.Mark) (n : ℕ) → IsUtf8 (c ∷ cs) → n ≤ length (c ∷ cs) → 0 < n → c ∷ cs ≡ mark_text m ++ drop n (c ∷ cs) → TokenHere (c ∷ cs)
mark_at c cs m n u within some e = inl (Mark m, n, mark_found (c ∷ cs) m n u within some e, tt)

-- no mark stands first where its first byte doesn't
no_mark : (c : ℕ) (cs : List ℕ) → (c ≡ 44 → ⊥) → (c ≡ 46 → ⊥) → (c ≡ 123 → ⊥) → (c ≡ 125 → ⊥) → (c ≡ 91 → ⊥) → (c ≡ 93 → ⊥) → ((r : List ℕ) → c ∷ cs ≡ 61 ∷ 61 ∷ r → ⊥)
    → (m : marks.Mark) (r : List ℕ) → c ∷ cs ≡ mark_text m ++ r → ⊥
no_mark c cs comma dot brace close left right equals Comma r e = comma (ap (λ b. get_or b 0 0) e)
no_mark c cs comma dot brace close left right equals Equals r e = equals r e
no_mark c cs comma dot brace close left right equals Dot r e = dot (ap (λ b. get_or b 0 0) e)
no_mark c cs comma dot brace close left right equals OpenBrace r e = brace (ap (λ b. get_or b 0 0) e)
no_mark c cs comma dot brace close left right equals CloseBrace r e = close (ap (λ b. get_or b 0 0) e)
no_mark c cs comma dot brace close left right equals OpenBracket r e = left (ap (λ b. get_or b 0 0) e)
no_mark c cs comma dot brace close left right equals CloseBracket r e = right (ap (λ b. get_or b 0 0) e)

-- whether `==` stands first
equals_at : (c : ℕ) (cs : List ℕ) → ((r : List ℕ) × (c ∷ cs ≡ 61 ∷ 61 ∷ r)) ⊎ ((r : List ℕ) → c ∷ cs ≡ 61 ∷ 61 ∷ r → ⊥)
equals_at c [] = inr (λ r e. let l : length (c ∷ []) ≡ length (61 ∷ 61 ∷ r) = ap length e in omega arith)
equals_at c (d ∷ cs) =
    elim (cases_eq c 61) [
      | inl first ↦ elim (cases_eq d 61) [
        | inl second ↦ inl (cs, ap (λ b. b ∷ d ∷ cs) first ∙ ap (λ b. 61 ∷ b ∷ cs) second)
        | inr other ↦ inr (λ r e. other (ap (λ b. get_or b 1 0) e))
      ]
      | inr other ↦ inr (λ r e. other (ap (λ b. get_or b 0 0) e))
    ]

-- a byte that is no word's, number's or text's first
record IsOther (bs : List ℕ) : Type 0 where
  letter : is_letter (get_or bs 0 0) ≡ false
  sign : get_or bs 0 0 ≡ 45 → ⊥
  digit : is_digit (get_or bs 0 0) ≡ false
  quote : get_or bs 0 0 ≡ 39 → ⊥

single_at : (c b : ℕ) (cs : List ℕ) (m : marks.Mark) → IsUtf8 (c ∷ cs) → mark_text m ≡ b ∷ [] → c ≡ b → TokenHere (c ∷ cs)
single_at c b cs m u text e = mark_at c cs m 1 u (omega arith) (omega arith) (ap (λ x. x ∷ cs) e ∙ ap (λ bs. bs ++ cs) (sym text))

double_at : (c : ℕ) (cs r : List ℕ) → IsUtf8 (c ∷ cs) → c ∷ cs ≡ 61 ∷ 61 ∷ r → TokenHere (c ∷ cs)
double_at c cs r u e =
    let l : length (c ∷ cs) ≡ length (61 ∷ 61 ∷ r) = ap length e in
    let rest : drop 2 (c ∷ cs) ≡ r = ap (drop 2) e in
    mark_at c cs Equals 2 u (omega arith) (omega arith) (e ∙ ap (λ q. 61 ∷ 61 ∷ q) (sym rest))

mark_here : (c : ℕ) (cs : List ℕ) → IsUtf8 (c ∷ cs) → IsOther (c ∷ cs) → TokenHere (c ∷ cs)
mark_here c cs u other =
    elim (cases_eq c 44) [
      | inl e ↦ single_at c 44 cs Comma u refl e
      | inr comma ↦ elim (cases_eq c 46) [
        | inl e ↦ single_at c 46 cs Dot u refl e
        | inr dot ↦ elim (cases_eq c 123) [
          | inl e ↦ single_at c 123 cs OpenBrace u refl e
          | inr brace ↦ elim (cases_eq c 125) [
            | inl e ↦ single_at c 125 cs CloseBrace u refl e
            | inr close ↦ elim (cases_eq c 91) [
              | inl e ↦ single_at c 91 cs OpenBracket u refl e
              | inr left ↦ elim (cases_eq c 93) [
                | inl e ↦ single_at c 93 cs CloseBracket u refl e
                | inr right ↦ elim (equals_at c cs) [
                  | inl found ↦ double_at c cs found.0 u found.1
                  | inr equals ↦ inr (only_mark (c ∷ cs) other.letter other.sign other.digit other.quote (no_mark c cs comma dot brace close left right equals))
                ]
              ]
            ]
          ]
        ]
      ]
    ]

-- ---- a token

token_here : (c : ℕ) (cs : List ℕ) → IsUtf8 (c ∷ cs) → TokenHere (c ∷ cs)
token_here c cs u =
    elim (cases_Bool (is_letter c)) [
      | inl letter ↦ word_at (c ∷ cs) u letter
      | inr letter ↦ elim (cases_Bool (eqb c 45 || is_digit c)) [
        | inl number ↦
            let kind : lead c ≡ 2 = rw (letter, number) refl in
            number_at (c ∷ cs) (integer_len (eqb c 45) (c ∷ cs)) u kind (is_integer_len (c ∷ cs) (eqb c 45) (omega arith) refl) (number_text (take (integer_len (eqb c 45) (c ∷ cs)) (c ∷ cs)))
        | inr number ↦ elim (cases_eq c 39) [
          | inl quote ↦ text_at c cs u quote
          | inr quote ↦
              let parts = or_parts (eqb c 45) (is_digit c) number in
              mark_here c cs u (record { letter = letter; sign = eqb-false c 45 parts.0; digit = parts.1; quote = quote })
        ]
      ]
    ]

-- ---- all tokens

-- whether a source has tokens
abbrev pub HasTokens : List ℕ → Type 0
HasTokens source = ((ts : List Token) × AreTokens source ts × AllByRecursion IsProperToken ts) ⊎ ((ts : List Token) → AreTokens source ts → ⊥)

blanks_before : (source : List ℕ) → IsBlankBefore source (drop (run_len is_blank source) source)
blanks_before source =
    let run = is_run is_blank source in
    (take (run_len is_blank source) source, run.passing, sym (take-append-drop (run_len is_blank source) source), run.ends)

blanks_utf8 : (source : List ℕ) → IsUtf8 source → IsUtf8 (drop (run_len is_blank source) source)
blanks_utf8 source u =
    let run = is_run is_blank source in
    IsUtf8-drop source (run_len is_blank source) u (boundary_after is_blank blank_ascii source (run_len is_blank source) u run.within run.passing)

-- a token stands here, and no tokens behind it
behind_none : (rest : List ℕ) (t : Token) (n : ℕ) → IsTokenAt rest t n → first_passes is_blank rest ≡ false → 0 < length rest → ((us : List Token) → AreTokens (drop n rest) us → ⊥)
    → (ts : List Token) → AreTokens rest ts → ⊥
behind_none [] t n at plain some none ts x = omega arith
behind_none (c ∷ cs) t n at plain some none [] x = false≢true (sym plain ∙ (and_parts (is_blank c) (all_pass is_blank cs) x).0)
behind_none (c ∷ cs) t n at plain some none (u ∷ us) x =
    let here : Begins (c ∷ cs) t (drop n (c ∷ cs)) = record { blanks = []; are_blanks = refl; whole = at.whole; token_whole = at.token_whole } in
    let same = begins_unique (c ∷ cs) u t x.0 (drop n (c ∷ cs)) x.1 here in
    none us (subst (λ (r : List ℕ). AreTokens r us) same.1 x.2)

has_more : (source rest : List ℕ) (t : Token) (n : ℕ) → IsBlankBefore source rest → IsTokenAt rest t n → IsProperToken t → 0 < length rest → HasTokens (drop n rest) → HasTokens source
has_more source rest t n blank at proper some (inl (ts, x, each)) =
    inl (t ∷ ts, unskip source rest blank (t ∷ ts) (drop n rest, record { blanks = []; are_blanks = refl; whole = at.whole; token_whole = at.token_whole }, x), (proper, each))
has_more source rest t n blank at proper some (inr none) =
    inr (λ ts x. behind_none rest t n at blank.3 some none ts (skip source rest blank ts x))

no_more : (source rest : List ℕ) → IsBlankBefore source rest → 0 < length rest → ((t : Token) (r : List ℕ) → rest ≡ text_of t ++ r → IsWhole t r → ⊥) → HasTokens source
no_more source rest blank some none = inr (tokens_refused source rest [] (tokens_start source rest blank) some blank.3 none)

-- the tokens that begin with `rest`, which has so many bytes at most
tokens_from : (n : ℕ) (source rest : List ℕ) → IsBlankBefore source rest → IsUtf8 rest → length rest ≤ n → HasTokens source
tokens_from n source [] blank u short = inl ([], unskip source [] blank [] refl, tt)
tokens_from zero source (c ∷ cs) blank u short = absurd (omega arith)
tokens_from (suc n) source (c ∷ cs) blank u short =
    elim (token_here c cs u) [
      | inl (t, k, at, proper) ↦
          let tail = drop k (c ∷ cs) in
          let tail_utf8 : IsUtf8 (drop k (c ∷ cs)) = IsUtf8-drop (c ∷ cs) k u at.boundary in
          let shorter : length (drop (run_len is_blank tail) tail) ≤ n = omega (arith, short, at.some, at.within, length-drop k (c ∷ cs), length-drop (run_len is_blank tail) tail) in
          has_more source (c ∷ cs) t k blank at proper (omega arith) (tokens_from n tail (drop (run_len is_blank tail) tail) (blanks_before tail) (blanks_utf8 tail tail_utf8) shorter)
      | inr none ↦ no_more source (c ∷ cs) blank (omega arith) none
    ]

-- A source that is UTF-8 has tokens or has none.
pub has_tokens : (source : List ℕ) → IsUtf8 source → HasTokens source
has_tokens source u =
    let rest = drop (run_len is_blank source) source in
    tokens_from (length rest) source rest (blanks_before source) (blanks_utf8 source u) (omega arith)
