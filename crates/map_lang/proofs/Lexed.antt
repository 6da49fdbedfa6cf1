-- Sources are cut into tokens in one way.
use Rattle.std.specs.Prelude.{◌≡◌, ℕ, zero, suc, ◌+◌, ◌-◌, ◌≤◌, ◌<◌, ◌^◌, ◌%◌, List, [], ◌∷◌, ◌++◌, length, take, drop, Bool, true, false, cond, ◌&&◌, ◌||◌, refl, ℤ, pos, negsuc, FitsSigned, decimal, ◌⊎◌, IsUtf8}
use Rattle.std.proofs.Common.{◌∙◌, sym, ap, subst, inl, inr, arith, append_assoc, get_or, eqb, add-one}
use Rattle.std.proofs.lemmas.Bool.{false≢true}
use Rattle.std.proofs.lemmas.Bool.Decides.{nat_tests}
use Rattle.std.specs.Int.{w64}
use Rattle.std.specs.Str.{IsCharBoundary}
use Rattle.std.specs.Fmt.{signed_decimal}
use Rattle.std.proofs.lemmas.Fmt.{decimal_by_steps, decimal_injective}
use Rattle.std.proofs.lemmas.Int.{ints}
use Rattle.std.proofs.lemmas.List.{take-append-drop, append-nil}
use Rattle.std.proofs.lemmas.Str.{IsCharBoundary-start, IsCharBoundary-after_ascii}
use Rattle.map_lang.specs.declared.token.Token.{Token}
use Rattle.map_lang.specs.declared.token.Token.TheVariants.{Word, Integer, Text, Mark}
use Rattle.map_lang.specs.declared.token.Mark as marks
use Rattle.map_lang.specs.declared.token.Mark.TheVariants.{Comma, Equals, Dot, OpenBrace, CloseBrace, OpenBracket, CloseBracket}
use Rattle.map_lang.specs.Tokens.{AreTokens, Begins, IsWhole, text_of, mark_text, all_pass, first_passes, is_blank, is_letter, is_digit, is_in_word, is_in_text}
use Rattle.map_lang.specs.Lexing.{IsTokenAt, IsBlankBefore, IsDigitRun, IsSignedRun}

pub either : (b : Bool) → (b ≡ true) ⊎ (b ≡ false)
either true = inl refl
either false = inr refl

pub and_parts : (a b : Bool) → a && b ≡ true → (a ≡ true) × (b ≡ true)
and_parts true b h = (refl, h)
and_parts false b h = absurd (false≢true h)

pub or_left : (a b : Bool) → a ≡ true → a || b ≡ true
or_left true b h = refl
or_left false b h = absurd (false≢true h)

-- A longest front of one kind is the only one.
pub span_unique : (p : ℕ → Bool) (xs ys r q : List ℕ) → xs ++ r ≡ ys ++ q → all_pass p xs ≡ true → all_pass p ys ≡ true → first_passes p r ≡ false → first_passes p q ≡ false → (xs ≡ ys) × (r ≡ q)
span_unique p [] [] r q e hx hy er eq = (refl, e)
span_unique p [] (y ∷ ys) r q e hx hy er eq =
    let first : first_passes p r ≡ p y = ap (first_passes p) e in
    absurd (false≢true (sym er ∙ first ∙ (and_parts (p y) (all_pass p ys) hy).0))
span_unique p (x ∷ xs) [] r q e hx hy er eq =
    let first : p x ≡ first_passes p q = ap (first_passes p) e in
    absurd (false≢true (sym eq ∙ sym first ∙ (and_parts (p x) (all_pass p xs) hx).0))
span_unique p (x ∷ xs) (y ∷ ys) r q e hx hy er eq =
    let heads : x ≡ y = cc in
    let tails : xs ++ r ≡ ys ++ q = cc in
    let rest = span_unique p xs ys r q tails (and_parts (p x) (all_pass p xs) hx).1 (and_parts (p y) (all_pass p ys) hy).1 er eq in
    let same = rest.0 in
    (cc, rest.1)

pub pass_at : (p : ℕ → Bool) (bs : List ℕ) (n k : ℕ) → all_pass p (take n bs) ≡ true → k < n → k < length bs → p (get_or bs k 0) ≡ true
pass_at p [] n k h below within = absurd (omega arith)
pass_at p (b ∷ bs) zero k h below within = absurd (omega arith)
pass_at p (b ∷ bs) (suc n) zero h below within = (and_parts (p b) (all_pass p (take n bs)) h).0
pass_at p (b ∷ bs) (suc n) (suc k) h below within = pass_at p bs n k (and_parts (p b) (all_pass p (take n bs)) h).1 (omega arith) (omega arith)

pub boundary_after : (p : ℕ → Bool) → ((c : ℕ) → p c ≡ true → c < 128) → (bs : List ℕ) (n : ℕ) → IsUtf8 bs → n ≤ length bs → all_pass p (take n bs) ≡ true → IsCharBoundary bs n
boundary_after p ascii bs zero u within h = IsCharBoundary-start bs u
boundary_after p ascii bs (suc k) u within h =
    rw (← add-one) (IsCharBoundary-after_ascii bs k u (omega arith) (ascii (get_or bs k 0) (pass_at p bs (suc k) k h (omega arith) (omega arith))))

pub blank_ascii : (c : ℕ) → is_blank c ≡ true → c < 128
blank_ascii c h = grind (arith, nat_tests)

pub digit_ascii : (c : ℕ) → is_digit c ≡ true → c < 128
digit_ascii c h = grind (arith, nat_tests)

pub word_ascii : (c : ℕ) → is_in_word c ≡ true → c < 128
word_ascii c h = grind (arith, nat_tests)

-- Numbers.

all_pass-append : (p : ℕ → Bool) (xs ys : List ℕ) → all_pass p xs ≡ true → all_pass p ys ≡ true → all_pass p (xs ++ ys) ≡ true
all_pass-append p [] ys hx hy = hy
all_pass-append p (x ∷ xs) ys hx hy =
    let parts = and_parts (p x) (all_pass p xs) hx in
    let first = parts.0 in
    let rest = all_pass-append p xs ys parts.1 hy in
    rw first rest

digit_passes : (n : ℕ) → n < 10 → is_digit (48 + n) ≡ true
digit_passes n h = grind (arith, nat_tests)

abbrev IsDigits : List ℕ → Type 0
IsDigits ds = (all_pass is_digit ds ≡ true) × (first_passes is_digit ds ≡ true)

digits_more : (ds : List ℕ) (d : ℕ) → IsDigits ds → is_digit d ≡ true → IsDigits (ds ++ d ∷ [])
digits_more [] d h e = absurd (false≢true h.1)
digits_more (x ∷ xs) d h e = (all_pass-append is_digit (x ∷ xs) (d ∷ []) h.0 (rw e refl), h.1)

decimal_digits : (n : ℕ) → n < 2 ^ 64 → (all_pass is_digit (decimal n) ≡ true) × (first_passes is_digit (decimal n) ≡ true)
decimal_digits n h =
    decimal_by_steps (λ n ds. IsDigits ds) (λ n small. let e = digit_passes n small in (rw e refl, e)) (λ n ds large all. digits_more ds (48 + n % 10) all (digit_passes (n % 10) (omega arith))) n h

first_append : (p : ℕ → Bool) (xs ys : List ℕ) → first_passes p xs ≡ true → first_passes p (xs ++ ys) ≡ true
first_append p [] ys h = absurd (false≢true h)
first_append p (x ∷ xs) ys h = h

first_at : (p : ℕ → Bool) (bs : List ℕ) → first_passes p bs ≡ true → p (get_or bs 0 0) ≡ true
first_at p [] h = absurd (false≢true h)
first_at p (b ∷ bs) h = h

fits_pos : (n : ℕ) → FitsSigned w64 (pos n) → n < 2 ^ 64
fits_pos n h = omega (arith, ints)

fits_neg : (n : ℕ) → FitsSigned w64 (negsuc n) → suc n < 2 ^ 64
fits_neg n h = omega (arith, ints)

no_sign : (n : ℕ) (r : List ℕ) → n < 2 ^ 64 → get_or (decimal n ++ r) 0 0 ≡ 45 → ⊥
no_sign n r small h =
    let digit : is_digit (get_or (decimal n ++ r) 0 0) ≡ true = first_at is_digit (decimal n ++ r) (first_append is_digit (decimal n) r (decimal_digits n small).1) in
    let wrong : false ≡ true = ap is_digit (sym h) ∙ digit in
    false≢true wrong

integer_unique : (y z : ℤ) (r q : List ℕ) → signed_decimal y ++ r ≡ signed_decimal z ++ q → FitsSigned w64 y → FitsSigned w64 z → first_passes is_digit r ≡ false → first_passes is_digit q ≡ false → (y ≡ z) × (r ≡ q)
integer_unique (pos m) (pos n) r q e fy fz er eq =
    let same = span_unique is_digit (decimal m) (decimal n) r q e (decimal_digits m (fits_pos m fy)).0 (decimal_digits n (fits_pos n fz)).0 er eq in
    (ap pos (decimal_injective m n (fits_pos m fy) (fits_pos n fz) same.0), same.1)
integer_unique (pos m) (negsuc n) r q e fy fz er eq = absurd (no_sign m r (fits_pos m fy) (ap (λ bs. get_or bs 0 0) e))
integer_unique (negsuc m) (pos n) r q e fy fz er eq = absurd (no_sign n q (fits_pos n fz) (ap (λ bs. get_or bs 0 0) (sym e)))
integer_unique (negsuc m) (negsuc n) r q e fy fz er eq =
    let tails : decimal (suc m) ++ r ≡ decimal (suc n) ++ q = cc in
    let same = span_unique is_digit (decimal (suc m)) (decimal (suc n)) r q tails (decimal_digits (suc m) (fits_neg m fy)).0 (decimal_digits (suc n) (fits_neg n fz)).0 er eq in
    let numbers : suc m ≡ suc n = decimal_injective (suc m) (suc n) (fits_neg m fy) (fits_neg n fz) same.0 in
    let below : m ≡ n = omega arith in
    (ap negsuc below, same.1)

-- What stands first tells the kind of token, and a blank begins none.

abbrev pub lead : ℕ → ℕ
lead c = cond (is_letter c) 1 (cond (eqb c 45 || is_digit c) 2 (cond (eqb c 39) 3 (cond (is_blank c) 4 0)))

abbrev pub kind : Token → ℕ
kind (Word w) = 1
kind (Integer n) = 2
kind (Text t) = 3
kind (Mark m) = 0

letter_lead : (c : ℕ) → is_letter c ≡ true → lead c ≡ 1
letter_lead c h = rw h refl

pub digit_lead : (c : ℕ) → is_digit c ≡ true → lead c ≡ 2
digit_lead c h = grind (arith, nat_tests)

pub blank_lead : (c : ℕ) → is_blank c ≡ true → lead c ≡ 4
blank_lead c h = grind (arith, nat_tests)

pub lead_of : (t : Token) (r : List ℕ) → IsWhole t r → lead (get_or (text_of t ++ r) 0 0) ≡ kind t
lead_of (Word w) r h = letter_lead (get_or (w ++ r) 0 0) (first_at is_letter (w ++ r) (first_append is_letter w r h.0))
lead_of (Integer (pos n)) r h = digit_lead (get_or (decimal n ++ r) 0 0) (first_at is_digit (decimal n ++ r) (first_append is_digit (decimal n) r (decimal_digits n (fits_pos n h.0)).1))
lead_of (Integer (negsuc n)) r h = refl
lead_of (Text t) r h = refl
lead_of (Mark Comma) r h = refl
lead_of (Mark Equals) r h = refl
lead_of (Mark Dot) r h = refl
lead_of (Mark OpenBrace) r h = refl
lead_of (Mark CloseBrace) r h = refl
lead_of (Mark OpenBracket) r h = refl
lead_of (Mark CloseBracket) r h = refl

not_blank_at : (bs : List ℕ) → (lead (get_or bs 0 0) ≡ 4 → ⊥) → first_passes is_blank bs ≡ false
not_blank_at [] h = refl
not_blank_at (c ∷ cs) h = elim (either (is_blank c)) [ inl blank ↦ absurd (h (blank_lead c blank)) | inr other ↦ other ]

kind_not_blank : (t : Token) → kind t ≡ 4 → ⊥
kind_not_blank (Word w) h = omega arith
kind_not_blank (Integer n) h = omega arith
kind_not_blank (Text t) h = omega arith
kind_not_blank (Mark m) h = omega arith

pub not_blank : (t : Token) (r : List ℕ) → IsWhole t r → first_passes is_blank (text_of t ++ r) ≡ false
not_blank t r h = not_blank_at (text_of t ++ r) (λ e. kind_not_blank t (sym (lead_of t r h) ∙ e))

marks_unique : (m n : marks.Mark) (r q : List ℕ) → mark_text m ++ r ≡ mark_text n ++ q → (Mark m ≡ Mark n) × (r ≡ q)
marks_unique Comma Comma r q e = (refl, cc)
marks_unique Equals Equals r q e = (refl, cc)
marks_unique Dot Dot r q e = (refl, cc)
marks_unique OpenBrace OpenBrace r q e = (refl, cc)
marks_unique CloseBrace CloseBrace r q e = (refl, cc)
marks_unique OpenBracket OpenBracket r q e = (refl, cc)
marks_unique CloseBracket CloseBracket r q e = (refl, cc)
marks_unique m n r q e = let f : get_or (mark_text m ++ r) 0 0 ≡ get_or (mark_text n ++ q) 0 0 = ap (λ bs. get_or bs 0 0) e in absurd (omega arith)

pub text_behind : (t r : List ℕ) → text_of (Text t) ++ r ≡ 39 ∷ (t ++ 39 ∷ r)
text_behind t r = ap (λ bs. 39 ∷ bs) (append_assoc t (39 ∷ []) r)

texts_unique : (t u r q : List ℕ) → text_of (Text t) ++ r ≡ text_of (Text u) ++ q → all_pass is_in_text t ≡ true → all_pass is_in_text u ≡ true → (Text t ≡ Text u) × (r ≡ q)
texts_unique t u r q e ht hu =
    let tails : t ++ 39 ∷ r ≡ u ++ 39 ∷ q = ap (drop 1) (sym (text_behind t r) ∙ e ∙ text_behind u q) in
    let same = span_unique is_in_text t u (39 ∷ r) (39 ∷ q) tails ht hu refl refl in
    (ap Text same.0, ap (drop 1) same.1)

other_kind : (t u : Token) (r q : List ℕ) → text_of t ++ r ≡ text_of u ++ q → IsWhole t r → IsWhole u q → kind t ≡ kind u
other_kind t u r q e ht hu = sym (lead_of t r ht) ∙ ap (λ bs. lead (get_or bs 0 0)) e ∙ lead_of u q hu

tokens_unique : (t u : Token) (r q : List ℕ) → text_of t ++ r ≡ text_of u ++ q → IsWhole t r → IsWhole u q → (t ≡ u) × (r ≡ q)
tokens_unique (Word w) (Word v) r q e ht hu =
    let same = span_unique is_in_word w v r q e ht.1 hu.1 ht.2 hu.2 in
    (ap Word same.0, same.1)
tokens_unique (Integer y) (Integer z) r q e ht hu =
    let same = integer_unique y z r q e ht.0 hu.0 ht.1 hu.1 in
    (ap Integer same.0, same.1)
tokens_unique (Text t) (Text u) r q e ht hu = texts_unique t u r q e ht hu
tokens_unique (Mark m) (Mark n) r q e ht hu = marks_unique m n r q e
tokens_unique t u r q e ht hu = let k : kind t ≡ kind u = other_kind t u r q e ht hu in absurd (omega arith)

pub begins_unique : (s : List ℕ) (t u : Token) (r q : List ℕ) → Begins s t r → Begins s u q → (t ≡ u) × (r ≡ q)
begins_unique s t u r q x y =
    let after = span_unique is_blank x.blanks y.blanks (text_of t ++ r) (text_of u ++ q) (sym x.whole ∙ y.whole) x.are_blanks y.are_blanks (not_blank t r x.token_whole) (not_blank u q y.token_whole) in
    tokens_unique t u r q after.1 x.token_whole y.token_whole

all_pass_behind : (p : ℕ → Bool) (xs ys : List ℕ) → all_pass p (xs ++ ys) ≡ true → all_pass p ys ≡ true
all_pass_behind p [] ys h = h
all_pass_behind p (x ∷ xs) ys h = all_pass_behind p xs ys (and_parts (p x) (all_pass p (xs ++ ys)) h).1

only_blanks : (bs : List ℕ) → all_pass is_blank bs ≡ true → first_passes is_blank bs ≡ false → bs ≡ []
only_blanks [] h e = refl
only_blanks (c ∷ cs) h e = absurd (false≢true (sym e ∙ (and_parts (is_blank c) (all_pass is_blank cs) h).0))

pub text_some : (t : Token) (r : List ℕ) → IsWhole t r → text_of t ++ r ≡ [] → ⊥
text_some (Word []) r h e = false≢true h.0
text_some (Word (c ∷ cs)) r h e = cc
text_some (Integer (pos n)) r h e = false≢true (ap (first_passes is_digit) (sym e) ∙ first_append is_digit (decimal n) r (decimal_digits n (fits_pos n h.0)).1)
text_some (Integer (negsuc n)) r h e = cc
text_some (Text t) r h e = cc
text_some (Mark Comma) r h e = cc
text_some (Mark Equals) r h e = cc
text_some (Mark Dot) r h e = cc
text_some (Mark OpenBrace) r h e = cc
text_some (Mark CloseBrace) r h e = cc
text_some (Mark OpenBracket) r h e = cc
text_some (Mark CloseBracket) r h e = cc

-- where a token begins there aren't blanks alone
blanks_no_token : (s : List ℕ) (t : Token) (r : List ℕ) → all_pass is_blank s ≡ true → Begins s t r → ⊥
blanks_no_token s t r h x =
    let behind : all_pass is_blank (text_of t ++ r) ≡ true = all_pass_behind is_blank x.blanks (text_of t ++ r) (ap (all_pass is_blank) (sym x.whole) ∙ h) in
    text_some t r x.token_whole (only_blanks (text_of t ++ r) behind (not_blank t r x.token_whole))

pub tokens_once : (s : List ℕ) (ts us : List Token) → AreTokens s ts → AreTokens s us → ts ≡ us
tokens_once s [] [] x y = refl
tokens_once s [] (u ∷ us) x y = absurd (blanks_no_token s u y.0 x y.1)
tokens_once s (t ∷ ts) [] x y = absurd (blanks_no_token s t x.0 y x.1)
tokens_once s (t ∷ ts) (u ∷ us) x y =
    let first = begins_unique s t u x.0 y.0 x.1 y.1 in
    let rest = tokens_once x.0 ts us x.2 (subst (λ r. AreTokens r us) (sym first.1) y.2) in
    let same = first.0 in
    cc

-- Blanks in front make no difference.

pub unskip : (s rest : List ℕ) → IsBlankBefore s rest → (ts : List Token) → AreTokens rest ts → AreTokens s ts
unskip s rest h [] x = ap (all_pass is_blank) h.2 ∙ all_pass-append is_blank h.0 rest h.1 x
unskip s rest h (t ∷ ts) x = (
  x.0,
  record {
    blanks = h.0 ++ x.1.blanks;
    are_blanks = all_pass-append is_blank h.0 x.1.blanks h.1 x.1.are_blanks;
    whole = h.2 ∙ ap (λ bs. h.0 ++ bs) x.1.whole ∙ sym (append_assoc h.0 x.1.blanks (text_of t ++ x.0));
    token_whole = x.1.token_whole;
  },
  x.2,
)

pub skip : (s rest : List ℕ) → IsBlankBefore s rest → (ts : List Token) → AreTokens s ts → AreTokens rest ts
skip s rest h [] x = all_pass_behind is_blank h.0 rest (ap (all_pass is_blank) (sym h.2) ∙ x)
skip s rest h (t ∷ ts) x =
    let after = span_unique is_blank h.0 x.1.blanks rest (text_of t ++ x.0) (sym h.2 ∙ x.1.whole) h.1 x.1.are_blanks h.3 (not_blank t x.0 x.1.token_whole) in
    (x.0, record { blanks = []; are_blanks = refl; whole = after.1; token_whole = x.1.token_whole }, x.2)

-- These tokens were read; the tokens of the source are these, more that stand here, and no others.
pub record TokensSoFar (source : List ℕ) (read : List Token) (rest : List ℕ) : Type 0 where
  pub grows : (more : List Token) → AreTokens rest more → AreTokens source (read ++ more)
  pub only : (all : List Token) → AreTokens source all → (more : List Token) × (all ≡ read ++ more) × AreTokens rest more

pub tokens_start : (source rest : List ℕ) → IsBlankBefore source rest → TokensSoFar source [] rest
tokens_start source rest h = record { grows = unskip source rest h; only = λ all x. (all, refl, skip source rest h all x) }

begins_here : (rest : List ℕ) (t : Token) (n : ℕ) → IsTokenAt rest t n → Begins rest t (drop n rest)
begins_here rest t n h = record { blanks = []; are_blanks = refl; whole = h.whole; token_whole = h.token_whole }

next_first : (rest new : List ℕ) (t : Token) (n : ℕ) → IsTokenAt rest t n → IsBlankBefore (drop n rest) new → (more : List Token) → AreTokens rest more → (us : List Token) × (more ≡ t ∷ us) × AreTokens new us
next_first rest new t n h b [] x = absurd (blanks_no_token rest t (drop n rest) x (begins_here rest t n h))
next_first rest new t n h b (u ∷ us) x =
    let same = begins_unique rest u t x.0 (drop n rest) x.1 (begins_here rest t n h) in
    (us, ap (λ v. v ∷ us) same.0, skip (drop n rest) new b us (subst (λ r. AreTokens r us) same.1 x.2))

next_only : (source rest new : List ℕ) (read : List Token) (t : Token) (n : ℕ) → TokensSoFar source read rest → IsTokenAt rest t n → IsBlankBefore (drop n rest) new → (all : List Token) → AreTokens source all → (more : List Token) × (all ≡ (read ++ t ∷ []) ++ more) × AreTokens new more
next_only source rest new read t n h found b all x =
    let m = h.only all x in
    let f = next_first rest new t n found b m.0 m.2 in
    (f.0, m.1 ∙ ap (λ ts. read ++ ts) f.1 ∙ sym (append_assoc read (t ∷ []) f.0), f.2)

next_grows : (source rest new : List ℕ) (read : List Token) (t : Token) (n : ℕ) → TokensSoFar source read rest → IsTokenAt rest t n → IsBlankBefore (drop n rest) new → (more : List Token) → AreTokens new more → AreTokens source ((read ++ t ∷ []) ++ more)
next_grows source rest new read t n h found b more x =
    subst (AreTokens source) (sym (append_assoc read (t ∷ []) more)) (h.grows (t ∷ more) (drop n rest, begins_here rest t n found, unskip (drop n rest) new b more x))

pub tokens_next : (source rest new : List ℕ) (read : List Token) (t : Token) (n : ℕ) → TokensSoFar source read rest → IsTokenAt rest t n → IsBlankBefore (drop n rest) new → TokensSoFar source (read ++ t ∷ []) new
tokens_next source rest new read t n h found b = record { grows = next_grows source rest new read t n h found b; only = next_only source rest new read t n h found b }

no_token_here : (rest : List ℕ) → 0 < length rest → first_passes is_blank rest ≡ false → ((t : Token) (r : List ℕ) → rest ≡ text_of t ++ r → IsWhole t r → ⊥) → (more : List Token) → AreTokens rest more → ⊥
no_token_here rest some b none [] x = let empty : length rest ≡ 0 = ap length (only_blanks rest x b) in omega arith
no_token_here rest some b none (t ∷ ts) x =
    let after = span_unique is_blank [] x.1.blanks rest (text_of t ++ x.0) x.1.whole refl x.1.are_blanks b (not_blank t x.0 x.1.token_whole) in
    none t x.0 after.1 x.1.token_whole

pub tokens_refused : (source rest : List ℕ) (read : List Token) → TokensSoFar source read rest → 0 < length rest → first_passes is_blank rest ≡ false → ((t : Token) (r : List ℕ) → rest ≡ text_of t ++ r → IsWhole t r → ⊥) → (all : List Token) → AreTokens source all → ⊥
tokens_refused source rest read h some b none all x = let m = h.only all x in no_token_here rest some b none m.0 m.2

pub tokens_end : (source rest : List ℕ) (read : List Token) → TokensSoFar source read rest → rest ≡ [] → AreTokens source read
tokens_end source rest read h e = subst (AreTokens source) (append-nil read) (h.grows [] (ap (all_pass is_blank) e))

-- Numbers that were read.

pub number_run : (bs : List ℕ) (n : ℕ) (z : ℤ) (rest : List ℕ) → bs ≡ signed_decimal z ++ rest → FitsSigned w64 z → first_passes is_digit rest ≡ false → (get_or bs 0 0 ≡ 45 → IsSignedRun bs n) → ((get_or bs 0 0 ≡ 45 → ⊥) → IsDigitRun bs n) → take n bs ≡ signed_decimal z
number_run bs n (pos m) rest e fits ends signed plain =
    let small = fits_pos m fits in
    let run = plain (λ h. no_sign m rest small (ap (λ b. get_or b 0 0) (sym e) ∙ h)) in
    (span_unique is_digit (take n bs) (decimal m) (drop n bs) rest (take-append-drop n bs ∙ e) run.0 (decimal_digits m small).0 run.1 ends).0
number_run bs zero (negsuc m) rest e fits ends signed plain = let run = signed (ap (λ b. get_or b 0 0) e) in absurd (omega (arith, run.0))
number_run bs (suc k) (negsuc m) rest e fits ends signed plain =
    let small = fits_neg m fits in
    let run = signed (ap (λ b. get_or b 0 0) e) in
    let same : suc k - 1 ≡ k = omega arith in
    let tail : drop 1 bs ≡ decimal (suc m) ++ rest = ap (drop 1) e in
    let digits = (span_unique is_digit (take (suc k - 1) (drop 1 bs)) (decimal (suc m)) (drop (suc k - 1) (drop 1 bs)) rest (take-append-drop (suc k - 1) (drop 1 bs) ∙ tail) run.1.0 (decimal_digits (suc m) small).0 run.1.1 ends).0 in
    ap (take (suc k)) e ∙ ap (λ ds. 45 ∷ ds) (ap (take k) (sym tail) ∙ ap (λ i. take i (drop 1 bs)) (sym same) ∙ digits)
