-- No byte of a value's text is a newline.
use Rattle.std.proofs.Common.{◌≡◌, ◌≢◌, ◌==◌, ◌&&◌, ◌++◌, ◌/◌, ◌%◌, ◌+◌, ℕ, zero, suc, ℤ, pos, negsuc, List, [], ◌∷◌, Bool, true, false, not, cond, codes, decimal, nat_lt, refl, arith}
use Rattle.std.specs.Fmt.{digit_glyph, digits, digits_onto, signed_decimal}
use Rattle.std.specs.List.{All}
use Rattle.std.proofs.lemmas.Bool.{and_parts, eqb-false}
use Rattle.std.proofs.lemmas.List.Elements.{All-nil, All-cons, All-append}
use Rattle.builtin_reduces.specs.declared.sum.BuiltinSum.{BuiltinSum}
use Rattle.builtin_reduces.specs.declared.sum.BuiltinSum.TheVariants.{Count, Number, Numbers, Stats, Refused, Overflow}
use Rattle.builtin_reduces.specs.Text.{more_numbers, numbers_text, sum_text}

abbrev Other : ℕ → Type 0
Other byte = byte ≢ 10

abbrev IsLine : List ℕ → Type 0
IsLine text = All Other text

abbrev is_line : List ℕ → Bool
is_line [] = true
is_line (x ∷ xs) = not (x == 10) && is_line xs

is_other : (x : ℕ) (b : Bool) → (x == 10) ≡ b → not b ≡ true → Other x
is_other x true e h = cc
is_other x false e h = eqb-false x 10 e

-- bytes that are written out
line : (xs : List ℕ) → is_line xs ≡ true → IsLine xs
line [] e = All-nil Other
line (x ∷ xs) e = let p = and_parts _ _ e in All-cons Other x xs (is_other x (x == 10) refl p.0) (line xs p.1)

joined : (xs ys : List ℕ) → IsLine xs → IsLine ys → IsLine (xs ++ ys)
joined xs ys first second = All-append Other xs ys first second

-- ---- numbers of any size

chosen_glyph : (small upper : Bool) (d : ℕ) → Other (cond small (48 + d) (cond upper (55 + d) (87 + d)))
chosen_glyph true upper d = λ e. omega arith
chosen_glyph false true d = λ e. omega arith
chosen_glyph false false d = λ e. omega arith

chosen_line : (last : Bool) (one more : List ℕ) → IsLine one → IsLine more → IsLine (cond last one more)
chosen_line true one more lo lm = lo
chosen_line false one more lo lm = lm

line-digits_onto : (k base : ℕ) (upper : Bool) (n : ℕ) (after : List ℕ) → IsLine after → IsLine (digits_onto k base upper n after)
line-digits_onto zero base upper n after plain = plain
line-digits_onto (suc k) base upper n after plain =
    let glyph = digit_glyph upper (n % base) in
    let longer = All-cons Other glyph after (chosen_glyph (nat_lt (n % base) 10) upper (n % base)) plain in
    chosen_line (n / base == 0) (glyph ∷ after) (digits_onto k base upper (n / base) (glyph ∷ after)) longer (line-digits_onto k base upper (n / base) (glyph ∷ after) longer)

line-decimal : (n : ℕ) → IsLine (decimal n)
unfolding digits
line-decimal n = line-digits_onto 64 10 false n [] (All-nil Other)

line-signed : (n : ℤ) → IsLine (signed_decimal n)
line-signed (pos n) = line-decimal n
line-signed (negsuc n) = All-cons Other 45 (decimal (suc n)) (λ e. omega arith) (line-decimal (suc n))

-- ---- values

line-more : (ns : List ℤ) → IsLine (more_numbers ns)
line-more [] = All-nil Other
line-more (n ∷ ns) = joined (codes "," ++ signed_decimal n) (more_numbers ns) (joined (codes ",") (signed_decimal n) (line (codes ",") refl) (line-signed n)) (line-more ns)

line-numbers : (ns : List ℤ) → IsLine (numbers_text ns)
line-numbers [] = All-nil Other
line-numbers (n ∷ ns) = joined (signed_decimal n) (more_numbers ns) (line-signed n) (line-more ns)

-- a text, then bytes that are written out, then another text
then : (before name after : List ℕ) → IsLine before → is_line name ≡ true → IsLine after → IsLine (before ++ name ++ after)
then before name after first plain second = joined (before ++ name) after (joined before name first (line name plain)) second

pub line-sum_text : (sum : BuiltinSum) → All (λ byte. byte ≢ 10) (sum_text sum)
line-sum_text (Count n) = line-decimal n
line-sum_text (Number n) = line-signed n
line-sum_text (Numbers ns) =
    joined (codes "[" ++ numbers_text ns) (codes "]") (joined (codes "[") (numbers_text ns) (line (codes "[") refl) (line-numbers ns)) (line (codes "]") refl)
line-sum_text (Stats s) =
    let one = codes "{\"sum\":" ++ signed_decimal s.sum in
    let two = one ++ codes ",\"count\":" ++ decimal s.count in
    let three = two ++ codes ",\"min\":" ++ signed_decimal s.min in
    let four = three ++ codes ",\"max\":" ++ signed_decimal s.max in
    let five = four ++ codes ",\"sumsqr\":" ++ decimal s.sumsqr in
    let first = joined (codes "{\"sum\":") (signed_decimal s.sum) (line (codes "{\"sum\":") refl) (line-signed s.sum) in
    let second = then one (codes ",\"count\":") (decimal s.count) first refl (line-decimal s.count) in
    let third = then two (codes ",\"min\":") (signed_decimal s.min) second refl (line-signed s.min) in
    let fourth = then three (codes ",\"max\":") (signed_decimal s.max) third refl (line-signed s.max) in
    joined five (codes "}") (then four (codes ",\"sumsqr\":") (decimal s.sumsqr) fourth refl (line-decimal s.sumsqr)) (line (codes "}") refl)
line-sum_text Refused = line (sum_text Refused) refl
line-sum_text Overflow = line (sum_text Overflow) refl
