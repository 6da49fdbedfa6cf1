-- Texts: what is spelled is read, and what is read was spelled.
use Rattle.std.proofs.Common.{◌≡◌, ◌^◌, ◌<◌, ◌≤◌, ◌&&◌, ℕ, List, ◌++◌, length, take, drop, true, nat_le, Some, None, option_and_then, IsUtf8, ap, sym, ◌∙◌, subst, arith, length-append, append_assoc}
use Rattle.std.specs.Str.{is_utf8}
use Rattle.std.proofs.lemmas.Bool.{cond-true, and_from, and_parts, le-leb, leb-true}
use Rattle.std.proofs.lemmas.Option.{cond_some, option_and_then_some}
use Rattle.std.proofs.lemmas.Str.{IsUtf8-from_is_utf8, is_utf8-from_IsUtf8}
use Rattle.std.proofs.lemmas.List.{take-append-drop}
use Rattle.std.proofs.Math.Seq.{take-append_seam, drop-append_seam}
use Rattle.std.proofs.lemmas.List.{length-take-le}
use Rattle.term_codec.specs.Spelling.{count_bytes, text_bytes}
use Rattle.term_codec.specs.Reading.{count_in, text_of_length, text_in}
use Rattle.term_codec.proofs.Words.{count_in-spelled, count_in-read, cond_none}

text_of_length-spelled : (s rest : List ℕ) → IsUtf8 s → text_of_length (length s) (s ++ rest) ≡ Some (s, rest)
text_of_length-spelled s rest utf8 =
    let long : length s ≤ length (s ++ rest) = omega (arith, length-append s rest) in
    let front = take-append_seam s rest in
    let valid : is_utf8 (take (length s) (s ++ rest)) ≡ true = ap is_utf8 front ∙ is_utf8-from_IsUtf8 s utf8 in
    cond-true _ (Some (take (length s) (s ++ rest), drop (length s) (s ++ rest))) None (and_from _ _ (le-leb _ _ long) valid)
    ∙ (λ i. Some (front i, drop-append_seam s rest i))

pub text_in-spelled : (s rest : List ℕ) → IsUtf8 s → length s < 2 ^ 32 → text_in (text_bytes s ++ rest) ≡ Some (s, rest)
unfolding text_in
text_in-spelled s rest utf8 small =
    let whole : (count_bytes (length s) ++ s) ++ rest ≡ count_bytes (length s) ++ (s ++ rest) = append_assoc (count_bytes (length s)) s rest in
    ap (λ bs. option_and_then (λ r. text_of_length r.0 r.1) (count_in bs)) whole
    ∙ ap (option_and_then (λ (r : ℕ × List ℕ). text_of_length r.0 r.1)) (count_in-spelled (length s) (s ++ rest) small)
    ∙ text_of_length-spelled s rest utf8

-- what was read of a text
pub record IsText (bytes s rest : List ℕ) : Type 0 where
  pub utf8 : IsUtf8 s
  pub small : length s < 2 ^ 32
  pub is : bytes ≡ text_bytes s ++ rest

text_of_length-read : (n : ℕ) (bytes s rest : List ℕ) → n < 2 ^ 32 → text_of_length n bytes ≡ Some (s, rest) → IsText (count_bytes n ++ bytes) s rest
text_of_length-read n bytes s rest small h =
    let found = cond_some (nat_le n (length bytes) && is_utf8 (take n bytes)) (take n bytes, drop n bytes) (s, rest) h in
    let tests = and_parts _ _ found.0 in
    let front : take n bytes ≡ s = ap (λ r. r.0) found.1 in
    let behind : drop n bytes ≡ rest = ap (λ r. r.1) found.1 in
    let within = leb-true n (length bytes) tests.0 in
    let long : length s ≡ n = ap length (sym front) ∙ length-take-le n bytes within in
    let whole : s ++ rest ≡ bytes = (λ i. sym front i ++ sym behind i) ∙ take-append-drop n bytes in
    record {
      utf8 = IsUtf8-from_is_utf8 s (ap is_utf8 (sym front) ∙ tests.1);
      small = omega arith;
      is = (λ i. count_bytes (sym long i) ++ sym whole i) ∙ sym (append_assoc (count_bytes (length s)) s rest);
    }

pub text_in-read : (bytes s rest : List ℕ) → text_in bytes ≡ Some (s, rest) → IsText bytes s rest
unfolding text_in
text_in-read bytes s rest h =
    option_and_then_some (λ r. text_of_length r.0 r.1) (count_in bytes) (s, rest) h (λ r counted text.
    let count = count_in-read bytes r.0 r.1 counted in
    subst (λ bs. IsText bs s rest) (sym count.1) (text_of_length-read r.0 r.1 s rest count.0 text))

-- the answers of the call that reads a text
pub text_in-no_count : (bytes : List ℕ) → count_in bytes ≡ None → text_in bytes ≡ None
unfolding text_in
text_in-no_count bytes h = ap (option_and_then (λ (r : ℕ × List ℕ). text_of_length r.0 r.1)) h

pub text_in-count : (bytes : List ℕ) (n : ℕ) (rest : List ℕ) → count_in bytes ≡ Some (n, rest) → text_in bytes ≡ text_of_length n rest
unfolding text_in
text_in-count bytes n rest h = ap (option_and_then (λ (r : ℕ × List ℕ). text_of_length r.0 r.1)) h

pub text_of_length-short : (n : ℕ) (bytes : List ℕ) → length bytes < n → text_of_length n bytes ≡ None
text_of_length-short n bytes short =
    cond_none (nat_le n (length bytes) && is_utf8 (take n bytes)) (Some (take n bytes, drop n bytes)) (λ h.
    let within = leb-true n (length bytes) ((and_parts (nat_le n (length bytes)) (is_utf8 (take n bytes)) h).0) in
    omega arith)

pub text_of_length-bad : (n : ℕ) (bytes : List ℕ) → (IsUtf8 (take n bytes) → ⊥) → text_of_length n bytes ≡ None
text_of_length-bad n bytes bad =
    cond_none (nat_le n (length bytes) && is_utf8 (take n bytes)) (Some (take n bytes, drop n bytes)) (λ h.
    bad (IsUtf8-from_is_utf8 (take n bytes) ((and_parts (nat_le n (length bytes)) (is_utf8 (take n bytes)) h).1)))

pub text_of_length-good : (n : ℕ) (bytes : List ℕ) → n ≤ length bytes → IsUtf8 (take n bytes) → text_of_length n bytes ≡ Some (take n bytes, drop n bytes)
text_of_length-good n bytes within good = cond-true _ (Some (take n bytes, drop n bytes)) None (and_from _ _ (le-leb _ _ within) (is_utf8-from_IsUtf8 (take n bytes) good))
