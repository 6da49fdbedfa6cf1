-- What a word is to `clap`, in terms of the option `--width` and of dashes.
use Rattle.std.proofs.Common.{◌≡◌, ◌∙◌, ◌+◌, ◌||◌, ◌==◌, ℕ, Bool, cond, suc, true, false, not, refl, sym, ap, subst, [], ◌∷◌, ◌++◌, take, drop, Option, Some, None, true≢false, codes, arith}
use Rattle.std.specs.Prelude.{nat_eq}
use Rattle.std.specs.List.{prefix_len}
use Rattle.std.specs.Str.{bytes_eq}
use Rattle.std.proofs.lemmas.Slice.Eq.{bytes_eq-Decides}
use Rattle.clap.specs.Lexer.{has_byte, long_of, name_and_value, short_of}
use Rattle.command_words.specs.Commands.{Word, is_option}
use Rattle.command_words.specs.Faults.{is_dashes, is_short}

pub data WordKind (word : Word) : Type 0 where
  dashes_word : word ≡ codes "--" → WordKind word
  width_word : word ≡ codes "--width" → WordKind word
  equals_word : (text : Word) → word ≡ codes "--width=" ++ text → WordKind word
  other_word : (name : Word) (value : Option Word) → is_dashes word ≡ false → long_of word ≡ Some (name, value) → bytes_eq (codes "width") name ≡ false
      → WordKind word
  short_word : is_short word ≡ true → WordKind word
  plain_word : is_option word ≡ false → WordKind word

-- a number is 45, or its test fails
by_test : {P : Type 0} (x k : ℕ) → (x ≡ k → P) → (nat_eq x k ≡ false → nat_eq k x ≡ false → P) → P
by_test {P = P} x k met unmet = go (nat_eq x k) (nat_eq k x) refl refl
  where
    go : (b c : Bool) → nat_eq x k ≡ b → nat_eq k x ≡ c → P
    go true _ e f = met (grind arith)
    go false true e f = met (grind arith)
    go false false e f = unmet e f

abbrev tail_of : Bool → Word → Word
tail_of true rest = 61 ∷ rest
tail_of false rest = []

abbrev until : Word → ℕ
until text = prefix_len (λ x. not (x == 61)) text

cut_at : (text : Word) → text ≡ take (until text) text ++ tail_of (has_byte 61 text) (drop (until text + 1) text)
cut_at [] = refl
cut_at (x ∷ xs) = go (x == 61) refl (cut_at xs)
  where
    more : 1 + until xs ≡ suc (until xs)
    more = omega arith

    go : (b : Bool) → (x == 61) ≡ b → xs ≡ take (until xs) xs ++ tail_of (has_byte 61 xs) (drop (until xs + 1) xs)
        → x ∷ xs ≡ take (cond (not b) (1 + until xs) 0) (x ∷ xs) ++ tail_of (b || has_byte 61 xs) (drop (cond (not b) (1 + until xs) 0 + 1) (x ∷ xs))
    go true is rest = let same : x ≡ 61 = grind arith in ap (λ y. y ∷ xs) same
    go false is rest =
        let next : 1 + until xs + 1 ≡ suc (until xs + 1) = omega arith in
        rw (next, more) (ap (λ ys. x ∷ ys) rest)

long_kind : (x : ℕ) (xs : Word) → WordKind (45 ∷ 45 ∷ x ∷ xs)
long_kind x xs = go (bytes_eq (codes "width") (name_and_value (x ∷ xs)).0) refl
  where
    named : (b : Bool) (rest : Word) → (x ∷ xs) ≡ codes "width" ++ tail_of b rest → WordKind (45 ∷ 45 ∷ x ∷ xs)
    named true rest is = equals_word rest (ap (λ ys. 45 ∷ 45 ∷ ys) is)
    named false rest is = width_word (ap (λ ys. 45 ∷ 45 ∷ ys) is)

    go : (b : Bool) → bytes_eq (codes "width") (name_and_value (x ∷ xs)).0 ≡ b → WordKind (45 ∷ 45 ∷ x ∷ xs)
    go true is = named (has_byte 61 (x ∷ xs)) (drop (until (x ∷ xs) + 1) (x ∷ xs))
        (cut_at (x ∷ xs) ∙ ap (λ name. name ++ tail_of (has_byte 61 (x ∷ xs)) (drop (until (x ∷ xs) + 1) (x ∷ xs))) (sym ((bytes_eq-Decides (codes "width") _).0 is)))
    go false is = other_word (name_and_value (x ∷ xs)).0 (name_and_value (x ∷ xs)).1 refl refl is

dashed_kind : (rest : Word) → WordKind (45 ∷ rest)
dashed_kind [] = short_word refl
dashed_kind (x ∷ xs) = by_test x 45 (λ is. subst (λ y. WordKind (45 ∷ y ∷ xs)) (sym is) (two xs)) (λ _ off. short_word (rw off refl))
  where
    two : (ys : Word) → WordKind (45 ∷ 45 ∷ ys)
    two [] = dashes_word refl
    two (y ∷ ys) = long_kind y ys

pub kind_of_word : (word : Word) → WordKind word
kind_of_word [] = plain_word refl
kind_of_word (x ∷ xs) = by_test x 45 (λ is. subst (λ y. WordKind (y ∷ xs)) (sym is) (dashed_kind xs)) (λ _ off. plain_word (rw off refl))

pub record IsPlain (word : Word) : Type 0 where
  pub no_dashes : bytes_eq word (45 ∷ 45 ∷ []) ≡ false
  pub no_long : long_of word ≡ None
  pub no_short : short_of word ≡ None
  pub not_short : is_short word ≡ false

pub plain_word_is : (word : Word) → is_option word ≡ false → IsPlain word
plain_word_is [] none = record { no_dashes = refl; no_long = refl; no_short = refl; not_short = refl }
plain_word_is (x ∷ xs) none = by_test x 45
    (λ is. absurd (true≢false (sym (ap (λ y. is_option (y ∷ xs)) is) ∙ none)))
    (λ off on. record { no_dashes = rw off refl; no_long = rw off refl; no_short = rw off refl; not_short = rw on refl })
