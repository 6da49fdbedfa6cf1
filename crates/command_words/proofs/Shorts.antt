-- A split has no word with one dash alone before its first `--`.
use Rattle.std.proofs.Common.{◌≡◌, ◌∙◌, ◌+◌, ◌||◌, ◌⊎◌, inl, inr, suc, arith, lt-ltb, le-ltb, Bool, cond, true, false, not, refl, sym, ap, subst, List, [], ◌∷◌, ◌++◌, append-nil, Option, Some, None, codes}
use Rattle.std.specs.Prelude.{is_some, length, map, nat_lt, string_bytes, String}
use Rattle.std.specs.List.{AllByRecursion, list_any, position, position_or_len, prefix_len, take_while}
use Rattle.std.specs.declared.alloc.Global.{Global}
use Rattle.std.proofs.lemmas.Bool.{cases_lt}
use Rattle.std.proofs.lemmas.List.{length-map}
use Rattle.std.proofs.lemmas.List.Sums.{take_while-cons}
use Rattle.command_words.specs.Commands.{HasNoOption, HasOptions, IsSplit, IsWidthOption, Word}
use Rattle.command_words.specs.Faults.{before_dashes, has_short, is_dashes, is_short, short_place}
use Rattle.command_words.proofs.WordKinds.{plain_word_is}
use Rattle.command_words.proofs.Walks.{each_first}

abbrev AreLong : List Word → Type 0
AreLong = AllByRecursion (λ word. is_short word ≡ false)

long_words : (words : List Word) → HasNoOption words → AreLong words
long_words [] all = tt
long_words (word ∷ words) all = ((plain_word_is word all.0).not_short, long_words words all.1)

long_append : (xs ys : List Word) → AreLong xs → AreLong ys → AreLong (xs ++ ys)
long_append [] ys a b = b
long_append (x ∷ xs) ys a b = (a.0, long_append xs ys a.1 b)

long_option : (opt : List Word) (text : Word) → IsWidthOption opt text → AreLong opt
long_option opt text (inl two) = subst AreLong (sym two.0) (refl, ((plain_word_is text two.1).not_short, tt))
long_option opt text (inr one) = subst AreLong (sym one) (refl, tt)

long_before : (before left : List Word) (given : Option Word) → HasOptions before left given → AreLong before
long_before before left None h = long_words before h.0
long_before before left (Some text) h =
    let none = each_first h.first h.rest (subst HasNoOption h.left h.no_other) in
    subst AreLong (sym h.place)
    (long_append h.first (h.option ++ h.rest) (long_words h.first none.0)
    (long_append h.option h.rest (long_option h.option text h.is_width) (long_words h.rest none.1)))

none_short : (words rest : List Word) → AreLong words → has_short rest ≡ false → has_short (words ++ rest) ≡ false
none_short [] rest all none = none
none_short (word ∷ words) rest all none =
    ap (list_any is_short) (take_while-cons (λ (x : Word). not (is_dashes x)) word (words ++ rest))
    ∙ go (not (is_dashes word)) (none_short words rest all.1 none)
  where
    go : (b : Bool) → has_short (words ++ rest) ≡ false
        → list_any is_short (cond b (word ∷ take_while (λ (x : Word). not (is_dashes x)) (words ++ rest)) []) ≡ false
    go true h = ap (λ b. b || has_short (words ++ rest)) all.0 ∙ h
    go false h = refl

pub split_long : (words : List Word) (given : Option Word) (plain : List Word) → IsSplit words given plain → has_short words ≡ false
split_long words given plain s = go (s.cut).1
  where
    all : AreLong s.before
    all = long_before s.before s.left given s.options

    go : ((words ≡ s.before) × (s.behind ≡ [])) ⊎ (words ≡ s.before ++ codes "--" ∷ s.behind) → has_short words ≡ false
    go (inl (same, _)) = ap has_short (same ∙ sym (append-nil s.before)) ∙ none_short s.before [] all refl
    go (inr same) = ap has_short same ∙ none_short s.before (codes "--" ∷ s.behind) all refl

any_place : {X : Type 0} (p : X → Bool) (xs : List X) → list_any p xs ≡ is_some (position p xs)
any_place p [] = refl
any_place p (x ∷ xs) = go (p x) (any_place p xs)
  where
    more : 1 + position_or_len p xs ≡ suc (position_or_len p xs)
    more = omega arith

    start : nat_lt 0 (suc (length xs)) ≡ true
    start = lt-ltb 0 (suc (length xs)) (omega arith)

    go : (b : Bool) → list_any p xs ≡ is_some (position p xs)
        → (b || list_any p xs) ≡ is_some (cond (nat_lt (cond (not b) (1 + position_or_len p xs) 0) (suc (length xs))) (Some (cond (not b) (1 + position_or_len p xs) 0)) None)
    go true h = rw start refl
    go false h = elim (cases_lt (position_or_len p xs) (length xs)) [
      | inl inside ↦
          let there : nat_lt (1 + position_or_len p xs) (suc (length xs)) ≡ true = lt-ltb (1 + position_or_len p xs) (suc (length xs)) (omega arith) in
          rw there (rw (lt-ltb (position_or_len p xs) (length xs) inside) at h)
      | inr past ↦
          let there : nat_lt (1 + position_or_len p xs) (suc (length xs)) ≡ false = le-ltb (1 + position_or_len p xs) (suc (length xs)) (omega arith) in
          rw there (rw (le-ltb (position_or_len p xs) (length xs) past) at h)
    ]

-- the same of the words as strings
abbrev strings_before : List (String Global) → List (String Global)
strings_before words = take_while (λ word. not (is_dashes (string_bytes word))) words

taken : (words : List (String Global)) → before_dashes (map string_bytes words) ≡ map string_bytes (strings_before words)
taken [] = refl
taken (word ∷ words) =
    take_while-cons (λ (x : Word). not (is_dashes x)) (string_bytes word) (map string_bytes words)
    ∙ go (not (is_dashes (string_bytes word))) (taken words)
    ∙ sym (ap (map string_bytes) (take_while-cons (λ (x : String Global). not (is_dashes (string_bytes x))) word words))
  where
    go : (b : Bool) → before_dashes (map string_bytes words) ≡ map string_bytes (strings_before words)
        → cond b (string_bytes word ∷ before_dashes (map string_bytes words)) [] ≡ map string_bytes (cond b (word ∷ strings_before words) [])
    go true h = ap (λ (ws : List Word). string_bytes word ∷ ws) h
    go false h = refl

prefix_of : (p : Word → Bool) (words : List (String Global)) → prefix_len p (map string_bytes words) ≡ prefix_len (λ word. p (string_bytes word)) words
prefix_of p [] = refl
prefix_of p (word ∷ words) = ap (λ n. cond (p (string_bytes word)) (1 + n) 0) (prefix_of p words)

place_of : (words : List (String Global)) → position is_short (map string_bytes words) ≡ position (λ word. is_short (string_bytes word)) words
place_of words = rw (prefix_of (λ (w : Word). not (is_short w)) words, length-map words string_bytes) refl

pub short_place_is : (words : List (String Global)) → short_place (map string_bytes words) ≡ position (λ word. is_short (string_bytes word)) (strings_before words)
short_place_is words = ap (position is_short) (taken words) ∙ place_of (strings_before words)

pub short_is_some : (words : List Word) → has_short words ≡ is_some (short_place words)
short_is_some words = any_place is_short (before_dashes words)
