-- Languages that are named once.
use Rattle.std.specs.Prelude.{◌≡◌, ◌||◌, ◌&&◌, ◌↔◌, ℕ, List, [], ◌∷◌, Bool, true, false, not, Option, Some, None, IsTrue, bytes_eq, map, string_bytes, String}
use Rattle.std.proofs.Common.{refl, sym, ap, ◌∙◌, subst}
use Rattle.std.specs.List.{AllByRecursion, IsDistinct, cons_option, list_all, list_any}
use Rattle.std.specs.Map.{keys_of}
use Rattle.std.specs.declared.alloc.Global.{Global}
use Rattle.child_pool.specs.Languages.{language_in, languages_in}
use Rattle.couchview_cli.specs.Command.{IsApart, is_language, names}

named_step : (language : List ℕ) (found : Option (List ℕ × List ℕ)) (rest : List (List ℕ × List ℕ)) (some : Bool) → some ≡ list_any (bytes_eq language) (keys_of rest)
    → (names language found || some) ≡ list_any (bytes_eq language) (keys_of (cons_option found rest))
named_step language (Some (name, path)) rest some is = ap (λ (b : Bool). bytes_eq language name || b) is
named_step language None rest some is = is

-- a word names a language exactly where the language is among those that are named
named_among : (language : List ℕ) (words : List (String Global)) → list_any (λ word. names language (language_in (string_bytes word))) words ≡ list_any (bytes_eq language) (keys_of (languages_in (map string_bytes words)))
named_among language [] = refl
named_among language (word ∷ words) = named_step language (language_in (string_bytes word)) (languages_in (map string_bytes words)) _ (named_among language words)

none_or : (a b : Bool) → (a || b) ≡ false → (a ≡ false) × (b ≡ false)
none_or true b none = absurd (cc)
none_or false b none = (refl, none)

none_named : (language : List ℕ) (others : List (List ℕ)) → list_any (bytes_eq language) others ≡ false → AllByRecursion (λ other. bytes_eq language other ≡ false) others
none_named language [] none = tt
none_named language (other ∷ others) none =
    let both = none_or (bytes_eq language other) (list_any (bytes_eq language) others) none in (both.0, none_named language others both.1)

none_named_back : (language : List ℕ) (others : List (List ℕ)) → AllByRecursion (λ other. bytes_eq language other ≡ false) others → list_any (bytes_eq language) others ≡ false
none_named_back language [] none = refl
none_named_back language (other ∷ others) none = rw none.0 (none_named_back language others none.1)

-- no language is named twice in more words exactly where the first is named by none of the others
apart_more : (found : Option (List ℕ × List ℕ)) (rest : List (List ℕ × List ℕ)) → (IsApart found (keys_of rest) × IsDistinct bytes_eq (keys_of rest)) ↔ IsDistinct bytes_eq (keys_of (cons_option found rest))
unfolding IsDistinct
apart_more (Some (name, path)) rest = (λ both. both, λ both. both)
apart_more None rest = (λ both. both.1, λ apart. (tt, apart))

all_and : (a b : Bool) → (a && b) ≡ true → (a ≡ true) × (b ≡ true)
all_and true b all = (refl, all)
all_and false b all = absurd (cc)

pub each_language : (words : List (String Global)) → list_all (λ word. is_language (string_bytes word)) words ≡ true → AllByRecursion (λ word. is_language word ≡ true) (map string_bytes words)
each_language [] all = tt
each_language (word ∷ words) all =
    let both = all_and (is_language (string_bytes word)) (list_all (λ w. is_language (string_bytes w)) words) all in (both.0, each_language words both.1)

pub each_language_back : (words : List (String Global)) → AllByRecursion (λ word. is_language word ≡ true) (map string_bytes words) → list_all (λ word. is_language (string_bytes word)) words ≡ true
each_language_back [] all = refl
each_language_back (word ∷ words) all = rw all.0 (each_language_back words all.1)

not_again : (a : Bool) → (IsTrue (not a) → a ≡ false) × (a ≡ false → IsTrue (not a))
not_again true = (λ told. absurd (let e : false ≡ true = told in cc), λ is. absurd (cc))
not_again false = (λ told. refl, λ is. refl)

-- the language of a word is named by none of the others
pub apart_named : (found : Option (List ℕ × List ℕ)) (language path : List ℕ) (others : List (String Global)) (again : Bool) → Some (language, path) ≡ found
    → again ≡ list_any (λ word. names language (language_in (string_bytes word))) others → IsTrue (not again) ↔ IsApart found (keys_of (languages_in (map string_bytes others)))
apart_named found language path others again same is =
    let among : again ≡ list_any (bytes_eq language) (keys_of (languages_in (map string_bytes others))) = is ∙ named_among language others in
    let keys = keys_of (languages_in (map string_bytes others)) in
    subst (λ (f : Option (List ℕ × List ℕ)). IsTrue (not again) ↔ IsApart f keys) same
    (λ told. none_named language keys (sym among ∙ (not_again again).0 told), λ none. (not_again again).1 (among ∙ none_named_back language keys none))

module _ (words : List (String Global)) (first : String Global) (others : List (String Global)) (same : words ≡ first ∷ others) (text : List ℕ) (is : text ≡ string_bytes first) where
  whole : (IsApart (language_in text) (keys_of (languages_in (map string_bytes others))) × IsDistinct bytes_eq (keys_of (languages_in (map string_bytes others)))) ↔ IsDistinct bytes_eq (keys_of (languages_in (map string_bytes words)))
  whole = rw (same, is) (apart_more (language_in (string_bytes first)) (languages_in (map string_bytes others)))

  -- the first word is apart from the others
  pub apart_then : (more : Bool) → IsApart (language_in text) (keys_of (languages_in (map string_bytes others))) → IsTrue more ↔ IsDistinct bytes_eq (keys_of (languages_in (map string_bytes others)))
      → IsTrue more ↔ IsDistinct bytes_eq (keys_of (languages_in (map string_bytes words)))
  apart_then more apart rest = (λ told. whole.0 (apart, rest.0 told), λ all. rest.1 (whole.1 all).1)

  -- the first word is not apart from the others
  pub apart_else : (b : Bool) → b ≡ false → (IsApart (language_in text) (keys_of (languages_in (map string_bytes others))) → IsTrue b) → IsTrue b ↔ IsDistinct bytes_eq (keys_of (languages_in (map string_bytes words)))
  apart_else b refused back = (λ told. absurd (let e : b ≡ true = told in cc), λ all. back (whole.1 all).0)

pub apart_none : (words : List (String Global)) → words ≡ [] → IsTrue true ↔ IsDistinct bytes_eq (keys_of (languages_in (map string_bytes words)))
unfolding IsDistinct
apart_none words none = rw none (λ told. tt, λ all. refl)
