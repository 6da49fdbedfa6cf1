-- What stands first in a source. For private clauses.
use Rattle.std.specs.Prelude.{◌≡◌, ℕ, ℤ, ◌<◌, ◌≤◌, ◌-◌, List, ◌∷◌, ◌++◌, length, take, drop, Bool, true, false}
use Rattle.std.specs.Fmt.{signed_decimal}
use Rattle.std.specs.Str.{IsCharBoundary}
use Rattle.map_lang.specs.declared.lex.Class.{Class}
use Rattle.map_lang.specs.declared.lex.Class.TheVariants.{Blank, Digit, InWord, InText}
use Rattle.map_lang.specs.declared.token.Token.{Token}
use Rattle.map_lang.specs.declared.token.Token.TheVariants.{Integer}
use Rattle.map_lang.specs.Tokens.{IsWhole, text_of, all_pass, first_passes, is_blank, is_digit, is_in_word, is_in_text}

abbrev pub passes : Class → ℕ → Bool
passes Blank = is_blank
passes Digit = is_digit
passes InWord = is_in_word
passes InText = is_in_text

-- blanks, and then no blank
abbrev pub IsBlankBefore : List ℕ → List ℕ → Type 0
IsBlankBefore source rest = (blanks : List ℕ) × (all_pass is_blank blanks ≡ true) × (source ≡ blanks ++ rest) × (first_passes is_blank rest ≡ false)

pub record IsTokenAt (source : List ℕ) (token : Token) (n : ℕ) : Type 0 where
  pub some : 0 < n
  pub within : n ≤ length source
  pub whole : source ≡ text_of token ++ drop n source
  pub token_whole : IsWhole token (drop n source)
  pub boundary : IsCharBoundary source n

-- n digits, and then none
abbrev pub IsDigitRun : List ℕ → ℕ → Type 0
IsDigitRun bytes n = (all_pass is_digit (take n bytes) ≡ true) × (first_passes is_digit (drop n bytes) ≡ false)

-- a sign, and then digits
abbrev pub IsSignedRun : List ℕ → ℕ → Type 0
IsSignedRun bytes n = (0 < n) × IsDigitRun (drop 1 bytes) (n - 1)

-- no token stands first
abbrev pub HasNoToken : List ℕ → Type 0
HasNoToken source = (token : Token) (rest : List ℕ) → source ≡ text_of token ++ rest → IsWhole token rest → ⊥

-- no number stands first
abbrev pub HasNoInteger : List ℕ → Type 0
HasNoInteger source = (n : ℤ) (rest : List ℕ) → source ≡ signed_decimal n ++ rest → IsWhole (Integer n) rest → ⊥

-- no text between two `'` stands first
abbrev pub HasNoText : List ℕ → Type 0
HasNoText source = (text rest : List ℕ) → source ≡ 39 ∷ text ++ 39 ∷ rest → all_pass is_in_text text ≡ true → ⊥
