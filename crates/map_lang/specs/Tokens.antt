-- The tokens of a source.
use Rattle.std.specs.Prelude.{◌≡◌, ℕ, List, [], ◌∷◌, ◌++◌, Bool, true, false, ◌||◌, ◌&&◌, nat_le, ◌==◌, Option, Some, None, codes, bytes_eq, if◌then◌else◌, FitsSigned}
use Rattle.std.specs.Int.{w64}
use Rattle.std.specs.Fmt.{signed_decimal}
use Rattle.map_lang.specs.declared.token.Token.{Token}
use Rattle.map_lang.specs.declared.token.Token.TheVariants.{Word, Integer, Text, Mark}
use Rattle.map_lang.specs.declared.token.Mark as marks
use Rattle.map_lang.specs.declared.token.Mark.TheVariants.{Comma, Equals, Dot, OpenBrace, CloseBrace, OpenBracket, CloseBracket}
use Rattle.map_lang.specs.declared.token.Keyword.{Keyword}
use Rattle.map_lang.specs.declared.token.Keyword.TheVariants.{Emit, If, For, In, True, False, Null}

abbrev pub spelling : Keyword → List ℕ
spelling Emit = codes "emit"
spelling If = codes "if"
spelling For = codes "for"
spelling In = codes "in"
spelling True = codes "true"
spelling False = codes "false"
spelling Null = codes "null"

-- the keyword that a word is
abbrev pub keyword_of : List ℕ → Option Keyword
keyword_of word =
    if bytes_eq word (codes "emit") then Some Emit
    else (if bytes_eq word (codes "if") then Some If
    else (if bytes_eq word (codes "for") then Some For
    else (if bytes_eq word (codes "in") then Some In
    else (if bytes_eq word (codes "true") then Some True
    else (if bytes_eq word (codes "false") then Some False
    else (if bytes_eq word (codes "null") then Some Null else None))))))

abbrev pub mark_text : marks.Mark → List ℕ
mark_text Comma = codes ","
mark_text Equals = codes "=="
mark_text Dot = codes "."
mark_text OpenBrace = codes "{"
mark_text CloseBrace = codes "}"
mark_text OpenBracket = codes "["
mark_text CloseBracket = codes "]"

abbrev pub text_of : Token → List ℕ
text_of (Word w) = w
text_of (Integer n) = signed_decimal n
text_of (Text t) = 39 ∷ (t ++ 39 ∷ [])
text_of (Mark m) = mark_text m

-- space, tab, newline and carriage return
abbrev pub is_blank : ℕ → Bool
is_blank c = (c == 32) || (c == 9) || (c == 10) || (c == 13)

abbrev pub is_digit : ℕ → Bool
is_digit c = nat_le 48 c && nat_le c 57

-- a letter of ASCII or `_`
abbrev pub is_letter : ℕ → Bool
is_letter c = (nat_le 65 c && nat_le c 90) || (nat_le 97 c && nat_le c 122) || (c == 95)

abbrev pub is_in_word : ℕ → Bool
is_in_word c = is_letter c || is_digit c

abbrev pub is_in_text : ℕ → Bool
is_in_text c = if c == 39 then false else true

-- each byte passes the test
abbrev pub all_pass : (ℕ → Bool) → List ℕ → Bool
all_pass p [] = true
all_pass p (c ∷ cs) = p c && all_pass p cs

-- the first byte passes the test
abbrev pub first_passes : (ℕ → Bool) → List ℕ → Bool
first_passes p [] = false
first_passes p (c ∷ cs) = p c

-- The token may stand before this rest: it is well formed, and it couldn't be longer.
abbrev pub IsWhole : Token → List ℕ → Type 0
IsWhole (Word w) rest = (first_passes is_letter w ≡ true) × (all_pass is_in_word w ≡ true) × (first_passes is_in_word rest ≡ false)
IsWhole (Integer n) rest = FitsSigned w64 n × (first_passes is_digit rest ≡ false)
IsWhole (Text t) rest = all_pass is_in_text t ≡ true
IsWhole (Mark m) rest = Unit {0}

-- The source is blanks, this token and the rest.
pub record Begins (source : List ℕ) (token : Token) (rest : List ℕ) : Type 0 where
  pub blanks : List ℕ
  pub are_blanks : all_pass is_blank blanks ≡ true
  pub whole : source ≡ blanks ++ (text_of token ++ rest)
  pub token_whole : IsWhole token rest

-- The source is these tokens, with blanks before, between and behind them.
abbrev pub AreTokens : List ℕ → List Token → Type 0
AreTokens source [] = all_pass is_blank source ≡ true
AreTokens source (token ∷ tokens) = (rest : List ℕ) × Begins source token rest × AreTokens rest tokens
