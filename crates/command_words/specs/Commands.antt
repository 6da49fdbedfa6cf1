-- Which words name which command. The words are those after the program's name.
use Rattle.std.specs.Prelude.{◌≡◌, ◌≤◌, ◌⊎◌, ℕ, List, [], ◌∷◌, ◌++◌, Bool, false, nat_eq, Option, Some, None}
use Rattle.std.specs.Prelude.{map, codes, decimal, string_bytes}
use Rattle.std.specs.List.{AllByRecursion, starts_with}
use Rattle.command_words.specs.declared.command.Command.{Command}
use Rattle.command_words.specs.declared.command.Command.TheVariants.{Serve, Load}

abbrev pub Word : Type 0
Word = List ℕ

-- the word begins with `-`
abbrev pub is_option : Word → Bool
is_option word = starts_with nat_eq word (codes "-")

abbrev pub HasNoOption : List Word → Type 0
HasNoOption = AllByRecursion (λ word. is_option word ≡ false)

abbrev pub HasNoDashes : List Word → Type 0
HasNoDashes = AllByRecursion (λ word. ¬ (word ≡ codes "--"))

-- the words before the first `--`, and those behind it; where there is none, all stand before it
abbrev pub IsCut : List Word → List Word → List Word → Type 0
IsCut words before behind = HasNoDashes before
    × (((words ≡ before) × (behind ≡ [])) ⊎ (words ≡ before ++ codes "--" ∷ behind))

-- the words are `--width` with this text as the next word, or `--width=` with this text in the same word
abbrev pub IsWidthOption : List Word → Word → Type 0
IsWidthOption option text = ((option ≡ codes "--width" ∷ text ∷ []) × (is_option text ≡ false))
    ⊎ (option ≡ (codes "--width=" ++ text) ∷ [])

-- `plain` is the words `before` without the one option `--width`, which is given this text
pub record HasWidth (before plain : List Word) (text : Word) : Type 0 where
  pub first : List Word
  pub option : List Word
  pub rest : List Word
  pub place : before ≡ first ++ (option ++ rest)
  pub left : plain ≡ first ++ rest
  pub is_width : IsWidthOption option text
  pub no_other : HasNoOption plain

-- the words hold no option, or `--width` alone, once
abbrev pub HasOptions : List Word → List Word → Option Word → Type 0
HasOptions before plain None = HasNoOption before × (plain ≡ before)
HasOptions before plain (Some text) = HasWidth before plain text

-- the words behind a command's name: what `--width` is given, if it is there, and the other words
pub record IsSplit (words : List Word) (given : Option Word) (plain : List Word) : Type 0 where
  pub before : List Word
  pub behind : List Word
  pub left : List Word
  pub cut : IsCut words before behind
  pub options : HasOptions before left given
  pub plain_is : plain ≡ left ++ behind

-- the text is the number's decimal digits, without sign or leading zeros
pub record IsNumber (least most : ℕ) (text : Word) (n : ℕ) : Type 0 where
  pub digits : text ≡ decimal n
  pub low : least ≤ n
  pub high : n ≤ most

abbrev pub IsWidth : Option Word → ℕ → Type 0
IsWidth None width = width ≡ 1
IsWidth (Some text) width = IsNumber 1 8 text width

-- `serve [--width N] [WORD]...`, from the second word on
abbrev pub IsServe : List Word → ℕ → List Word → Type 0
IsServe words width plain = (given : Option Word) × IsSplit words given plain × IsWidth given width

abbrev pub AreNumbers : List Word → ℕ → ℕ → Type 0
AreNumbers plain docs number = (first second : Word) × (plain ≡ first ∷ second ∷ []) × IsNumber 1 20000 first docs
    × IsNumber 0 2147483647 second number

-- `load DOCS NUMBER`, from the second word on
abbrev pub IsLoad : List Word → ℕ → ℕ → Type 0
IsLoad words docs number = (plain : List Word) × IsSplit words None plain × AreNumbers plain docs number

-- the words name the command
abbrev pub IsCommand : List Word → Command → Type 0
IsCommand [] command = ⊥
IsCommand (first ∷ rest) (Serve width words) = (first ≡ codes "serve")
    × IsServe rest width (map string_bytes words.items)
IsCommand (first ∷ rest) (Load docs number) = (first ≡ codes "load") × IsLoad rest docs number
