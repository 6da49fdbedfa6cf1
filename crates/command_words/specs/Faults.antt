-- Why words are no command.
use Rattle.std.specs.Prelude.{◌≡◌, ◌⊎◌, ⊤, ℕ, List, [], ◌∷◌, Bool, not, ◌&&◌, nat_eq, Option, Some, None}
use Rattle.std.specs.Prelude.{codes, bytes_eq, length}
use Rattle.std.specs.List.{list_any, position, starts_with, take_while}
use Rattle.clap.specs.declared.error.kind.ErrorKind.{ErrorKind}
use Rattle.clap.specs.declared.error.kind.ErrorKind.TheVariants.{OutOfMemory, UnknownArgument, ArgumentConflict}
use Rattle.command_words.specs.Commands.{IsNumber, IsSplit, Word, is_option}
use Rattle.command_words.specs.declared.fault.WordsFault.{WordsFault}
use Rattle.command_words.specs.declared.fault.WordsFault.TheVariants.{NoWord, UnknownCommand, ShortOption}
use Rattle.command_words.specs.declared.fault.WordsFault.TheVariants.{UnknownOption, WidthTwice, BadWidth}
use Rattle.command_words.specs.declared.fault.WordsFault.TheVariants.{LoadOption, NotTwoNumbers, BadDocs, BadNumber, NoMemory}

abbrev pub is_dashes : Word → Bool
is_dashes word = bytes_eq word (codes "--")

-- the word begins with one dash alone
abbrev pub is_short : Word → Bool
is_short word = is_option word && not (starts_with nat_eq word (codes "--"))

abbrev pub before_dashes : List Word → List Word
before_dashes words = take_while (λ word. not (is_dashes word)) words

-- a word before the first `--` begins with one dash alone
abbrev pub has_short : List Word → Bool
has_short words = list_any is_short (before_dashes words)

-- the place of the first such word
abbrev pub short_place : List Word → Option ℕ
short_place words = position is_short (before_dashes words)

-- the words hold other options than `--width`, given a word, once at most
abbrev pub IsUnsplit : List Word → Type 0
IsUnsplit words = (given : Option Word) (plain : List Word) → ¬ IsSplit words given plain

abbrev pub IsNoNumber : ℕ → ℕ → Word → Type 0
IsNoNumber least most text = (n : ℕ) → ¬ IsNumber least most text n

-- the words behind `serve` have this fault
abbrev pub HasServeFault : List Word → WordsFault → Type 0
HasServeFault words (ShortOption place) = short_place words ≡ Some place
HasServeFault words UnknownOption = IsUnsplit words
HasServeFault words WidthTwice = IsUnsplit words
HasServeFault words BadWidth = IsUnsplit words
    ⊎ ((text : Word) × (plain : List Word) × IsSplit words (Some text) plain × IsNoNumber 1 8 text)
HasServeFault words NoMemory = ⊤
HasServeFault words _ = ⊥

-- the words that are no option aren't two numbers in their ranges, for this cause
abbrev pub HasNumbersFault : List Word → WordsFault → Type 0
HasNumbersFault plain NotTwoNumbers = ¬ (length plain ≡ 2)
HasNumbersFault plain BadDocs = (docs number : Word) × (plain ≡ docs ∷ number ∷ []) × IsNoNumber 1 20000 docs
HasNumbersFault plain BadNumber = (docs number : Word) × (plain ≡ docs ∷ number ∷ []) × IsNoNumber 0 2147483647 number
HasNumbersFault plain _ = ⊥

-- the words behind `load` have this fault
abbrev pub HasLoadFault : List Word → WordsFault → Type 0
HasLoadFault words LoadOption = (plain : List Word) → ¬ IsSplit words None plain
HasLoadFault words NoMemory = ⊤
HasLoadFault words fault = (plain : List Word) × IsSplit words None plain × HasNumbersFault plain fault

-- the words have this fault
abbrev pub HasFault : List Word → WordsFault → Type 0
HasFault [] fault = fault ≡ NoWord
HasFault (first ∷ rest) fault = ((first ≡ codes "serve") × HasServeFault rest fault)
    ⊎ (((first ≡ codes "load") × HasLoadFault rest fault)
    ⊎ (¬ (first ≡ codes "serve") × ¬ (first ≡ codes "load") × (fault ≡ UnknownCommand)))

-- what a parser's error means behind `serve`, and a fault of options behind `load`
abbrev pub fault_for : ErrorKind → WordsFault
fault_for OutOfMemory = NoMemory
fault_for UnknownArgument = UnknownOption
fault_for ArgumentConflict = WidthTwice
fault_for _ = BadWidth

abbrev pub behind_load : WordsFault → WordsFault
behind_load NoMemory = NoMemory
behind_load _ = LoadOption

abbrev pub IsNoWidth : Option Word → Type 0
IsNoWidth None = ⊥
IsNoWidth (Some text) = IsNoNumber 1 8 text
