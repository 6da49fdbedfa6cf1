-- The words of the command line, and the usage line.
use Rattle.std.specs.Prelude.{◌≡◌, ◌≤◌, ◌⊎◌, ◌||◌, ℕ, List, Bool, true, false, not, nat_eq, bytes_eq, Option, Some, None, map, length, codes, string_bytes, String, Vec}
use Rattle.std.specs.List.{AllByRecursion, IsDistinct, starts_with}
use Rattle.std.specs.Map.{keys_of}
use Rattle.std.specs.declared.alloc.Global.{Global}
use Rattle.std.specs.Io.KnownBytes.{Appends}
use Rattle.command_words.specs.Commands.{IsCommand}
use Rattle.command_words.specs.declared.command.Command.{Command}
use Rattle.command_words.specs.declared.command.Command.TheVariants.{Load, Serve}
use Rattle.view_ports.specs.Lines.{ended}
use Rattle.view_ports.specs.Exchanges.{IsPrefixOf}
use Rattle.child_pool.specs.Languages.{language_in, languages_in}
use Rattle.couchview_cli.specs.BuiltIn.{is_built_in}

-- a path that begins with `builtin:` is that of a server in the process
abbrev pub is_path : List ℕ → Bool
is_path path = not (starts_with nat_eq path (codes "builtin:")) || is_built_in path

abbrev pub has_path : Option (List ℕ × List ℕ) → Bool
has_path (Some (language, path)) = is_path path
has_path None = false

-- a word LANG=PATH
abbrev pub is_language : List ℕ → Bool
is_language word = has_path (language_in word)

-- the language is this one
abbrev pub names : List ℕ → Option (List ℕ × List ℕ) → Bool
names language (Some (found, path)) = bytes_eq language found
names language None = false

-- the language, if there is one, is none of these
abbrev pub IsApart : Option (List ℕ × List ℕ) → List (List ℕ) → Type 0
IsApart (Some (language, path)) others = AllByRecursion (λ other. bytes_eq language other ≡ false) others
IsApart None others = Unit {0}

-- at most eight words LANG=PATH, which name no language twice
pub record AreLanguages (words : List (List ℕ)) : Type 0 where
  pub few : length words ≤ 8
  pub each : AllByRecursion (λ word. is_language word ≡ true) words
  pub apart : IsDistinct bytes_eq (keys_of (languages_in words))

-- what the program does of the commands: it loads, and serves with one child that maps, where the words behind `serve` name languages
abbrev pub IsBuilt : Command → Type 0
IsBuilt (Serve width words) = (width ≡ 1) × AreLanguages (map string_bytes words.items)
IsBuilt (Load docs number) = Unit {0}

-- the words name this command, and it is built
abbrev pub AskFor : List (String Global) → Command → Type 0
AskFor words command = IsCommand (map string_bytes words) command × IsBuilt command

-- they name one that is
abbrev pub IsToDo : List (String Global) → Type 0
IsToDo words = (command : Command) × AskFor words command

-- they ask to serve, with these words LANG=PATH
abbrev pub AskToServe : List (String Global) → Vec (String Global) Global → Type 0
AskToServe words kept = AskFor words (Serve 1 kept)

abbrev pub IsServe : List (String Global) → Type 0
IsServe words = (kept : Vec (String Global) Global) × AskToServe words kept

-- they ask for a load
abbrev pub IsLoad : List (String Global) → Type 0
IsLoad words = (docs : ℕ) × (number : ℕ) × AskFor words (Load docs number)

-- the languages that these words name, with their paths
abbrev pub languages_named : Vec (String Global) Global → List (List ℕ × List ℕ)
languages_named kept = languages_in (map string_bytes kept.items)

unfoldable pub usage_line : List ℕ
usage_line = ended (codes "usage: couchview serve [--width N] [LANG=PATH]... | couchview load DOCS NUMBER")

-- the sink got the usage line, and the status is 2, or it failed in it, and the status is 4
abbrev pub ShowsUsage : Option (List ℕ) → Option (List ℕ) → ℕ → Type 0
ShowsUsage before after status =
    ((status ≡ 2) × Appends before after usage_line) ⊎
    ((status ≡ 4) × ((part : List ℕ) × IsPrefixOf part usage_line × Appends before after part))

-- the same, or memory ran out as the words were read, and the status is 6
abbrev pub RefusesWords : Option (List ℕ) → Option (List ℕ) → ℕ → Type 0
RefusesWords before after status = ShowsUsage before after status ⊎ ((status ≡ 6) × (after ≡ before))
