-- The command that words name is one, so what is known of it is known of each.
use Rattle.std.specs.Prelude.{String, Vec, map, string_bytes}
use Rattle.std.specs.declared.alloc.Global.{Global}
use Rattle.std.proofs.Common.{◌≡◌, ◌≤◌, ◌<◌, ◌^◌, ◌∙◌, ℕ, IfSome, List, [], ◌∷◌, Option, Some, sym, ap, subst, arith}
use Rattle.child_pool.specs.Languages.{languages_in}
use Rattle.command_words.specs.Commands.{IsCommand, Word}
use Rattle.command_words.specs.Laws.{IsSameCommand}
use Rattle.command_words.specs.declared.command.Command.{Command}
use Rattle.command_words.specs.declared.command.Command.TheVariants.{Load, Serve}
use Rattle.command_words.proofs.OneCommand.{one_command}
use Rattle.couchview_cli.specs.Command.{AreLanguages, AskFor, AskToServe, IsBuilt, IsServe, languages_named}

-- a command is built where one with the same parts is
pub same_built : (one other : Command) → IsSameCommand one other → IsBuilt other → IsBuilt one
same_built (Serve width words) (Serve other others) same built = (same.0 ∙ built.0, subst AreLanguages (sym same.1) built.1)
same_built (Serve width words) (Load docs number) same built = absurd same
same_built (Load docs number) (Serve width words) same built = absurd same
same_built (Load docs number) (Load other others) same built = tt

-- words that name a command that is built name no other
pub built_of : (words : List (String Global)) (one other : Command) → IsCommand (map string_bytes words) one → AskFor words other → IsBuilt one
built_of words one other named asks = same_built one other (one_command (map string_bytes words) one other named asks.0) asks.1

-- and the languages that it names are those
pub languages_of : (words : List (String Global)) (width : ℕ) (own kept : Vec (String Global) Global) → AskFor words (Serve width own) → AskToServe words kept → languages_in (map string_bytes own.items) ≡ languages_named kept
languages_of words width own kept asks is = ap languages_in (one_command (map string_bytes words) (Serve width own) (Serve 1 kept) asks.0 is.0).1

-- what was found is the command that the words name
pub found_as : (words : List (String Global)) (found : Option Command) (command named : Command) → found ≡ Some command → command ≡ named → IfSome found (AskFor words) → AskFor words named
found_as words found command named is_some is asks = subst (AskFor words) is (subst (λ (f : Option Command). IfSome f (AskFor words)) is_some asks)

pub is_serve : (words : List (String Global)) (width : ℕ) (own : Vec (String Global) Global) → AskFor words (Serve width own) → IsServe words
is_serve words width own asks = (own, subst (λ (w : ℕ). AskFor words (Serve w own)) asks.1.0 asks)

-- ---- a load

-- its numbers are no greater than those of the table of commands
pub load_bounds : (words : List Word) (docs number : ℕ) → IsCommand words (Load docs number) → (docs ≤ 20000) × (number < 2 ^ 31)
load_bounds [] docs number is = absurd is
load_bounds (first ∷ rest) docs number (_, (plain, split, are)) = (are.3.high, omega (arith, are.4.high))

pub one_load : (words : List (String Global)) (docs number docs' number' : ℕ) → AskFor words (Load docs number) → AskFor words (Load docs' number') → (docs ≡ docs') × (number ≡ number')
one_load words docs number docs' number' asks asks' = one_command (map string_bytes words) (Load docs number) (Load docs' number') asks.0 asks'.0

-- words that ask for it don't ask to serve
pub not_both : (words : List (String Global)) (docs number width : ℕ) (own : Vec (String Global) Global) → AskFor words (Load docs number) → AskFor words (Serve width own) → ⊥
not_both words docs number width own load serve = one_command (map string_bytes words) (Load docs number) (Serve width own) load.0 serve.0
