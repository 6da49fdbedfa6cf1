-- Words name one command at most.
use Rattle.std.specs.Prelude.{◌≡◌, List, map, string_bytes}
use Rattle.command_words.specs.Commands.{Word, IsCommand}
use Rattle.command_words.specs.declared.command.Command.{Command}
use Rattle.command_words.specs.declared.command.Command.TheVariants.{Serve, Load}

-- two commands are of one kind, and have the same parts
abbrev pub IsSameCommand : Command → Command → Type 0
IsSameCommand (Serve width words) (Serve other others) = (width ≡ other)
    × (map string_bytes words.items ≡ map string_bytes others.items)
IsSameCommand (Load docs number) (Load other others) = (docs ≡ other) × (number ≡ others)
IsSameCommand _ _ = ⊥

abbrev pub NameOneCommand : Type 0
NameOneCommand = (words : List Word) (one other : Command) → IsCommand words one → IsCommand words other
    → IsSameCommand one other
