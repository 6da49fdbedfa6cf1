-- A session of the language `pick` is an honest query server of its functions.
use Rattle.std.specs.Prelude.{◌≡◌, ℕ, List, false}
use Rattle.view_ports.specs.Calls.{is_log, is_yes, sources_after}
use Rattle.view_ports.specs.declared.command.Command.TheVariants.{Other}
use Rattle.view_ports.specs.Honest.{Answers, IsAnswerable, IsTextOf, no_command}
use Rattle.map_server.specs.Pick.{pick}
use Rattle.map_server.specs.Replies.{command_in_line}

-- The text answers the line as the functions of the language say, where these sources were added, and is no log line. A
-- source is added where the answer is `true`. A line that is no proper command, or too long to be one, is answered as such.
pub record AnswersHonestly (sources : List (List ℕ)) (line text : List ℕ) (after : List (List ℕ)) : Type 0 where
  pub honest : IsAnswerable sources (command_in_line line) → Answers pick sources (command_in_line line) text
  pub silent : is_log text ≡ false
  pub added : after ≡ sources_after (command_in_line line) (is_yes text) sources
  pub unknown : command_in_line line ≡ Other → IsTextOf no_command text
