-- What a session answers a line is what an honest server answers it.
use Rattle.std.specs.Prelude.{◌≡◌, ◌≤◌, ℕ, List, length, nat_le, Bool, true, false, cond}
use Rattle.std.proofs.Common.{ap, ◌∙◌, subst}
use Rattle.std.proofs.lemmas.Bool.{le-leb}
use Rattle.json_terms.specs.Json.{Json}
use Rattle.json_terms.specs.Text.{text_of}
use Rattle.view_ports.specs.declared.command.Command.{Command}
use Rattle.view_ports.specs.declared.command.Command.TheVariants.{Other}
use Rattle.view_ports.specs.Commands.{command}
use Rattle.view_ports.specs.Functions.{line_limit}
use Rattle.view_ports.specs.Honest.{IsTextOf}
use Rattle.map_server.specs.Honesty.{AnswersHonestly}
use Rattle.map_server.specs.Replies.{IsReducible, answer_of, answer_text, command_in_line, sources_after_line}
use Rattle.map_server.proofs.Answering.{answers_add, answers_honestly, answers_silently}
use Rattle.map_server.proofs.Reducible.{reducible}

-- a line that isn't too long is the command that it is
pub whole : (line : List ℕ) → length line ≤ line_limit → command_in_line line ≡ command line
whole line short = ap (λ b. cond b (command line) Other) (le-leb (length line) line_limit short)

within_reducible : (b : Bool) (line : List ℕ) → IsReducible (cond b (command line) Other)
within_reducible true line = reducible line
within_reducible false line = tt

-- the text of a term is what any line that is that text is
text_is : (t : Json) (line : List ℕ) → IsTextOf t line → IsTextOf t (text_of t)
text_is t line is = subst (IsTextOf t) is.text is

honest_text : (sources : List (List ℕ)) (line text : List ℕ) (after : List (List ℕ)) → IsTextOf (answer_of sources (command_in_line line)) text
    → after ≡ sources_after_line sources line → AnswersHonestly sources line text after
honest_text sources line text after is then = record {
  honest = λ asked. answers_honestly sources (command_in_line line) text (within_reducible (nat_le (length line) line_limit) line) is asked;
  silent = answers_silently sources (command_in_line line) text is;
  added = then ∙ answers_add sources (command_in_line line) text is;
  unknown = λ other. subst (λ (c : Command). IsTextOf (answer_of sources c) text) other is;
}

-- a text was found that is the answer, so the answer is honest
pub answer_is_honest : (sources : List (List ℕ)) (line text : List ℕ) (after : List (List ℕ)) → IsTextOf (answer_of sources (command_in_line line)) text
    → after ≡ sources_after_line sources line → AnswersHonestly sources line (answer_text sources line) after
answer_is_honest sources line text after is then =
    honest_text sources line (answer_text sources line) after (text_is (answer_of sources (command_in_line line)) text is) then
