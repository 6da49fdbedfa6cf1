-- A line is answered as what is kept of it.
use Rattle.std.specs.Prelude.{◌≡◌, ◌<◌, ℕ, List, length, cond}
use Rattle.std.proofs.Common.{sym, ap, ◌∙◌, inl, inr}
use Rattle.std.proofs.lemmas.Bool.{lt-leb}
use Rattle.view_ports.specs.declared.command.Command.TheVariants.{Other}
use Rattle.view_ports.specs.Commands.{command}
use Rattle.view_ports.specs.Functions.{line_limit}
use Rattle.view_ports.specs.Lines.{ended, kept}
use Rattle.view_ports.proofs.KeptLines.{kept-cases}
use Rattle.map_server.specs.Replies.{answer_of, command_in_line, sources_then}
use Rattle.json_terms.specs.Text as json_text
use Rattle.map_server.specs.Serving.{AnswersLine}

long : (line : List ℕ) → line_limit < length line → command_in_line line ≡ Other
long line h = ap (λ b. cond b (command line) Other) (lt-leb (length line) line_limit h)

-- what is kept of a line is as much a command as the line
pub command-kept : (line : List ℕ) → command_in_line (kept line_limit line) ≡ command_in_line line
command-kept line =
    elim (kept-cases line_limit line) [
      | inl more ↦ long (kept line_limit line) more.1 ∙ sym (long line more.0)
      | inr whole ↦ ap command_in_line whole
    ]

-- a line is answered as what is kept of it
pub AnswersLine-kept : (sources : List (List ℕ)) (line text : List ℕ) (after : List (List ℕ)) → AnswersLine sources (record { line = kept line_limit line; text = text }) after → AnswersLine sources (record { line = line; text = text }) after
AnswersLine-kept sources line text after answers = record {
  text = answers.text ∙ ap (λ c. ended (json_text.text_of (answer_of sources c))) (command-kept line);
  then = answers.then ∙ ap (sources_then sources) (command-kept line);
}
