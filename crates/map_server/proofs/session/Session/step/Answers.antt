-- A line that isn't too long is answered as the command that it is.
use Rattle.std.proofs.Common.{◌≡◌, ◌≤◌, ◌∙◌, ℕ, List, ap, sym, subst, length, arith}
use Rattle.view_ports.specs.declared.command.Command.{Command}
use Rattle.view_ports.specs.Commands.{command}
use Rattle.view_ports.specs.Functions.{line_limit}
use Rattle.view_ports.specs.Honest.{IsTextOf}
use Rattle.map_server.specs.Honesty.{AnswersHonestly}
use Rattle.map_server.specs.Replies.{answer_of, answer_text, command_in_line, sources_after_line, sources_then}
use Rattle.map_server.proofs.Honesty.{answer_is_honest, whole}
use Rattle.map_server.proofs.session.Session.step.Goals as goal

pub returns-in-Ok-clause-honest : goal.returns-in-Ok-clause-honest
returns-in-Ok-clause-honest c =
    let sources = c.self.inside.pick in
    let line = c.args.line.now in
    let short : length line ≤ line_limit = omega (arith, c.if-line-gt-LINE_LIMIT.false) in
    let same : command line ≡ command_in_line line = sym (whole line short) in
    let after : c.change.new.self ≡ sources_after_line sources line = c.in-Ok.ensures.ok ∙ c.in_ok-text.ensures.change ∙ ap (sources_then sources) same in
    let is : IsTextOf (answer_of sources (command_in_line line)) c.in_ok-text.field-0.text.items = subst (λ (x : Command). IsTextOf (answer_of sources x) c.in_ok-text.field-0.text.items) same c.in_ok-text.ensures.text in
    subst (λ (ss : List (List ℕ)). AnswersHonestly ss line (answer_text ss line) c.change.new.self) c.self.view_is (answer_is_honest sources line c.in_ok-text.field-0.text.items c.change.new.self is after)
