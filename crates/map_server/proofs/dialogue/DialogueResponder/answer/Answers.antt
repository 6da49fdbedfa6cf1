-- A line is answered as what is given of it.
use Rattle.std.proofs.Common.{◌++◌, ℕ, List, ◌∙◌, ap}
use Rattle.view_ports.specs.Lines.{ended}
use Rattle.map_server.specs.Replies.{answer_text, sources_after_line}
use Rattle.map_server.proofs.Keeping.{AnswersLine-kept}
use Rattle.map_server.proofs.dialogue.DialogueResponder.answer.Goals as goal

pub returns-clause-ok : goal.returns-clause-ok
returns-clause-ok c = λ whole given.
    let sources = c.args.self.now.session in
    let line = c.args.line.now in
    let answer = answer_text sources line in
    AnswersLine-kept sources whole c.push.new.self.items c.step.new.self
    (record {
      text = c.in_ok-push.ensures.items ∙ ap ended (c.in_ok-step.ensures.answer ∙ ap (λ (front : List ℕ). front ++ answer) c.clear.ensures.items) ∙ ap (λ (l : List ℕ). ended (answer_text sources l)) given;
      then = c.in_ok-step.ensures.sources ∙ ap (sources_after_line sources) given;
    })
