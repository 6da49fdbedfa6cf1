use Rattle.view_ports.specs.Commands.{command}
use Rattle.map_server.proofs.Answering.{answers_honestly, answers_silently}
use Rattle.map_server.proofs.Reducible.{reducible}
use Rattle.map_server.proofs.pick_session.PickSessionServerSession.answer.Goals as goal

pub returns-clause-answers : goal.returns-clause-answers
returns-clause-answers c =
    λ asked. answers_honestly c.args.self.now (command c.args.line.now) c.in_ok-text.field-0.text.items (reducible c.args.line.now) c.in_ok-text.ensures.text asked

pub returns-clause-silent : goal.returns-clause-silent
returns-clause-silent c = answers_silently c.args.self.now (command c.args.line.now) c.in_ok-text.field-0.text.items c.in_ok-text.ensures.text
