-- A line is answered as the engine's step does it.
use Rattle.std.proofs.Common.{refl}
use Rattle.couchview_cli.proofs.Answering.{answered_by, answered_constant, unanswered_by}
use Rattle.couchview_cli.proofs.Keeping.{answered_whole, unanswered_whole}
use Rattle.couchview_cli.proofs.session.SessionResponder.answer.Goals as goal

pub returns-in-Ok-clause-ok : goal.returns-in-Ok-clause-ok
returns-in-Ok-clause-ok g c = λ whole given. ((refl, refl, refl), answered_whole whole c.args.line.now given _ (answered_by c.clear.ensures.items c.in-Ok.ensures.does c.in-Ok.ensures.spares))

pub returns-in_default-clause-err : goal.returns-in_default-clause-err
returns-in_default-clause-err g c = λ whole given. ((refl, refl, refl), unanswered_whole whole c.args.line.now given _ (unanswered_by _ c.in_default.not-NoMemory c.requires c.in-Err.ensures.does c.in-Err.ensures.spares))

pub returns-in-NoMemory-clause-ok : goal.returns-in-NoMemory-clause-ok
returns-in-NoMemory-clause-ok g c = λ whole given. ((refl, refl, refl), answered_whole whole c.args.line.now given _ (answered_constant (rw c.in-NoMemory.is at c.in-Err.ensures.does) (rw c.in-NoMemory.is at c.in-Err.ensures.spares)))
