use Rattle.std.proofs.Common.{◌∙◌}
use Rattle.map_server.proofs.Ending.{Serves-ended, Serves-stopped, Serves-unopened}
use Rattle.map_server.proofs.serve.serve.Goals as goal

pub returns-in_default-clause-serves : goal.returns-in_default-clause-serves
returns-in_default-clause-serves g c = Serves-unopened _

pub returns-in-Run-clause-serves : goal.returns-in-Run-clause-serves
returns-in-Run-clause-serves g c = Serves-ended _ (λ before after e step. record { text = step.1 ∙ step.0.text; then = step.0.then }) _ _ _ _ c.in-Run.end c.in-Ok.ensures c.in-Run.ensures.loops

pub returns-clause-serves : goal.returns-clause-serves
returns-clause-serves g c = Serves-stopped _ (λ before after e step. record { text = step.1 ∙ step.0.text; then = step.0.then }) _ _ _ _ _ c.in-Ok.ensures c.in-Stopped.ensures.loops
