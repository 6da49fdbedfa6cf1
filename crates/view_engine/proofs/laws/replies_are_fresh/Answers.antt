use Rattle.view_engine.proofs.Fresh.{replies_are_fresh, steps_are_fresh}
use Rattle.view_engine.proofs.laws.replies_are_fresh.Goals as goal

pub returns-clause-replies : goal.returns-clause-replies
returns-clause-replies g c = λ languages. replies_are_fresh g.C.Servers.functions g.C.Servers.honest languages

pub returns-clause-steps : goal.returns-clause-steps
returns-clause-steps g c = λ languages. steps_are_fresh g.C.Servers.functions g.C.Servers.honest languages
