use Rattle.view_engine.proofs.Worlds.{answers_grow, made_grows}
use Rattle.view_engine.proofs.laws.worlds_go_on.Goals as goal

pub returns-clause-steps : goal.returns-clause-steps
returns-clause-steps g c = λ languages. answers_grow g.C.Servers.functions g.C.Servers.honest languages

pub returns-clause-made : goal.returns-clause-made
returns-clause-made g c = λ languages. made_grows g.C.Servers.functions g.C.Servers.honest languages
