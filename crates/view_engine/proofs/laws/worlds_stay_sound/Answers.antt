use Rattle.view_engine.proofs.Sound.{answers_sound, between_sound, made_sound}
use Rattle.view_engine.proofs.laws.worlds_stay_sound.Goals as goal

pub returns-clause-steps : goal.returns-clause-steps
returns-clause-steps g c = λ languages. answers_sound g.C.Servers.functions g.C.Servers.honest languages

pub returns-clause-made : goal.returns-clause-made
returns-clause-made g c = λ languages. made_sound g.C.Servers.functions g.C.Servers.honest languages

pub returns-clause-between : goal.returns-clause-between
returns-clause-between g c = λ languages. between_sound g.C.Servers.functions g.C.Servers.honest languages
