-- What the causes of refusals say of honest paths.
use Rattle.child_pool.proofs.Honesty.{complains_rightly, maps_complain_rightly, no_bad_reply}
use Rattle.child_pool.proofs.laws.honest_paths_are_refused_rightly.Goals as goal

pub returns-clause-replies : goal.returns-clause-replies
returns-clause-replies g c = λ job. no_bad_reply g.C.Servers.functions g.C.Servers.honest job

pub returns-clause-complaints : goal.returns-clause-complaints
returns-clause-complaints g c = λ job. complains_rightly g.C.Servers.functions g.C.Servers.honest job

pub returns-clause-maps : goal.returns-clause-maps
returns-clause-maps g c = maps_complain_rightly g.C.Servers.functions g.C.Servers.honest
