use Rattle.view_engine.proofs.Exclusive.{is_not_refused_and_accepted, is_not_refused_and_done, is_refused_once, is_refused_once_by}
use Rattle.view_engine.proofs.laws.requests_have_one_outcome.Goals as goal

pub returns-clause-refused : goal.returns-clause-refused
returns-clause-refused g c = λ languages. is_refused_once g.C.Servers.functions g.C.Servers.honest languages

pub returns-clause-done : goal.returns-clause-done
returns-clause-done g c = λ languages. is_not_refused_and_done g.C.Servers.functions g.C.Servers.honest languages

pub returns-clause-once : goal.returns-clause-once
returns-clause-once g c = is_refused_once_by

pub returns-clause-either : goal.returns-clause-either
returns-clause-either g c = is_not_refused_and_accepted
