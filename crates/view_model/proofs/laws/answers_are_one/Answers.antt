use Rattle.view_model.proofs.OneAnswer.{has_answer, one_answer}
use Rattle.view_model.proofs.laws.answers_are_one.Goals as goal

pub returns-clause-one : goal.returns-clause-one
returns-clause-one c = one_answer

pub returns-clause-some : goal.returns-clause-some
returns-clause-some c = has_answer
