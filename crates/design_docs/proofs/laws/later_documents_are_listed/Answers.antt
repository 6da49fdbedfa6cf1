use Rattle.design_docs.proofs.MappedLater.{later_listed}
use Rattle.design_docs.proofs.laws.later_documents_are_listed.Goals as goal

pub returns : goal.returns
returns c = λ seq history. later_listed seq history
