use Rattle.design_docs.proofs.MappedLater.{numbered}
use Rattle.design_docs.proofs.laws.changes_are_numbered.Goals as goal

pub returns : goal.returns
returns c = λ seq history. numbered seq history
