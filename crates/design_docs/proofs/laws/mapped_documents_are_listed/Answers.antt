use Rattle.design_docs.proofs.MappedOrder.{mapped_listed}
use Rattle.design_docs.proofs.laws.mapped_documents_are_listed.Goals as goal

pub returns : goal.returns
returns c = λ history. mapped_listed history
