use Rattle.design_docs.proofs.Real.{is_no_fault}
use Rattle.design_docs.proofs.laws.want_of_memory_is_no_fault.Goals as goal

pub returns : goal.returns
returns c = is_no_fault
