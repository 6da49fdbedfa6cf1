use Rattle.design_docs.proofs.Revised.{revision_leaves_design}
use Rattle.design_docs.proofs.laws.revisions_leave_designs.Goals as goal

pub returns : goal.returns
returns c = revision_leaves_design
