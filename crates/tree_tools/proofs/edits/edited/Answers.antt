use Rattle.std.proofs.Common.{arith}
use Rattle.tree_tools.proofs.Insertions.{insertions_within}
use Rattle.tree_tools.proofs.edits.edited.Goals as goal

pub apply-requires-clause-few : goal.apply-requires-clause-few
apply-requires-clause-few g c =
    let few = insertions_within c.args.edits.now in
    let small = c.if-tree-gt1000000.false in
    let short = c.if-edits-gt1000000.false in
    omega arith
