use Rattle.std.proofs.Common.{◌++◌, ap, ◌∙◌}
use Rattle.tree_laws.specs.Nodes.{number_bytes}
use Rattle.tree_laws.proofs.encode.put_number.Goals as goal

pub returns-clause-ok : goal.returns-clause-ok
unfolding number_bytes
returns-clause-ok c = c.in_ok-extend_from_slice.ensures.items ∙ ap (λ bs. c.args.out.now.items ++ bs) c.to_le_bytes.ensures
