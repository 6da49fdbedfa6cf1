-- The length, and the bytes behind it.
use Rattle.std.proofs.Common.{rules}
use Rattle.tree_laws.specs.Nodes.{number_bytes}
use Rattle.node_file.proofs.record.record_of.Goals as goal

pub returns : goal.returns
unfolding number_bytes
returns c = search rules
