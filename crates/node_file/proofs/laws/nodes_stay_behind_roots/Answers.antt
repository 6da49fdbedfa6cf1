use Rattle.node_file.specs.RecordLaws.{carried}
use Rattle.node_file.proofs.laws.nodes_stay_behind_roots.Goals as goal

pub returns : goal.returns
returns c = carried
