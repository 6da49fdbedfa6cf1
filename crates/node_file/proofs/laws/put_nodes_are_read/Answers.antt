use Rattle.node_file.specs.RecordLaws.{put_there}
use Rattle.node_file.proofs.laws.put_nodes_are_read.Goals as goal

pub returns : goal.returns
returns c = put_there
