use Rattle.node_file.specs.RecordLaws.{kept_longer}
use Rattle.node_file.proofs.laws.nodes_stay_in_longer_files.Goals as goal

pub returns : goal.returns
returns c = kept_longer
