use Rattle.node_file.specs.PastNodeLaws.{past_later, past_same}
use Rattle.node_file.proofs.laws.past_nodes_are_the_files.Goals as goal

pub returns-clause-same : goal.returns-clause-same
returns-clause-same g c = past_same g.F.Folder

pub returns-clause-later : goal.returns-clause-later
returns-clause-later g c = past_later g.F.Folder
