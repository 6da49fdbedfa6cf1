use Rattle.tree_index.proofs.Carried.{index_stands}
use Rattle.tree_index.proofs.laws.files_of_open_indexes_hold.Goals as goal

pub returns : goal.returns
returns c = λ functions views index files picture at. index_stands functions views index files picture at
