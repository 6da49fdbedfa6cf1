use Rattle.tree_index.proofs.Carried.{index_stands}
use Rattle.tree_index.proofs.laws.images_of_open_indexes_stand.Goals as goal

pub returns : goal.returns
returns c = λ functions views index files picture image at left. (index_stands functions views index files picture at).images image left
