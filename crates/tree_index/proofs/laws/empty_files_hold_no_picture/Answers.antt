use Rattle.tree_index.proofs.Carried.{empty_stands_none}
use Rattle.tree_index.proofs.laws.empty_files_hold_no_picture.Goals as goal

pub returns : goal.returns
returns c = λ functions views stem files empty. empty_stands_none functions views stem files empty
