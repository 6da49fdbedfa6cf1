use Rattle.tree_groups.proofs.Standing.{files_stand}
use Rattle.tree_groups.proofs.laws.files_stand_for_pictures.Goals as goal

pub returns : goal.returns
returns c = files_stand
