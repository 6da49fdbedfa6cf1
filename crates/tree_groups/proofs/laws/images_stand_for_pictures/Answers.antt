use Rattle.tree_groups.proofs.Standing.{images_stand}
use Rattle.tree_groups.proofs.laws.images_stand_for_pictures.Goals as goal

pub returns : goal.returns
returns c = images_stand
