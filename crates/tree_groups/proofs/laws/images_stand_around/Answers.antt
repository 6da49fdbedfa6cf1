use Rattle.tree_groups.proofs.Standing.{images_stand_around}
use Rattle.tree_groups.proofs.laws.images_stand_around.Goals as goal

pub returns : goal.returns
returns c = images_stand_around
