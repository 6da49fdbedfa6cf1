use Rattle.tree_groups.proofs.Standing.{empty_folders_hold_none}
use Rattle.tree_groups.proofs.laws.empty_folders_hold_no_pictures.Goals as goal

pub returns : goal.returns
returns c = empty_folders_hold_none
