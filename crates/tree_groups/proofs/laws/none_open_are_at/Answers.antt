use Rattle.tree_groups.proofs.Standing.{none_open_are_at}
use Rattle.tree_groups.proofs.laws.none_open_are_at.Goals as goal

pub returns : goal.returns
returns c = none_open_are_at
