use Rattle.tree_groups.proofs.Standing.{image_kinds_are_free, kinds_are_free, open_kinds_are_free}
use Rattle.tree_groups.proofs.laws.kinds_are_free.Goals as goal

pub returns-clause-held : goal.returns-clause-held
returns-clause-held c = kinds_are_free

pub returns-clause-open : goal.returns-clause-open
returns-clause-open c = open_kinds_are_free

pub returns-clause-images : goal.returns-clause-images
returns-clause-images c = image_kinds_are_free
