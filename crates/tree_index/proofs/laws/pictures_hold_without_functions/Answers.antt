use Rattle.tree_index.proofs.Pictures.{holds_without}
use Rattle.tree_index.proofs.laws.pictures_hold_without_functions.Goals as goal

pub returns : goal.returns
returns c = λ functions views root bytes picture holds. holds_without functions views root bytes picture holds
