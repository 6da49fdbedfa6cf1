use Rattle.tree_index.proofs.Pictures.{one_picture}
use Rattle.tree_index.proofs.laws.pictures_are_one.Goals as goal

pub returns : goal.returns
returns c = λ functions functions' views views' root bytes one other holds holds'. one_picture functions functions' views views' root bytes one other holds holds'
