use Rattle.tree_groups.proofs.Forgetting.{files_may_forget, images_may_forget, open_may_forget}
use Rattle.tree_groups.proofs.laws.functions_may_be_forgotten.Goals as goal

pub returns-clause-images : goal.returns-clause-images
returns-clause-images c = images_may_forget

pub returns-clause-files : goal.returns-clause-files
returns-clause-files c = files_may_forget

pub returns-clause-open : goal.returns-clause-open
returns-clause-open c = open_may_forget
