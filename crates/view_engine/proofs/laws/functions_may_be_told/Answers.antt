use Rattle.view_engine.proofs.Forgetting.{files_may_be_told, images_may_be_told, may_forget}
use Rattle.view_engine.proofs.laws.functions_may_be_told.Goals as goal

pub returns-clause-files : goal.returns-clause-files
returns-clause-files c = files_may_be_told

pub returns-clause-images : goal.returns-clause-images
returns-clause-images c = images_may_be_told

pub returns-clause-none : goal.returns-clause-none
returns-clause-none c = may_forget
