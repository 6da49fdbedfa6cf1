use Rattle.view_engine.proofs.Forgetting.{empty_folders_hold_worlds, images_hold}
use Rattle.view_engine.proofs.laws.folders_hold_worlds.Goals as goal

pub returns-clause-empty : goal.returns-clause-empty
returns-clause-empty c = empty_folders_hold_worlds c.empty_folders_hold_no_writes.ensures

pub returns-clause-images : goal.returns-clause-images
returns-clause-images c = images_hold
