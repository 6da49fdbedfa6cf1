use Rattle.tree_groups.proofs.Standing.{other_images_matter_not, others_matter_not}
use Rattle.tree_groups.proofs.laws.other_files_matter_not.Goals as goal

pub returns-clause-files : goal.returns-clause-files
returns-clause-files c = others_matter_not

pub returns-clause-images : goal.returns-clause-images
returns-clause-images c = other_images_matter_not
