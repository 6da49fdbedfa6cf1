use Rattle.design_docs.proofs.ViewNames.{has_views_of_names}
use Rattle.design_docs.proofs.laws.views_are_found_by_name.Goals as goal

pub returns : goal.returns
returns c = has_views_of_names
