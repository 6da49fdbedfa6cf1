use Rattle.design_docs.proofs.ViewOrder.{views_are_in_order, views_are_few}
use Rattle.design_docs.proofs.laws.views_are_few_and_in_order.Goals as goal

pub returns-clause-ordered : goal.returns-clause-ordered
returns-clause-ordered c = views_are_in_order

pub returns-clause-few : goal.returns-clause-few
returns-clause-few c = views_are_few
