use Rattle.view_model.proofs.Printed.{without_first_walked}
use Rattle.view_model.proofs.print.without_first.Goals as goal

pub returns-then-descending : goal.returns-then-descending
returns-then-descending c = without_first_walked c.args.descending c.args.count c.at_most-count.result c.args.rows.now c.if-descending.true c.at_most-count.ensures
