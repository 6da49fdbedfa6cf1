use Rattle.view_model.proofs.Printed.{first_walked}
use Rattle.view_model.proofs.print.first.Goals as goal

pub returns-then-descending : goal.returns-then-descending
returns-then-descending c = first_walked c.args.descending c.args.count c.at_most-count.result c.args.rows.now c.if-descending.true c.at_most-count.ensures
