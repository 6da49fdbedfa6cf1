-- Walking backwards, what stands behind the range comes before it.
use Rattle.std.proofs.Common.{sym}
use Rattle.view_model.proofs.Ends.{before_start_up, before_start_down}
use Rattle.view_model.proofs.find.before_start.Goals as goal

pub returns-then-query : goal.returns-then-query
returns-then-query c = sym (before_start_down c.args.query.now c.args.rows.now c.range_end.result c.if-query.true c.range_end.ensures)

pub returns-else-query : goal.returns-else-query
returns-else-query c = sym (before_start_up c.args.query.now c.args.rows.now c.range_start.result c.if-query.false c.range_start.ensures)
