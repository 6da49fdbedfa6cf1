-- The status is that of the fault.
use Rattle.std.proofs.Common.{sym, ◌∙◌}
use Rattle.couchview_cli.proofs.Statuses.{fault_no_usage}
use Rattle.couchview_cli.proofs.closing.close.Goals as goal

pub returns-in-Ok-clause-no_usage : goal.returns-in-Ok-clause-no_usage
returns-in-Ok-clause-no_usage g c = λ two. fault_no_usage c.args.fault (sym c.status_of.ensures ∙ two)
