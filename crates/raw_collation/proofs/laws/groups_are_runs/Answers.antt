use Rattle.raw_collation.proofs.Runs.{are_runs}
use Rattle.raw_collation.proofs.laws.groups_are_runs.Goals as goal

pub returns : goal.returns
returns c = are_runs
