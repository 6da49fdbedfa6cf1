use Rattle.view_model.proofs.RunGroups.{no_run_is_empty, runs_are_the_rows, runs_are_whole_groups}
use Rattle.view_model.proofs.laws.runs_are_groups.Goals as goal

pub returns : goal.returns
returns c = record { rows = runs_are_the_rows; some = no_run_is_empty; whole = runs_are_whole_groups }
